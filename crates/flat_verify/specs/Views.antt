-- What the program's facts, effects, links and demands stand for: one view for each type, to that of the same name.
use Rattle.std.specs.Prelude.{◌≤◌, List, [], ◌∷◌, map, Some}
use Rattle.size_table.specs.Blocks.{Block, block_at}
use Rattle.flat_code.specs.declared.code.FlatFunction.{FlatFunction}
use Rattle.flat_code.specs.CodeViews.{function_of}
use Rattle.flat_code.specs.SequenceViews.{sequence_of}
use Rattle.flat_verify.specs.declared.facts.Fact.{Fact as FactWritten}
use Rattle.flat_verify.specs.declared.facts.Fact.TheVariants as fact
use Rattle.flat_verify.specs.declared.facts.Source.{Source as SourceWritten}
use Rattle.flat_verify.specs.declared.facts.Source.TheVariants as source
use Rattle.flat_verify.specs.declared.facts.Effect.{Effect as EffectWritten}
use Rattle.flat_verify.specs.declared.facts.Effect.TheVariants as effect
use Rattle.flat_verify.specs.declared.facts.Link.{Link as LinkWritten}
use Rattle.flat_verify.specs.declared.facts.Link.TheVariants as link
use Rattle.flat_verify.specs.declared.facts.Demand.{Demand as DemandWritten}
use Rattle.flat_verify.specs.declared.facts.GlobalBlock.{GlobalBlock}
use Rattle.flat_verify.specs.declared.global_blocks.GlobalBlocks.{GlobalBlocks}
use Rattle.flat_discipline.specs.Facts.{Fact, Source, Setting}
use Rattle.flat_verify.specs.Effects.{Effect}
use Rattle.flat_verify.specs.Links.{Link, Demand, demand}
use Rattle.flat_discipline.specs.Discipline.{setting_in}

abbrev pub fact_of : FactWritten → Fact
fact_of (fact.Clean v) = Fact.Clean v
fact_of (fact.Own v) = Fact.Own v
fact_of (fact.Spanned a n) = Fact.Spanned a n

abbrev pub source_of : SourceWritten → Source
source_of source.Held = Source.Held
source_of source.Gone = Source.Gone
source_of (source.From x) = Source.From (fact_of x)
source_of (source.FromCall f) = Source.FromCall f

abbrev pub effect_of : EffectWritten → Effect
effect_of effect.KeepsFacts = Effect.KeepsFacts
effect_of (effect.Sets to clean ends) = Effect.Sets to (source_of clean) ends
effect_of (effect.Checks q) = Effect.Checks (sequence_of q)

abbrev pub link_of : LinkWritten → Link
link_of (link.Goes e a b) = Link.Goes (effect_of e) a b
link_of (link.Passes a f args) = Link.Passes a f args.items
link_of (link.Returns a v) = Link.Returns a v

abbrev pub demand_of : DemandWritten → Demand
demand_of d = demand d.place d.at d.fits (map fact_of d.facts.items)

abbrev pub block_of : GlobalBlock → Block
block_of b = block_at b.base b.exponent

abbrev pub blocks_of : GlobalBlocks → List Block
blocks_of l = map block_of l.globals

-- the setting of a function, among all functions and global objects
abbrev pub setting_for : List GlobalBlock → List FlatFunction → FlatFunction → Setting
setting_for globals functions f = setting_in (map block_of globals) (map function_of functions) (Some (function_of f))

-- a block of a global object has at most 16 MiB
abbrev pub AreSmall : List GlobalBlock → Type 0
AreSmall [] = Unit {0}
AreSmall (b ∷ bs) = (b.exponent ≤ 24) × AreSmall bs
