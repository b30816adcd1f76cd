-- What an item does to facts, without the item: where each fact after it comes from.
use Rattle.std.specs.Prelude.{◌==◌, ℕ, Bool, ◌||◌, Option, Some, None, if◌then◌else◌}
use Rattle.flat_code.specs.Recognized.{Sequence}
use Rattle.flat_discipline.specs.Items.{Item}
use Rattle.flat_discipline.specs.Facts.{Fact, Source, Setting, Here, sets, clean_of, may_end, held_if, gone_if, sequence_source}

pub data Effect : Type 0 where
  -- every fact holds after it as before
  KeepsFacts : Effect
  -- A value is set; `clean` is where it comes from that the value is untainted, and `ends` that a block may end.
  Sets : (to : ℕ) → (clean : Source) → (ends : Bool) → Effect
  -- a sequence
  Checks : (q : Sequence) → Effect

abbrev pub effect_if : Option ℕ → Source → Bool → Effect
effect_if None clean ends = Effect.KeepsFacts
effect_if (Some to) clean ends = Effect.Sets to clean ends

abbrev pub effect : Setting → Here → Item → Effect
effect s h (Item.Plain x) = effect_if (sets x) (clean_of s h x) (may_end x)
effect s h (Item.Checks q) = Effect.Checks q
effect s h i = Effect.KeepsFacts

-- where a fact after it comes from
abbrev pub source_by : Effect → Fact → Source
source_by Effect.KeepsFacts x = Source.From x
source_by (Effect.Sets to clean ends) (Fact.Clean v) = if v == to then clean else Source.From (Fact.Clean v)
source_by (Effect.Sets to clean ends) (Fact.Own v) = held_if (v == to) (Source.From (Fact.Own v))
source_by (Effect.Sets to clean ends) (Fact.Spanned a n) = gone_if (ends || ((a == to) || (n == to))) (Source.From (Fact.Spanned a n))
source_by (Effect.Checks q) x = sequence_source q x
