-- What the machine does at parts. A part stands at a place of a text where the machine does there what the part says, so
-- what is proved of parts needs neither words nor distances.
use Rattle.std.specs.Prelude.{◌≡◌, ◌==◌, ℕ, ◌+◌, ◌-◌, ◌*◌, ◌≤◌, Bool, true, false, not, nat_eq}
use Rattle.std.specs.Prelude.{nat_lt, int_lt, if◌then◌else◌, List, [], ◌∷◌, ◌++◌, map, length, All, None}
use Rattle.bb_words.specs.Numbers.{signed}
use Rattle.bb_watch.specs.declared.event.Event.{Event}
use Rattle.bb_watch.specs.declared.event.Event.TheVariants.{Call}
use Rattle.bb_watch.specs.Told.{Happens}
use Rattle.rv_code.specs.declared.instr.Instr.{Instr}
use Rattle.size_table.specs.Memory.{Stand}
use Rattle.rv_machine.specs.State.{Core, register_of, set_register, with_core}
use Rattle.rv_machine.specs.Instruction.{core_step, core_events, effect, event_of}
use Rattle.rv_machine.specs.Environment.{World}
use Rattle.rv_machine.specs.Formed.{IsCore, IsWord}
use Rattle.rv_machine.specs.Machine.{step, steps}
use Rattle.rv_asm.specs.declared.parts.BranchOp.{BranchOp}
use Rattle.rv_asm.specs.declared.parts.BranchOp.TheVariants as op
use Rattle.rv_asm.specs.declared.parts.Part.{Part}
use Rattle.rv_asm.specs.declared.parts.Part.TheVariants.{Plain, Label, Branch, Jump}
use Rattle.rv_asm.specs.Parts.{times_in, long_sizes}
use Rattle.rv_asm.specs.Text.{text_of}

-- a core that has the text in its memory, at this place of it
pub record IsCoreAt (text : List ℕ) (place : ℕ) (c : Core) : Type 0 where
  pub here : c.pc ≡ place
  pub stands : Stand c.memory 4096 text
  pub form : IsCore c

-- a machine that goes on there
pub record IsAt (text : List ℕ) (place : ℕ) (w : World) : Type 0 where
  pub core : IsCoreAt text place w.machine.core
  pub running : w.machine.ending ≡ None

-- the core at another place
abbrev pub at_place : ℕ → Core → Core
at_place place c = record c { pc = place }

-- the machine with another core, after these events
abbrev pub gone : List Event → Core → World → World
gone events core w = record { machine = with_core core w.machine; left = w.left; told = w.told ++ map Happens events }

-- In at least one and at most so many instructions the machine goes to another place with the registers as in this core,
-- but that x5 may have any word, and tells these events.
pub record Takes (most : ℕ) (w : World) (place : ℕ) (events : List Event) (core : Core) : Type 0 where
  pub count : ℕ
  pub some : 1 ≤ count
  pub few : count ≤ most
  pub scratch : ℕ
  pub is_word : IsWord scratch
  pub comes : steps count w ≡ gone events (at_place place (set_register 5 scratch core)) w

-- whether a branch is taken, by two words
abbrev pub is_taken : BranchOp → ℕ → ℕ → Bool
is_taken op.Beq x y = nat_eq x y
is_taken op.Bne x y = not (nat_eq x y)
is_taken op.Blt x y = int_lt (signed x) (signed y)
is_taken op.Bge x y = not (int_lt (signed x) (signed y))
is_taken op.Bltu x y = nat_lt x y
is_taken op.Bgeu x y = not (nat_lt x y)

-- a branch that is taken may leave any word in x5; one that is not goes on behind it in one instruction
abbrev pub Branches : (taken : Bool) → World → (to behind : ℕ) → Type 0
Branches true w to behind = Takes 3 w to [] w.machine.core
Branches false w to behind = step w ≡ gone [] (at_place behind w.machine.core) w

-- A jump that links in x1 is a call: it is told as one whose return place is the place behind the part.
abbrev pub calls_if : (rd behind to : ℕ) → List Event
calls_if rd behind to = if rd == 1 then Call (behind - 4) to ∷ [] else []

-- the instruction at a place is done, and tells what it tells
pub record IsDone (text : List ℕ) (place : ℕ) (i : Instr) : Type 0 where
  pub step : (c : Core) → IsCoreAt text place c → core_step c ≡ effect i c
  pub events : (c : Core) → IsCoreAt text place c → core_events c ≡ event_of i c

-- a place is at least one word behind another
pub record IsBehind (at behind : ℕ) : Type 0 where
  pub words : ℕ
  pub some : 1 ≤ words
  pub is : behind ≡ at + 4 * words

-- The part, one of these parts, stands in the text from one place to another. A label that stands once has its place.
abbrev pub PartAt : (text : List ℕ) (all : List Part) (labels : ℕ → ℕ) (at : ℕ) (part : Part) (behind : ℕ) → Type 0
PartAt text all labels at (Plain i) behind = IsDone text at i × (behind ≡ at + 4)
PartAt text all labels at (Label l) behind = (times_in l all ≡ 1 → labels l ≡ at) × (behind ≡ at)
PartAt text all labels at (Branch op rs1 rs2 l) behind =
    ((w : World) → IsAt text at w →
    Branches (is_taken op (register_of w.machine.core rs1) (register_of w.machine.core rs2)) w (labels l) behind)
    × IsBehind at behind
PartAt text all labels at (Jump rd l) behind =
    ((w : World) → IsAt text at w →
    Takes 2 w (labels l) (calls_if rd behind (labels l)) (set_register rd behind w.machine.core))
    × IsBehind at behind

-- the parts stand one after another from one place to another
abbrev pub PartsAt : (text : List ℕ) (all : List Part) (labels : ℕ → ℕ) (at : ℕ) (parts : List Part) (behind : ℕ) → Type 0
PartsAt text all labels at [] behind = behind ≡ at
PartsAt text all labels at (part ∷ parts) behind =
    (next : ℕ) × PartAt text all labels at part next × PartsAt text all labels next parts behind

-- What parts are resolved to: their words, each branch and jump in the shortest form that reaches its label, which run
-- as the parts do from the start of the text to its end.
pub record IsResolved (parts : List Part) (text : List ℕ) : Type 0 where
  pub labels : ℕ → ℕ
  pub words : text ≡ text_of labels 4096 parts
  pub runs : PartsAt text parts labels 4096 parts (4096 + 4 * length text)
  pub size : 4 * length text ≤ long_sizes parts
  pub each : All IsWord text
