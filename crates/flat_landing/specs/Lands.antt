-- When runs of a machine are those of flat code.
use Rattle.std.specs.Prelude.{◌≡◌, ◌≢◌, ℕ, ◌≤◌, ◌%◌, List, [], Option, Some, None, IsSome}
use Rattle.bb_words.specs.Answers.{Answer}
use Rattle.bb_watch.specs.Told.{events_of}
use Rattle.bb_watch.specs.Safety.{Each, IsControlSafe, open_after}
use Rattle.size_table.specs.Blocks.{Block}
use Rattle.flat_code.specs.Told.{Stamped, tells, Begins, Came}
use Rattle.flat_code.specs.World.{FPoint, Ending, Run}
use Rattle.rv_machine.specs.declared.stop.Halt.{Halt}
use Rattle.rv_machine.specs.declared.stop.Halt.TheVariants.{Exited, Reported, Trapped}
use Rattle.rv_machine.specs.Environment.{World}
use Rattle.flat_landing.specs.Shared.{shared}

-- ---- Outcomes of flat code

-- how a run of flat code ends, and where it stands then
pub record Outcome : Type 0 where
  pub ending : Ending
  pub point : FPoint

abbrev pub outcome_of : {A : Type 0} → Run A → Outcome
outcome_of (Answer.Goes a u) = record { ending = Ending.Cut; point = u }
outcome_of (Answer.Ends ending u) = record { ending = ending; point = u }

-- how a machine has halted where flat code has ended so: the status of an exit is the low 8 bits of its word
abbrev pub halt_of : Ending → Option Halt
halt_of (Ending.Exited word) = Some (Exited (word % 256))
halt_of (Ending.Reported kind line) = Some (Reported kind line)
halt_of (Ending.Trapped kind) = Some (Trapped kind)
halt_of Ending.Cut = None

-- ---- Control

-- Accesses by x2 are to the control stack, accesses by x31 read bytes of the size table, and each call returns to the
-- instruction behind it.
pub record KeepsControl (globals : List Block) (w : World) : Type 0 where
  pub accesses : Each IsControlSafe globals globals (events_of w.told)
  pub returns : IsSome (open_after [] (events_of w.told))

-- ---- Landings

-- After so many instructions the machine has halted as flat code has ended, and not later than flat code's time. Where flat
-- code is cut at a bound the machine goes on, after at least as many instructions as that bound.
abbrev pub LandsSo : Ending → (bound time steps : ℕ) → Option Halt → Type 0
LandsSo (Ending.Exited word) bound time steps halt = (steps ≤ time) × (halt ≡ halt_of (Ending.Exited word))
LandsSo (Ending.Reported kind line) bound time steps halt = (steps ≤ time) × (halt ≡ halt_of (Ending.Reported kind line))
LandsSo (Ending.Trapped kind) bound time steps halt = (steps ≤ time) × (halt ≡ halt_of (Ending.Trapped kind))
LandsSo Ending.Cut bound time steps halt = (bound ≤ steps) × (halt ≡ None)

-- Where a machine comes to for the run of flat code with a bound on turns and nested calls: after some number of
-- instructions it stands as flat code does at the end, and has told the same; whatever flat code has told by a time, the
-- machine has told after as many instructions; and it keeps control.
pub record Lands (globals : List Block) (flat : Outcome) (bound : ℕ) (after : ℕ → World) : Type 0 where
  pub steps : ℕ
  pub so : LandsSo flat.ending bound flat.point.world.time steps (after steps).machine.ending
  pub said : shared (after steps).told ≡ tells flat.point.world.told
  pub control : KeepsControl globals (after steps)
  pub kept : (n : ℕ) (front : List Stamped) → Came flat.point.world.told n front → Begins (shared (after n).told) (tells front)

-- ---- Whole runs

-- What a machine's runs, by the number of instructions, are beside those of flat code, by the bound on turns and calls.
pub record RunsAs (globals : List Block) (flat : ℕ → Outcome) (after : ℕ → World) : Type 0 where
  -- what flat code has told by a time, the machine has told after as many instructions
  pub in_time : (m n : ℕ) (front : List Stamped) → Came (flat m).point.world.told n front → Begins (shared (after n).told) (tells front)
  -- where flat code has ended, the machine has halted so, and has told the same
  pub ends : (m n : ℕ) → (flat m).ending ≢ Ending.Cut → (flat m).point.world.time ≤ n →
      ((after n).machine.ending ≡ halt_of (flat m).ending) × (shared (after n).told ≡ tells (flat m).point.world.told)
  -- the machine has told no more after n instructions than flat code with n turns and calls
  pub no_more : (n : ℕ) → Begins (tells (flat n).point.world.told) (shared (after n).told)
  -- it halts only as flat code ends
  pub halts_only : (n : ℕ) → IsSome (after n).machine.ending →
      ((flat n).ending ≢ Ending.Cut) × ((after n).machine.ending ≡ halt_of (flat n).ending) × (shared (after n).told ≡ tells (flat n).point.world.told)
  pub control : (n : ℕ) → KeepsControl globals (after n)
