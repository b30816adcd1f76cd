-- What follows from landings, and what is shared of lists that were told.
use Rattle.std.specs.Prelude.{◌≡◌, ℕ, ◌≤◌, List, [], ◌∷◌, ◌++◌, All, length, Some}
use Rattle.bb_watch.specs.Told as machine
use Rattle.size_table.specs.Blocks.{Block}
use Rattle.flat_code.specs.Told.{Stamped, tells, Begins, Came}
use Rattle.rv_machine.specs.Environment.{World}
use Rattle.rv_machine.specs.Machine.{steps}
use Rattle.flat_landing.specs.Shared.{shared}
use Rattle.flat_landing.specs.Lands.{Outcome, Lands, RunsAs}

abbrev pub SharedAppends : Type 0
SharedAppends = (xs ys : List machine.Tell) → shared (xs ++ ys) ≡ shared xs ++ shared ys

-- What a machine has told is kept: where it has told by n instructions all that was told until a time, and after k
-- instructions this and one thing more, whose time is at least k, then it has told by n all that came by then.
abbrev pub KeptMore : Type 0
KeptMore =
    (w : World) (told : List Stamped) (x : Stamped) (k : ℕ)
    → ((n : ℕ) (front : List Stamped) → Came told n front → Begins (shared (steps n w).told) (tells front))
    → k ≤ x.time → shared (steps k w).told ≡ tells (told ++ x ∷ [])
    → (n : ℕ) (front : List Stamped) → Came (told ++ x ∷ []) n front → Begins (shared (steps n w).told) (tells front)

-- A machine that lands for every bound runs as flat code does.
abbrev pub LandingsRun : Type 0
LandingsRun =
    (globals : List Block) (flat : ℕ → Outcome) (w : World)
    → ((m : ℕ) → Lands globals (flat m) m (λ n. steps n w)) → RunsAs globals flat (λ n. steps n w)
