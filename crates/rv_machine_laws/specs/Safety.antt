-- When a run is safe: its events are, its size table is that of the live blocks, and it ends as it may.
use Rattle.std.specs.Prelude.{ℕ, ◌≤◌, List, [], Option, Some, IsSome}
use Rattle.bb_words.specs.declared.kinds.TrapKind.TheVariants.{Null, Marked, Misaligned}
use Rattle.bb_watch.specs.Told.{events_of}
use Rattle.bb_watch.specs.Live.{live_of}
use Rattle.bb_watch.specs.Safety.{Each, IsMoveSafe, IsAccessSafe, IsControlSafe, open_after}
use Rattle.rv_image.specs.declared.image.Image.{Image}
use Rattle.rv_machine.specs.declared.stop.Halt.{Halt}
use Rattle.rv_machine.specs.declared.stop.Halt.TheVariants.{Trapped}
use Rattle.rv_machine.specs.Environment.{World}
use Rattle.rv_machine.specs.Live.{global_blocks}
use Rattle.rv_machine.specs.Machine.{machine_after}
use Rattle.size_table.specs.Blocks.{Block}
use Rattle.size_table.specs.Table.{IsTableOf, table_in}

-- ---- Endings

-- a trap is one of an access to the null page, by a marked word, or at a place that is no multiple of its size
abbrev pub IsSafeEnding : Option Halt → Type 0
IsSafeEnding (Some (Trapped Null)) = Unit {0}
IsSafeEnding (Some (Trapped Marked)) = Unit {0}
IsSafeEnding (Some (Trapped Misaligned)) = Unit {0}
IsSafeEnding (Some (Trapped kind)) = ⊥
IsSafeEnding ending = Unit {0}

-- ---- Runs

-- what a run has come to keeps within its blocks and its code, where these blocks were live at the start
pub record IsContained (g : ℕ) (globals : List Block) (w : World) : Type 0 where
  pub moves : Each (IsMoveSafe g) globals globals (events_of w.told)
  pub accesses : Each (IsAccessSafe g) globals globals (events_of w.told)
  pub control : Each IsControlSafe globals globals (events_of w.told)
  pub table : IsTableOf g (live_of globals (events_of w.told)) (table_in w.machine.core.memory)
  pub returns : IsSome (open_after [] (events_of w.told))

-- it is safe if it has not ended by a trap of another kind besides
pub record IsSafe (g : ℕ) (globals : List Block) (w : World) : Type 0 where
  pub contained : IsContained g globals w
  pub traps : IsSafeEnding w.machine.ending

-- the first n instructions of an image keep within on an input
abbrev pub ContainedRun : ℕ → Image → List ℕ → ℕ → Type 0
ContainedRun g image input n = (k : ℕ) → k ≤ n → IsContained g (global_blocks image) (machine_after image input k)

-- they are safe
abbrev pub SafeRun : ℕ → Image → List ℕ → ℕ → Type 0
SafeRun g image input n = (k : ℕ) → k ≤ n → IsSafe g (global_blocks image) (machine_after image input k)
