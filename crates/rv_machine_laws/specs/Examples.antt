-- Small images: three whose runs are safe, and others of which each breaks one clause of safety.
use Rattle.std.specs.Prelude.{◌≡◌, ◌≢◌, ℕ, true, false, List, [], ◌∷◌, All, Some, IsSome}
use Rattle.bb_watch.specs.declared.event.Event.TheVariants.{Move, Access, Call, Return, Made, Ended}
use Rattle.rv_image.specs.declared.image.Image.{Image}
use Rattle.rv_machine.specs.declared.stop.Halt.TheVariants.{Exited}
use Rattle.rv_machine.specs.Environment.{World}
use Rattle.bb_watch.specs.Told.{events_of}
use Rattle.rv_machine.specs.Formed.{IsByte}
use Rattle.bb_watch.specs.Live.{live_of}
use Rattle.rv_machine.specs.Live.{global_blocks}
use Rattle.bb_watch.specs.Safety.{Each, IsMoveSafe, IsAccessSafe, IsControlSafe, open_after}
use Rattle.rv_machine.specs.Machine.{machine_after}
use Rattle.rv_machine_laws.specs.Safety.{IsSafeEnding, SafeRun}
use Rattle.size_table.specs.Table.{IsTableOf, table_in}

-- ---- Images

-- an image of these words, without global objects and frames
abbrev pub image_with : (words : List ℕ) → Image
image_with words = record { version = 1; entry = 4096; globals = []; frames = []; initial = []; text = words }

-- addi x10, x0, 42; addi x17, x0, 1; ecall: exits with status 42
abbrev pub forty_two : Image
forty_two = image_with (0x02A0_0513 ∷ 0x0010_0893 ∷ 0x0000_0073 ∷ [])

-- An image with a block of 16 bytes, that of a global object. It moves a pointer within the block, writes to the block,
-- calls a function and exits. The function stores its return address on the control stack, reads a byte of the size
-- table and returns.
abbrev pub uses_block : Image
uses_block = record {
  version = 1;
  entry = 4096;
  globals = 4 ∷ [];
  frames = [];
  initial = [];
  text =
      -- lui x5, 0xA00; addi x6, x5, 4; add x0, x5, x6; sw x5, 0(x6)
      0x00A0_02B7 ∷ 0x0042_8313 ∷ 0x0062_8033 ∷ 0x0053_2023
      -- jal x1, 8; ecall
      ∷ 0x0080_00EF ∷ 0x0000_0073
      -- sw x1, -4(x2); lbu x7, 0(x31); addi x17, x0, 1; jalr x0, 0(x1)
      ∷ 0xFE11_2E23 ∷ 0x000F_C383 ∷ 0x0010_0893 ∷ 0x0000_8067 ∷ [];
}

-- An image with a frame of one block of 16 bytes. It enters the frame, writes to its block, leaves it, reads from where
-- the block was, and exits.
abbrev pub uses_frame : Image
uses_frame = record {
  version = 1;
  entry = 4096;
  globals = [];
  frames = (4 ∷ []) ∷ [];
  initial = [];
  text =
      -- addi x17, x0, 7; ecall; addi x5, x10, 0; sw x0, 0(x5)
      0x0070_0893 ∷ 0x0000_0073 ∷ 0x0005_0293 ∷ 0x0002_A023
      -- addi x10, x0, 0; addi x17, x0, 8; ecall
      ∷ 0x0000_0513 ∷ 0x0080_0893 ∷ 0x0000_0073
      -- lw x6, 0(x5); addi x17, x0, 1; ecall
      ∷ 0x0002_A303 ∷ 0x0010_0893 ∷ 0x0000_0073 ∷ [];
}

-- add x0, x5, x6: moves the word 0, which no block owns
abbrev pub moves_unowned : Image
moves_unowned = image_with (0x0062_8033 ∷ [])

-- lui x5, 0xC00; lw x6, 0(x5): reads a word of the data stack, where no block is live
abbrev pub reads_unowned : Image
reads_unowned = image_with (0x00C0_02B7 ∷ 0x0002_A303 ∷ [])

-- sw x0, 0(x31): writes to the size table
abbrev pub writes_table : Image
writes_table = image_with (0x000F_A023 ∷ [])

-- addi x6, x0, 1; sb x6, 0(x31): changes the size table, where no block is
abbrev pub changes_table : Image
changes_table = image_with (0x0010_0313 ∷ 0x006F_8023 ∷ [])

-- jalr x0, 0(x1): returns, where no call is open
abbrev pub returns_nowhere : Image
returns_nowhere = image_with (0x0000_8067 ∷ [])

-- ebreak: traps
abbrev pub breaks : Image
breaks = image_with (0x0010_0073 ∷ [])

-- ---- Laws

-- a run can be safe, however long
abbrev pub ExampleIsSafe : Type 0
ExampleIsSafe = (input : List ℕ) (n : ℕ) → SafeRun 4 forty_two input n

-- it exits after three instructions, and tells nothing
abbrev pub ExampleExits : Type 0
ExampleExits = (input : List ℕ) → ((machine_after forty_two input 3).machine.ending ≡ Some (Exited 42)) × ((machine_after forty_two input 3).told ≡ [])

-- So can a run with a move, a call, a return, and accesses to a block, to the control stack and to the size table.
abbrev pub BlockIsUsedSafely : Type 0
BlockIsUsedSafely = (input : List ℕ) (n : ℕ) → All IsByte input → SafeRun 4 uses_block input n

-- what it tells in its 10 instructions, with which it exits
pub record UsesBlock (w : World) : Type 0 where
  pub events : events_of w.told ≡ Move 4104 10485760 10485764 ∷ Access 4108 10485764 4 true 6 ∷ Call 4112 4120 ∷ Access 4120 10485756 4 true 2
      ∷ Access 4124 2097152 1 false 31 ∷ Return 4132 4116 ∷ []
  pub ending : w.machine.ending ≡ Some (Exited 0)

abbrev pub BlockIsUsed : Type 0
BlockIsUsed = (input : List ℕ) → UsesBlock (machine_after uses_block input 10)

-- So can a run with a block that is made and ended, and with an access to where it was.
abbrev pub FrameIsUsedSafely : Type 0
FrameIsUsedSafely = (input : List ℕ) (n : ℕ) → All IsByte input → SafeRun 4 uses_frame input n

-- what it tells in its 10 instructions, with which it exits
pub record UsesFrame (w : World) : Type 0 where
  pub events : events_of w.told ≡ Made 16777200 4 ∷ Access 4108 16777200 4 true 5 ∷ Ended 16777200 4 ∷ Access 4124 16777200 4 false 5 ∷ []
  pub ending : w.machine.ending ≡ Some (Exited 0)

abbrev pub FrameIsUsed : Type 0
FrameIsUsed = (input : List ℕ) → All IsByte input → UsesFrame (machine_after uses_frame input 10)

-- the clauses of safety
pub data Clause : Type 0 where
  OnMoves : Clause
  OnAccesses : Clause
  OnControl : Clause
  OnTable : Clause
  OnReturns : Clause
  OnTraps : Clause

-- what each says of what a run of the image has come to
abbrev pub Holds : Clause → Image → World → Type 0
Holds OnMoves image w = Each (IsMoveSafe 4) (global_blocks image) (global_blocks image) (events_of w.told)
Holds OnAccesses image w = Each (IsAccessSafe 4) (global_blocks image) (global_blocks image) (events_of w.told)
Holds OnControl image w = Each IsControlSafe (global_blocks image) (global_blocks image) (events_of w.told)
Holds OnTable image w = IsTableOf 4 (live_of (global_blocks image) (events_of w.told)) (table_in w.machine.core.memory)
Holds OnReturns image w = IsSome (open_after [] (events_of w.told))
Holds OnTraps image w = IsSafeEnding w.machine.ending

-- after so many instructions of the image the clause is broken
abbrev pub Breaks : Clause → Image → ℕ → Type 0
Breaks clause image n = (input : List ℕ) → Holds clause image (machine_after image input n) → ⊥

-- and no other is
abbrev pub BreaksAlone : Clause → Image → ℕ → Type 0
BreaksAlone clause image n = Breaks clause image n
    × ((input : List ℕ) (other : Clause) → other ≢ clause → Holds other image (machine_after image input n))

-- Each clause but the one on the table refuses a run that no other clause refuses. That one follows from those on
-- accesses and control (TableIsKept), and refuses a run too.
pub record ClausesRefuse : Type 0 where
  pub moves : BreaksAlone OnMoves moves_unowned 1
  pub accesses : BreaksAlone OnAccesses reads_unowned 2
  pub control : BreaksAlone OnControl writes_table 1
  pub table : Breaks OnTable changes_table 2
  pub returns : BreaksAlone OnReturns returns_nowhere 1
  pub traps : BreaksAlone OnTraps breaks 1

-- so no run of such an image is safe
pub record UnsafeExamples : Type 0 where
  pub moves : (input : List ℕ) → SafeRun 4 moves_unowned input 1 → ⊥
  pub accesses : (input : List ℕ) → SafeRun 4 reads_unowned input 2 → ⊥
  pub control : (input : List ℕ) → SafeRun 4 writes_table input 1 → ⊥
  pub table : (input : List ℕ) → SafeRun 4 changes_table input 2 → ⊥
  pub returns : (input : List ℕ) → SafeRun 4 returns_nowhere input 1 → ⊥
  pub traps : (input : List ℕ) → SafeRun 4 breaks input 1 → ⊥
