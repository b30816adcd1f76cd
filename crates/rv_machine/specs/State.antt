-- What a machine holds.
use Rattle.std.specs.Prelude.{ℕ, ◌+◌, ◌==◌, if◌then◌else◌, List, Option, Some, slice_index, slice_set}
use Rattle.size_table.specs.declared.memory_map.TheConstants.{MEMORY_END}
use Rattle.size_table.specs.Blocks.{Block}
use Rattle.rv_machine.specs.declared.frames.Entered.{Entered}
use Rattle.rv_machine.specs.declared.stop.Halt.{Halt}

-- the program counter, the 32 registers and the bytes of the memory
pub record Core : Type 0 where
  pub pc : ℕ
  pub registers : List ℕ
  pub memory : List ℕ

-- The frames of the image, each by the exponents of its blocks, the calls that were entered and not left, the last
-- one last, and the stack number.
pub record Frames : Type 0 where
  pub layouts : List (List ℕ)
  pub entered : List Entered
  pub stack : ℕ

-- a core, its frames, the live blocks of the heap by their bases, and how the machine has ended, if it has
pub record State : Type 0 where
  pub core : Core
  pub frames : Frames
  pub heap : List Block
  pub ending : Option Halt

-- how many bytes the memory has; the number does not unfold by itself, since it is large
unfoldable pub memory_size : ℕ
memory_size = MEMORY_END

-- the content of a register
abbrev pub register_of : Core → ℕ → ℕ
register_of core at = slice_index core.registers at

-- a register is set; register 0 stays 0
abbrev pub set_register : ℕ → ℕ → Core → Core
set_register rd value core = record core { registers = if rd == 0 then core.registers else slice_set core.registers rd value }

-- the program counter goes on to the next instruction
abbrev pub next : Core → Core
next core = record core { pc = core.pc + 4 }

-- a register gets a value, and the next instruction comes
abbrev pub gives : ℕ → ℕ → Core → Core
gives rd value core = next (set_register rd value core)

abbrev pub with_memory : List ℕ → Core → Core
with_memory memory core = record core { memory = memory }

-- the machine has ended so
abbrev pub halted : Halt → State → State
halted halt s = record s { ending = Some halt }

abbrev pub with_core : Core → State → State
with_core core s = record s { core = core }
