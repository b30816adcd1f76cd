-- What holds of every machine that a run of an image comes to.
use Rattle.std.specs.Prelude.{◌≡◌, ◌⊎◌, ℕ, ◌^◌, ◌<◌, ◌≤◌, List, ◌++◌, length, All}
use Rattle.rv_image.specs.declared.image.Image.{Image}
use Rattle.rv_image.specs.Rules.{slot_of}
use Rattle.rv_machine.specs.Environment.{World}
use Rattle.bb_watch.specs.Told.{events_of}
use Rattle.rv_machine.specs.Frames.{AreCalls}
use Rattle.bb_watch.specs.Live.{live_of}
use Rattle.rv_machine.specs.Live.{global_blocks, call_blocks}
use Rattle.rv_machine.specs.State.{Core, register_of, memory_size}
use Rattle.size_table.specs.declared.memory_map.TheConstants.{STACK_START, GLOBALS_START, HEAP_START, MEMORY_END, MOST_CALLS}
use Rattle.size_table.specs.Blocks.{Block, IsBlock, AreDisjoint, SameBlocks, end_of}

-- ---- Registers and memory

abbrev pub IsWord : ℕ → Type 0
IsWord n = n < 2 ^ 32

abbrev pub IsByte : ℕ → Type 0
IsByte n = n < 256

-- there are 32 registers with words in them, of which register 0 is 0, and the memory has its size and bytes in it
pub record IsCore (c : Core) : Type 0 where
  pub pc : IsWord c.pc
  pub registers : length c.registers ≡ 32
  pub words : All IsWord c.registers
  pub zero : register_of c 0 ≡ 0
  pub memory : length c.memory ≡ memory_size
  pub bytes : All IsByte c.memory

-- ---- Blocks

-- the block lies among the globals, on the data stack, or in the heap
abbrev pub IsInHeap : Block → Type 0
IsInHeap b = (HEAP_START ≤ b.base) × (end_of b ≤ MEMORY_END)

abbrev pub IsInRegion : Block → Type 0
IsInRegion b = ((GLOBALS_START ≤ b.base) × (end_of b ≤ STACK_START)) ⊎ (((STACK_START ≤ b.base) × (end_of b ≤ HEAP_START)) ⊎ IsInHeap b)

-- each block is aligned to its size and lies in its region, and no two of them meet
pub record AreLaidOut (g : ℕ) (blocks : List Block) : Type 0 where
  pub each : All (IsBlock g) blocks
  pub regions : All IsInRegion blocks
  pub disjoint : AreDisjoint blocks

-- each block is aligned to its size and lies in the heap, and no two of them meet
pub record IsHeap (g : ℕ) (blocks : List Block) : Type 0 where
  pub each : All (IsBlock g) blocks
  pub within : All IsInHeap blocks
  pub disjoint : AreDisjoint blocks

-- ---- The whole machine

-- the blocks that live after what was told
abbrev pub live_in : Image → World → List Block
live_in image w = live_of (global_blocks image) (events_of w.told)

-- A machine of the image, with its input and what it has told: its core is one, no more calls are entered than may be, each
-- under the one before it from the upper end of the data stack on, and the blocks that live after what was told are
-- those of the globals, of these calls and of the heap.
pub record IsFormed (image : Image) (w : World) : Type 0 where
  pub core : IsCore w.machine.core
  pub input : All IsByte w.left
  pub layouts : w.machine.frames.layouts ≡ image.frames
  pub calls : AreCalls image.frames HEAP_START w.machine.frames.entered w.machine.frames.stack
  pub few : length w.machine.frames.entered ≤ MOST_CALLS
  pub heap : IsHeap (slot_of image) w.machine.heap
  pub live : SameBlocks (live_in image w) (global_blocks image ++ (call_blocks image.frames w.machine.frames.entered ++ w.machine.heap))
