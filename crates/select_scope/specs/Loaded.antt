-- A machine that runs selected code beside flat code: what stands where, and when both agree at a point.
use Rattle.std.specs.Prelude.{◌≡◌, ℕ, ◌+◌, ◌-◌, ◌*◌, ◌%◌, ◌<◌, ◌≤◌}
use Rattle.std.specs.Prelude.{List, [], ◌∷◌, length, slice_index, Option, Some, None}
use Rattle.bb_watch.specs.Live as machine_live
use Rattle.bb_watch.specs.Told.{events_of}
use Rattle.bb_watch.specs.Safety.{Each, IsControlSafe, open_after}
use Rattle.size_table.specs.Blocks.{Block}
use Rattle.size_table.specs.Memory.{word_at, Stand}
use Rattle.size_table.specs.declared.memory_map.TheConstants.{TABLE_START, CONTROL_START, GLOBALS_START, HEAP_START, MEMORY_END}
use Rattle.size_table.specs.Table.{IsTableOf, table_in}
use Rattle.flat_code.specs.Safety.{live_of}
use Rattle.flat_code.specs.Told.{Tell, Stamped, tells, Begins, Came}
use Rattle.flat_code.specs.World.{Words, FWorld, FPoint}
use Rattle.rv_machine.specs.Changes.{AreOffTable}
use Rattle.rv_machine.specs.declared.frames.Entered.{Entered}
use Rattle.rv_machine.specs.State.{Core, register_of}
use Rattle.rv_machine.specs.Environment.{World}
use Rattle.rv_machine.specs.Machine.{steps}
use Rattle.rv_machine.specs.Formed.{IsCore}
use Rattle.rv_asm.specs.declared.parts.Part.{Part}
use Rattle.rv_asm.specs.Parts.{times_in}
use Rattle.rv_asm.specs.Runs.{IsAt}
use Rattle.rv_selected.specs.Straight.{Held}
use Rattle.rv_selected.specs.Follows.{Stands}
use Rattle.flat_landing.specs.Shared.{shared}

-- The text of a machine with the parts that it was made of and the places of their labels, the machine before its first
-- instruction, the blocks of the global objects, and the layouts of frames.
pub record Loaded : Type 0 where
  pub text : List ℕ
  pub all : List Part
  pub labels : ℕ → ℕ
  pub start : World
  pub globals : List Block
  pub frames : List (List ℕ)

-- the machine after so many instructions
abbrev pub after : Loaded → ℕ → World
after s n = steps n s.start

-- After each instruction the core is one, and the text stands in its memory; so many labels stand once each; the program
-- counter is a multiple of 4; and the size table is that of the live blocks, where the program has not written to it.
pub record IsLoaded (s : Loaded) : Type 0 where
  pub form : (n : ℕ) → IsCore (after s n).machine.core
  pub stands : (n : ℕ) → Stand (after s n).machine.core.memory 4096 s.text
  pub room : 4 * length s.text ≤ 2093056
  pub count : ℕ
  pub once : (l : ℕ) → l < count → times_in l s.all ≡ 1
  pub aligned : (n : ℕ) → (after s n).machine.core.pc % 4 ≡ 0
  pub tables : (n : ℕ) → AreOffTable (events_of (after s n).told)
      → IsTableOf 4 (machine_live.live_of s.globals (events_of (after s n).told)) (table_in (after s n).machine.core.memory)

-- the machine before its first instruction, beside the first world of flat code
pub record StartsAs (s : Loaded) (w : FWorld) : Type 0 where
  pub pc : (after s 0).machine.core.pc ≡ 4096
  pub running : (after s 0).machine.ending ≡ None
  pub base : register_of (after s 0).machine.core 2 ≡ GLOBALS_START
  pub memory : (at : ℕ) → GLOBALS_START ≤ at → at < MEMORY_END → slice_index (after s 0).machine.core.memory at ≡ w.memory at
  pub stack : (after s 0).machine.frames.stack ≡ HEAP_START
  pub layouts : (after s 0).machine.frames.layouts ≡ s.frames
  pub entered : (after s 0).machine.frames.entered ≡ []
  pub left : (after s 0).left ≡ w.input
  pub live : w.live ≡ s.globals
  pub told : (after s 0).told ≡ []

-- ---- The call that runs

-- Where its control frame lies and how many values it has, where it returns to, where all calls do that have not returned,
-- the last one first, which calls are entered, and the bytes of the control stack above its frame.
pub record Frame : Type 0 where
  pub sp : ℕ
  pub values : ℕ
  pub back : ℕ
  pub places : List ℕ
  pub entered : List Entered
  pub old : ℕ → ℕ

-- the end of the frame, which has one word more than values: the place to return to
abbrev pub edge : Frame → ℕ
edge f = f.sp + 4 * (f.values + 1)

-- It lies in the control stack, and each call that may still be entered has room below it.
pub record HasRoom (f : Frame) : Type 0 where
  pub low : CONTROL_START + 1024 * (4096 - length f.entered) ≤ f.sp
  pub high : f.sp + 4 * (f.values + 1) ≤ GLOBALS_START
  pub aligned : f.sp % 4 ≡ 0
  pub few : f.values ≤ 255

-- ---- Agreement

-- the registers of a core, and the words of its control frame
abbrev pub held_of : (sp : ℕ) → Core → Held
held_of sp c = record { register = λ r. register_of c r; word = λ o. word_at c.memory (sp + o) }

-- The core has this control frame, with these values in it; x5 has the one that it is known to hold.
pub record HoldsFrame (f : Frame) (known : Option ℕ) (words : Words) (c : Core) : Type 0 where
  pub base : register_of c 2 ≡ f.sp
  pub stands : Stands f.values known words (held_of f.sp c)
  pub behind : word_at c.memory (f.sp + 4 * f.values) ≡ f.back

-- what was told is no access below the globals
abbrev pub IsHigh : Tell → Type 0
IsHigh (Tell.Access at size write) = GLOBALS_START ≤ at
IsHigh what = Unit {0}

abbrev pub AreHigh : List Tell → Type 0
AreHigh [] = Unit {0}
AreHigh (what ∷ more) = IsHigh what × AreHigh more

-- The blocks that live are those of what was told, all accesses that were told are to the globals or above, and the stack
-- number is not past the end of the data stack.
pub record IsSettled (globals : List Block) (w : FWorld) : Type 0 where
  pub live : w.live ≡ live_of globals (tells w.told)
  pub high : AreHigh (tells w.told)
  pub stack : w.stack ≤ HEAP_START

-- A machine agrees with a world of flat code, but for the values of the call that runs: from the globals on both have the
-- same bytes, and both have told the same; it has kept control.
pub record Agrees (s : Loaded) (f : Frame) (w : FWorld) (v : World) : Type 0 where
  pub memory : (at : ℕ) → GLOBALS_START ≤ at → at < MEMORY_END → slice_index v.machine.core.memory at ≡ w.memory at
  pub above : (at : ℕ) → f.sp + 4 * (f.values + 1) ≤ at → at < GLOBALS_START → slice_index v.machine.core.memory at ≡ f.old at
  pub stack : register_of v.machine.core 8 ≡ w.stack
  pub table : register_of v.machine.core 26 ≡ TABLE_START
  pub number : v.machine.frames.stack ≡ w.stack
  pub layouts : v.machine.frames.layouts ≡ s.frames
  pub entered : v.machine.frames.entered ≡ f.entered
  pub depth : w.depth ≡ length f.entered
  pub input : v.left ≡ w.input
  pub said : shared v.told ≡ tells w.told
  pub accesses : Each IsControlSafe s.globals s.globals (events_of v.told)
  pub returns : open_after [] (events_of v.told) ≡ Some f.places
  pub settled : IsSettled s.globals w

-- whatever was told by a time, the machine has told after as many instructions
pub record IsKept (s : Loaded) (told : List Stamped) : Type 0 where
  pub by : (n : ℕ) (front : List Stamped) → Came told n front → Begins (shared (after s n).told) (tells front)

-- after k instructions the machine stands at a place as flat code does at a point
pub record At (s : Loaded) (f : Frame) (place : ℕ) (known : Option ℕ) (u : FPoint) (k : ℕ) : Type 0 where
  pub at : IsAt s.text place (after s k)
  pub frame : HoldsFrame f known u.words (after s k).machine.core
  pub agrees : Agrees s f u.world (after s k)
  pub soon : k ≤ u.world.time
  pub kept : IsKept s u.world.told
