-- What laying out a program answers: its layout, or what has no room.
use Rattle.std.specs.Prelude.{◌≡◌, ℕ, ◌+◌, ◌-◌, ◌<◌, ◌≤◌, nat_lt, min}
use Rattle.std.specs.Prelude.{if◌then◌else◌, All, List, length, map, take, Some, slice_get, Result, Ok, Err}
use Rattle.typed_tree.specs.declared.typed.GlobalObject.{GlobalObject}
use Rattle.typed_tree.specs.declared.typed.GlobalObject.TheVariants.{Named, Text}
use Rattle.typed_tree.specs.TypedTree.{CFunction, CProgram}
use Rattle.size_table.specs.declared.memory_map.TheConstants.{SLOT_EXPONENT, GLOBALS_START}
use Rattle.block_layout.specs.Layout as layout
use Rattle.block_layout.specs.Layout.{layout, total_of, alignment_of}
use Rattle.block_layout.specs.Objects.{global_items, block_items}
use Rattle.block_layout.specs.declared.error.LayoutError.{LayoutError}
use Rattle.block_layout.specs.declared.error.LayoutError.TheVariants.{GlobalsFull, FrameFull, Memory}
use Rattle.block_layout.specs.declared.globals.Placed.{Placed}
use Rattle.block_layout.specs.declared.globals.Layout.{Layout}
use Rattle.block_layout.specs.declared.frame.FrameBlock.{FrameBlock}
use Rattle.block_layout.specs.declared.frame.FramePlan.{FramePlan}

-- ---- How many bytes there may be

-- how many bytes the global objects may have with their padding
abbrev pub most_global_bytes : ℕ
most_global_bytes = 2097152

-- and the block locals of a function
abbrev pub most_frame_bytes : ℕ
most_frame_bytes = 4194304

-- a count as an answer has it: up to the greatest `u64`
abbrev pub counted : ℕ → ℕ
counted n = min n 18446744073709551615

abbrev pub global_bytes : CProgram → ℕ
global_bytes p = total_of SLOT_EXPONENT (global_items p)

abbrev pub frame_bytes : CFunction → ℕ
frame_bytes f = total_of SLOT_EXPONENT (block_items f)

-- ---- Layouts

-- the global object of a number, where so many have names: those come first, then the strings
abbrev pub object_at : (named number : ℕ) → GlobalObject
object_at named number = if nat_lt number named then Named number else Text (number - named)

-- a global object of a layout, at its address
abbrev pub global_at : (named : ℕ) → layout.Placed → Placed
global_at named p = record { object = object_at named p.number; base = GLOBALS_START + p.offset; exponent = p.exponent; length = p.length }

-- The layout of a program's global objects, with how many bytes they have together.
pub record IsLayout (p : CProgram) (l : Layout) : Type 0 where
  pub placed : l.placed ≡ map (global_at (length p.globals)) (layout SLOT_EXPONENT (global_items p))
  pub total : l.total ≡ global_bytes p

-- a block local of a layout, so many bytes above the frame's stack number
abbrev pub block_at : layout.Placed → FrameBlock
block_at p = record { local = p.number; offset = p.offset; exponent = p.exponent; length = p.length }

-- The layout of a function's block locals, with how many bytes they have together, and the exponent of its alignment.
pub record IsPlan (f : CFunction) (plan : FramePlan) : Type 0 where
  pub blocks : plan.blocks ≡ map block_at (layout SLOT_EXPONENT (block_items f))
  pub total : plan.total ≡ frame_bytes f
  pub align : plan.align ≡ alignment_of SLOT_EXPONENT (layout SLOT_EXPONENT (block_items f))

-- ---- What the calls answer

-- the layout of the global objects, or that they have too many bytes
abbrev pub IsGlobals : CProgram → Result Layout LayoutError → Type 0
IsGlobals p (Ok l) = (global_bytes p ≤ most_global_bytes) × IsLayout p l
IsGlobals p (Err (GlobalsFull total)) = (most_global_bytes < global_bytes p) × (total ≡ counted (global_bytes p))
IsGlobals p (Err (FrameFull name total)) = ⊥
IsGlobals p (Err Memory) = Unit {0}

-- the layout of a function's block locals, or that they have too many bytes
abbrev pub IsFrame : CFunction → Result FramePlan LayoutError → Type 0
IsFrame f (Ok plan) = (frame_bytes f ≤ most_frame_bytes) × IsPlan f plan
IsFrame f (Err (GlobalsFull total)) = ⊥
IsFrame f (Err (FrameFull name total)) = (most_frame_bytes < frame_bytes f) × (name ≡ f.name) × (total ≡ counted (frame_bytes f))
IsFrame f (Err Memory) = Unit {0}

-- ---- A whole program

-- all its objects have room
pub record ObjectsFit (p : CProgram) : Type 0 where
  pub globals : global_bytes p ≤ most_global_bytes
  pub frames : All (λ f. frame_bytes f ≤ most_frame_bytes) p.functions

-- the first function whose block locals have too many bytes: its name, and how many they have
pub record IsFirstFull (functions : List CFunction) (name : List ℕ) (total : ℕ) : Type 0 where
  pub number : ℕ
  pub function : CFunction
  pub found : slice_get functions number ≡ Some function
  pub full : most_frame_bytes < frame_bytes function
  pub before : All (λ f. frame_bytes f ≤ most_frame_bytes) (take number functions)
  pub named : name ≡ function.name
  pub counts : total ≡ counted (frame_bytes function)

-- some have no room: the global objects first, then the block locals of the functions in their order
abbrev pub DoNotFit : CProgram → LayoutError → Type 0
DoNotFit p (GlobalsFull total) = (most_global_bytes < global_bytes p) × (total ≡ counted (global_bytes p))
DoNotFit p (FrameFull name total) = (global_bytes p ≤ most_global_bytes) × IsFirstFull p.functions name total
DoNotFit p Memory = ⊥
