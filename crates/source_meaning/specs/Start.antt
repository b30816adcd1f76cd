-- The world before a program starts: its global objects are there, laid out by declining padded size.
use Rattle.std.specs.Prelude.{ℕ, List, [], map, Option, Some, None, slice_get, pos}
use Rattle.size_table.specs.declared.memory_map.TheConstants.{GLOBALS_START, HEAP_START}
use Rattle.block_layout.specs.Layout.{Placed, layout, position_of}
use Rattle.block_layout.specs.Objects.{Stored, items_of, global_number}
use Rattle.typed_tree.specs.declared.typed.GlobalObject.{GlobalObject}
use Rattle.typed_tree.specs.declared.typed.InitialByte.{InitialByte}
use Rattle.typed_tree.specs.declared.typed.InitialByte.TheVariants as initial
use Rattle.source_meaning.specs.declared.values.Pointer.{Pointer}
use Rattle.source_meaning.specs.declared.values.Pointer.TheVariants.{To}
use Rattle.source_meaning.specs.declared.values.Cell.{Cell}
use Rattle.source_meaning.specs.declared.values.Cell.TheVariants.{Byte, Part}
use Rattle.source_meaning.specs.declared.values.ObjectKind.TheVariants.{Global}
use Rattle.source_meaning.specs.Objects.{Cells}
use Rattle.source_meaning.specs.Worlds.{World}
use Rattle.source_meaning.specs.Accounts.{object_of}

-- the pointer to a global object, where so many have names and the global objects are laid out so
abbrev pub pointer_to : (named : ℕ) → List Placed → GlobalObject → Pointer
pointer_to named plan o = To (position_of (global_number named o) plan) (pos 0)

-- what a byte holds at first (6.7.9 p10): what the initializer says, or zero
abbrev pub first_cell : (named : ℕ) → List Placed → Option InitialByte → Cell
first_cell named plan None = Byte 0
first_cell named plan (Some (initial.Byte b)) = Byte b
first_cell named plan (Some (initial.PointerPart target part)) = Part part (pointer_to named plan target)

abbrev pub initial_of : Option Stored → List InitialByte
initial_of None = []
initial_of (Some o) = o.initial

abbrev pub initial_at : List Stored → Option Placed → List InitialByte
initial_at os None = []
initial_at os (Some placed) = initial_of (slice_get os placed.number)

-- the objects are numbered as they are laid out
abbrev pub first_cells : (named : ℕ) → List Stored → List Placed → Cells
first_cells named os plan k i = first_cell named plan (slice_get (initial_at os (slice_get plan k)) i)

abbrev pub laid_out : (named : ℕ) → List Stored → List Placed → (input : List ℕ) → World
laid_out named os plan input = record {
  objects = map (object_of Global GLOBALS_START) plan;
  cells = first_cells named os plan;
  rest = input;
  output = [];
  depth = 0;
  stack = HEAP_START;
  trail = [];
  bytes = 0;
}

-- the world of these global objects, of which the first `named` have names
abbrev pub start_world : (g named : ℕ) → List Stored → (input : List ℕ) → World
start_world g named os input = laid_out named os (layout g (items_of os)) input
