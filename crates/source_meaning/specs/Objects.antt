-- Objects, and what their bytes hold. An object has cells; a cell holds a byte, or a part of a pointer. So a pointer that
-- is stored in memory stays a pointer, and nothing else can become one (C11 6.2.6.1, 6.3.2.3).
use Rattle.std.specs.Prelude.{◌==◌, ℕ, zero, suc, ◌+◌, ◌*◌, ◌/◌, ◌%◌, ◌^◌, Bool, true, false, ◌&&◌}
use Rattle.std.specs.Prelude.{if◌then◌else◌, List, [], ◌∷◌, map, Option, Some, None, slice_set, ℤ, pos, negsuc}
use Rattle.bb_words.specs.declared.steps.Width.{Width}
use Rattle.bb_words.specs.declared.steps.Width.TheVariants as width
use Rattle.source_meaning.specs.declared.values.Pointer.{Pointer}
use Rattle.source_meaning.specs.declared.values.Pointer.TheVariants.{Null, To}
use Rattle.source_meaning.specs.declared.values.Value.{Value}
use Rattle.source_meaning.specs.declared.values.Value.TheVariants.{Num, Ptr}
use Rattle.source_meaning.specs.declared.values.Cell.{Cell}
use Rattle.source_meaning.specs.declared.values.Cell.TheVariants.{Byte, Part}
use Rattle.source_meaning.specs.declared.values.ObjectKind.{ObjectKind}

-- An object without its cells: its kind, its length in bytes, whether it lives, and its account, the base and the
-- exponent of its padded block, which no expression reads.
pub record Object : Type 0 where
  pub kind : ObjectKind
  pub length : ℕ
  pub live : Bool
  pub base : ℕ
  pub exponent : ℕ

abbrev pub pad_of : Object → ℕ
pad_of o = 2 ^ o.exponent

-- what object k holds i bytes from its start
abbrev pub Cells : Type 0
Cells = (k i : ℕ) → Cell

-- ---- Cells

abbrev pub with_cell : Cells → ℕ → ℕ → Cell → Cells
with_cell cs k i c j n = if (j == k) && (n == i) then c else cs j n

-- n cells from i on
abbrev pub cells_at : Cells → ℕ → ℕ → ℕ → List Cell
cells_at cs k i zero = []
cells_at cs k i (suc n) = cs k i ∷ cells_at cs k (i + 1) n

abbrev pub with_cells : Cells → ℕ → ℕ → List Cell → Cells
with_cells cs k i [] = cs
with_cells cs k i (x ∷ xs) = with_cells (with_cell cs k i x) k (i + 1) xs

-- all cells of object k are zero
abbrev pub cleared : Cells → ℕ → Cells
cleared cs k j n = if j == k then Byte 0 else cs j n

-- n cells, one after another upwards, parts of pointers included
abbrev pub copied : ℕ → Cells → (k i j t : ℕ) → Cells
copied zero cs k i j t = cs
copied (suc n) cs k i j t = copied n (with_cell cs j t (cs k i)) k (i + 1) j (t + 1)

-- n cells with one byte
abbrev pub all_set : ℕ → Cells → (j t byte : ℕ) → Cells
all_set zero cs j t byte = cs
all_set (suc n) cs j t byte = all_set n (with_cell cs j t (Byte byte)) j (t + 1) byte

-- ---- Numbers and pointers in cells

-- the low n bytes of a word, little endian
abbrev pub bytes_of : ℕ → ℕ → List ℕ
bytes_of zero word = []
bytes_of (suc n) word = word % 256 ∷ bytes_of n (word / 256)

abbrev pub with_low_byte : ℕ → Option ℕ → Option ℕ
with_low_byte b None = None
with_low_byte b (Some n) = Some (b + 256 * n)

-- the number that cells hold, if all of them are bytes
abbrev pub number_in : List Cell → Option ℕ
number_in [] = Some 0
number_in (Byte b ∷ cs) = with_low_byte b (number_in cs)
number_in (Part k q ∷ cs) = None

-- a pointer as it is stored: null as four zero bytes, any other as its four parts
abbrev pub pointer_cells : Pointer → List Cell
pointer_cells Null = Byte 0 ∷ Byte 0 ∷ Byte 0 ∷ Byte 0 ∷ []
pointer_cells (To k z) = Part 0 (To k z) ∷ Part 1 (To k z) ∷ Part 2 (To k z) ∷ Part 3 (To k z) ∷ []

abbrev pub same_int : ℤ → ℤ → Bool
same_int (pos a) (pos b) = a == b
same_int (pos a) (negsuc b) = false
same_int (negsuc a) (pos b) = false
same_int (negsuc a) (negsuc b) = a == b

-- whether two pointers are both null, or have the same object and offset
abbrev pub same_pointer : Pointer → Pointer → Bool
same_pointer Null Null = true
same_pointer Null (To k z) = false
same_pointer (To k z) Null = false
same_pointer (To j y) (To k z) = (j == k) && same_int y z

abbrev pub same_cell : Cell → Cell → Bool
same_cell (Byte a) (Byte b) = a == b
same_cell (Byte a) (Part k q) = false
same_cell (Part k q) (Byte b) = false
same_cell (Part j p) (Part k q) = (j == k) && same_pointer p q

abbrev pub same_cells : List Cell → List Cell → Bool
same_cells [] [] = true
same_cells [] (d ∷ ds) = false
same_cells (c ∷ cs) [] = false
same_cells (c ∷ cs) (d ∷ ds) = same_cell c d && same_cells cs ds

-- the only pointer of which the cells can be all parts
abbrev pub candidate : List Cell → Pointer
candidate [] = Null
candidate (Byte b ∷ cs) = Null
candidate (Part k q ∷ cs) = q

-- the pointer whose parts, in order, the cells are, if there is one
abbrev pub pointer_in : List Cell → Option Pointer
pointer_in cs = if same_cells cs (pointer_cells (candidate cs)) then Some (candidate cs) else None

-- The cells of a value that is stored with a width, if it is of that kind.
abbrev pub stored_cells : Width → Value → Option (List Cell)
stored_cells width.Byte (Num n) = Some (map Byte (bytes_of 1 n))
stored_cells width.Half (Num n) = Some (map Byte (bytes_of 2 n))
stored_cells width.SignedHalf (Num n) = Some (map Byte (bytes_of 2 n))
stored_cells width.Word (Num n) = Some (map Byte (bytes_of 4 n))
stored_cells width.Pointer (Num n) = None
stored_cells width.Byte (Ptr q) = None
stored_cells width.Half (Ptr q) = None
stored_cells width.SignedHalf (Ptr q) = None
stored_cells width.Word (Ptr q) = None
stored_cells width.Pointer (Ptr q) = Some (pointer_cells q)

-- ---- Lists of objects

abbrev pub lives_in : Option Object → Bool
lives_in None = false
lives_in (Some o) = o.live

-- the objects once object k has ended
abbrev pub ended_in : List Object → ℕ → Option Object → List Object
ended_in os k None = os
ended_in os k (Some o) = slice_set os k (record o { live = false })
