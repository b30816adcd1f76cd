-- What is read and written in memory.
use Rattle.std.specs.Prelude.{◌==◌, ℕ, ◌+◌, ◌%◌, nat_lt, nat_le, Bool, true, false}
use Rattle.std.specs.Prelude.{if◌then◌else◌, List, Option, Some, None, ℤ, pos, negsuc}
use Rattle.bb_words.specs.Answers.{Goes, Ends, and_then}
use Rattle.bb_words.specs.declared.kinds.TrapKind.TheVariants as trap
use Rattle.bb_words.specs.declared.steps.Width.{Width}
use Rattle.bb_words.specs.declared.steps.Width.TheVariants as width
use Rattle.bb_words.specs.Steps.{size_of_width}
use Rattle.source_meaning.specs.declared.values.Pointer.{Pointer}
use Rattle.source_meaning.specs.declared.values.Pointer.TheVariants.{Null, To}
use Rattle.source_meaning.specs.declared.values.Value.{Value}
use Rattle.source_meaning.specs.declared.values.Value.TheVariants.{Num, Ptr}
use Rattle.source_meaning.specs.declared.values.Cell.{Cell}
use Rattle.source_meaning.specs.declared.values.OutsideCause.TheVariants.{Dead, Padding, Forged, Parts, Kind}
use Rattle.source_meaning.specs.declared.values.Ending.TheVariants.{Trapped}
use Rattle.source_meaning.specs.Objects.{Object, pad_of, cells_at, with_cells, number_in, pointer_in, stored_cells}
use Rattle.source_meaning.specs.Worlds.{World, Does, outside, object_at, is_sound}

-- an access at an offset of a live object: in its padded block, at a multiple of the size, and within its length
abbrev pub access_at : (size k : ℕ) → Object → (i : ℕ) → World → Does (ℕ × ℕ)
access_at size k o i w =
    if nat_lt i (pad_of o) then
    (if i % size == 0 then (if nat_le (i + size) o.length then Goes (k, i) w else outside Padding w)
    else Ends (Trapped trap.Misaligned) w)
    else Ends (Trapped trap.Marked) w

abbrev pub access_live : (size k : ℕ) → Object → ℤ → World → Does (ℕ × ℕ)
access_live size k o (pos i) w = access_at size k o i w
access_live size k o (negsuc i) w = Ends (Trapped trap.Marked) w

abbrev pub access_in : (size k : ℕ) → ℤ → Option Object → World → Does (ℕ × ℕ)
access_in size k z None w = outside Dead w
access_in size k z (Some o) w = if o.live then access_live size k o z w else outside Dead w

-- The object and the place in it that an access of so many bytes finds. In this order: the null pointer traps; a dead
-- object is outside; a pointer that does not point into the padded block of its object traps; so does one to no multiple
-- of the size; and bytes past the object's end are outside.
abbrev pub access : (size : ℕ) → Pointer → World → Does (ℕ × ℕ)
access size Null w = Ends (Trapped trap.Null) w
access size (To k z) w = access_in size k z (object_at w k) w

-- a byte is touched, whatever its cell holds
abbrev pub touch : Pointer → World → Does (ℕ × ℕ)
touch q w = access 1 q w

-- ---- Reading

-- a number in two's complement of two bytes
abbrev pub with_sign : ℕ → ℕ
with_sign n = if nat_lt n 32768 then n else n + 4294901760

abbrev pub number_read : (signed : Bool) → Option ℕ → World → Does Value
number_read signed None w = outside Parts w
number_read true (Some n) w = Goes (Num (with_sign n)) w
number_read false (Some n) w = Goes (Num n) w

abbrev pub pointer_read : Option Pointer → World → Does Value
pointer_read None w = outside Forged w
pointer_read (Some q) w = if is_sound w q then Goes (Ptr q) w else outside Forged w

-- Cells are read as a number, which may meet no part of a pointer, or as a pointer, which must stand there whole and point
-- to a live object.
abbrev pub read_as : Width → List Cell → World → Does Value
read_as width.Byte cs w = number_read false (number_in cs) w
read_as width.Half cs w = number_read false (number_in cs) w
read_as width.SignedHalf cs w = number_read true (number_in cs) w
read_as width.Word cs w = number_read false (number_in cs) w
read_as width.Pointer cs w = pointer_read (pointer_in cs) w

abbrev pub loaded_from : Width → ℕ × ℕ → World → Does Value
loaded_from width a w = read_as width (cells_at w.cells a.0 a.1 (size_of_width width)) w

-- what stands at a pointer
abbrev pub load : Width → Pointer → World → Does Value
load width q w = and_then (access (size_of_width width) q w) (loaded_from width)

-- ---- Writing

abbrev pub written_at : ℕ × ℕ → Option (List Cell) → World → Does Unit
written_at a None w = outside Kind w
written_at a (Some cs) w = Goes tt (record w { cells = with_cells w.cells a.0 a.1 cs })

-- a value comes to stand at a pointer
abbrev pub store : Width → Pointer → Value → World → Does Unit
store width q v w = and_then (access (size_of_width width) q w) (λ a. written_at a (stored_cells width v))
