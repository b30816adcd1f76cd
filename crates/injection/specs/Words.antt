-- The words that stand for values, by the accounts of the objects.
use Rattle.std.specs.Prelude.{ℕ, ◌/◌, ◌%◌, ◌^◌, ℤ, List, Option, Some, None, slice_get}
use Rattle.marked_ptr.specs.Marked.{word_at}
use Rattle.source_meaning.specs.declared.values.Pointer.{Pointer}
use Rattle.source_meaning.specs.declared.values.Pointer.TheVariants.{Null, To}
use Rattle.source_meaning.specs.declared.values.Value.{Value}
use Rattle.source_meaning.specs.declared.values.Value.TheVariants.{Num, Ptr}
use Rattle.source_meaning.specs.declared.values.Cell.{Cell}
use Rattle.source_meaning.specs.declared.values.Cell.TheVariants.{Byte, Part}
use Rattle.source_meaning.specs.Objects.{Object}

abbrev pub word_in : Option Object → ℤ → ℕ
word_in None z = 0
word_in (Some o) z = word_at o.base o.exponent z

-- The null pointer is 0. Any other pointer is the address of its object with its offset, with a mark exactly where the
-- offset is outside the object's padded block.
abbrev pub word_of : List Object → Pointer → ℕ
word_of os Null = 0
word_of os (To k z) = word_in (slice_get os k) z

abbrev pub word_of_value : List Object → Value → ℕ
word_of_value os (Num n) = n
word_of_value os (Ptr q) = word_of os q

-- the byte of a cell: itself, or that of the word of its pointer, little endian
abbrev pub byte_of : List Object → Cell → ℕ
byte_of os (Byte b) = b
byte_of os (Part k q) = word_of os q / 256 ^ k % 256
