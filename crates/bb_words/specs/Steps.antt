-- What the operations of intermediate code answer, and how many bytes a width has.
use Rattle.std.specs.Prelude.{◌==◌, ℕ, Bool, not, nat_le, int_lt, bit_and, bit_or, bit_xor, if◌then◌else◌}
use Rattle.bb_words.specs.declared.steps.Width.{Width}
use Rattle.bb_words.specs.declared.steps.Width.TheVariants as width
use Rattle.bb_words.specs.declared.steps.ArithOp.{ArithOp}
use Rattle.bb_words.specs.declared.steps.ArithOp.TheVariants as op
use Rattle.bb_words.specs.declared.steps.DivideOp.{DivideOp}
use Rattle.bb_words.specs.declared.steps.DivideOp.TheVariants as divide
use Rattle.bb_words.specs.Numbers.{signed, sum, difference, product, signed_high_product, mixed_high_product}
use Rattle.bb_words.specs.Numbers.{unsigned_high_product, signed_quotient, unsigned_quotient, signed_remainder}
use Rattle.bb_words.specs.Numbers.{unsigned_remainder, left_shift, right_shift, signed_right_shift, signed_below, unsigned_below}

-- how many bytes an access has
abbrev pub size_of_width : Width → ℕ
size_of_width width.Byte = 1
size_of_width width.Half = 2
size_of_width width.SignedHalf = 2
size_of_width width.Word = 4
size_of_width width.Pointer = 4

-- 1 where it holds, else 0
abbrev pub flag : Bool → ℕ
flag b = if b then 1 else 0

-- the word of an operation on two words
abbrev pub arith : ArithOp → ℕ → ℕ → ℕ
arith op.Add a b = sum a b
arith op.Sub a b = difference a b
arith op.Mul a b = product a b
arith op.Mulh a b = signed_high_product a b
arith op.Mulhsu a b = mixed_high_product a b
arith op.Mulhu a b = unsigned_high_product a b
arith op.Div a b = signed_quotient a b
arith op.Divu a b = unsigned_quotient a b
arith op.Rem a b = signed_remainder a b
arith op.Remu a b = unsigned_remainder a b
arith op.Shl a b = left_shift a b
arith op.Shr a b = right_shift a b
arith op.Sar a b = signed_right_shift a b
arith op.Lts a b = signed_below a b
arith op.Ltu a b = unsigned_below a b
arith op.And a b = bit_and a b
arith op.Or a b = bit_or a b
arith op.Xor a b = bit_xor a b
arith op.Equal a b = flag (a == b)
arith op.Unequal a b = flag (not (a == b))
arith op.AtMostSigned a b = flag (not (int_lt (signed b) (signed a)))
arith op.AtMostUnsigned a b = flag (nat_le a b)

-- the word of a division whose divisor is not zero
abbrev pub divided : DivideOp → ℕ → ℕ → ℕ
divided divide.Div a b = signed_quotient a b
divided divide.Divu a b = unsigned_quotient a b
divided divide.Rem a b = signed_remainder a b
divided divide.Remu a b = unsigned_remainder a b
