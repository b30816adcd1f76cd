-- What the operators of C give for numbers (C11 6.5). All numbers have 32 bits; sums, differences and products wrap, signed
-- ones too; shift counts are taken modulo 32.
use Rattle.std.specs.Prelude.{◌==◌, ℕ, ◌%◌, nat_lt, Bool, true, false, not, bit_and, bit_or, bit_xor, int_lt}
use Rattle.bb_words.specs.Numbers.{signed, sum, difference, product, signed_quotient, unsigned_quotient}
use Rattle.bb_words.specs.Numbers.{signed_remainder, unsigned_remainder, left_shift, right_shift, signed_right_shift}
use Rattle.bb_words.specs.Steps.{flag}
use Rattle.c_words.specs.declared.operators.BinaryOperator.{BinaryOperator}
use Rattle.c_words.specs.declared.operators.BinaryOperator.TheVariants as op
use Rattle.typed_tree.specs.Types.{CType}

-- 6.3.1.3: a number given to a type: a char takes its low 8 bits
abbrev pub fitted : CType → ℕ → ℕ
fitted CType.Char n = n % 256
fitted CType.Void n = n
fitted CType.Int n = n
fitted CType.Unsigned n = n
fitted (CType.Struct k) n = n
fitted (CType.Pointer t) n = n
fitted (CType.Array t m) n = n

-- 6.5.8 p6: whether one number is less than another, as signed or unsigned ones
abbrev pub is_less : (is_unsigned : Bool) → ℕ → ℕ → Bool
is_less true x y = nat_lt x y
is_less false x y = int_lt (signed x) (signed y)

-- 6.5.5 p6
abbrev pub quotient : (is_unsigned : Bool) → ℕ → ℕ → ℕ
quotient true x y = unsigned_quotient x y
quotient false x y = signed_quotient x y

abbrev pub remainder : (is_unsigned : Bool) → ℕ → ℕ → ℕ
remainder true x y = unsigned_remainder x y
remainder false x y = signed_remainder x y

-- 6.5.7 p5: a signed number is shifted to the right with its sign
abbrev pub shifted_right : (is_unsigned : Bool) → ℕ → ℕ → ℕ
shifted_right true x y = right_shift x y
shifted_right false x y = signed_right_shift x y

-- An operator on two numbers of one type, or, for a shift, of the left one's. `&&` and `||` are no operators on two values.
abbrev pub on_numbers : BinaryOperator → (is_unsigned : Bool) → ℕ → ℕ → ℕ
on_numbers op.Multiply u x y = product x y
on_numbers op.Divide u x y = quotient u x y
on_numbers op.Remainder u x y = remainder u x y
on_numbers op.Add u x y = sum x y
on_numbers op.Subtract u x y = difference x y
on_numbers op.ShiftLeft u x y = left_shift x y
on_numbers op.ShiftRight u x y = shifted_right u x y
on_numbers op.Less u x y = flag (is_less u x y)
on_numbers op.Greater u x y = flag (is_less u y x)
on_numbers op.LessEqual u x y = flag (not (is_less u y x))
on_numbers op.GreaterEqual u x y = flag (not (is_less u x y))
on_numbers op.Equal u x y = flag (x == y)
on_numbers op.NotEqual u x y = flag (not (x == y))
on_numbers op.BitAnd u x y = bit_and x y
on_numbers op.BitXor u x y = bit_xor x y
on_numbers op.BitOr u x y = bit_or x y
on_numbers op.LogicalAnd u x y = 0
on_numbers op.LogicalOr u x y = 0
