-- What the operations of RV32IM answer: words are numbers below 2^32.
-- RISC-V Unprivileged ISA, chapters "RV32I" (integer computations) and "M" (multiplication and division).
use Rattle.std.specs.Prelude.{◌==◌, ℕ, ◌+◌, ◌-◌, ◌*◌, ◌/◌, ◌%◌, ◌^◌, ℤ, pos}
use Rattle.std.specs.Prelude.{negsuc, ◌*ℤ◌, if◌then◌else◌, int_lt, int_div, int_rem, nat_lt}
use Rattle.std.specs.Int.{w32, cast_signed, cast_unsigned}

-- the signed reading of a word, in two's complement
abbrev pub signed : ℕ → ℤ
signed a = cast_signed w32 a

-- the word of a number from -2^31 to 2^32 - 1, in two's complement
abbrev pub word_of : ℤ → ℕ
word_of z = cast_unsigned w32 z

-- z / 2^k, rounded down
abbrev pub floor_shift : ℤ → ℕ → ℤ
floor_shift (pos n) k = pos (n / 2 ^ k)
floor_shift (negsuc n) k = negsuc (n / 2 ^ k)

-- the word of all ones, which a division by zero gives
abbrev pub all_ones : ℕ
all_ones = 0xffff_ffff

-- ADD
abbrev pub sum : ℕ → ℕ → ℕ
sum a b = (a + b) % 2 ^ 32

-- SUB
abbrev pub difference : ℕ → ℕ → ℕ
difference a b = (a + (2 ^ 32 - b)) % 2 ^ 32

-- MUL: the lower word of the product
abbrev pub product : ℕ → ℕ → ℕ
product a b = (a * b) % 2 ^ 32

-- MULH: the upper word of the signed product
unfoldable pub signed_high_product : ℕ → ℕ → ℕ
signed_high_product a b = word_of (floor_shift (signed a *ℤ signed b) 32)

-- MULHSU: the upper word of the product of a signed and an unsigned word
unfoldable pub mixed_high_product : ℕ → ℕ → ℕ
mixed_high_product a b = word_of (floor_shift (signed a *ℤ pos b) 32)

-- MULHU: the upper word of the unsigned product
abbrev pub unsigned_high_product : ℕ → ℕ → ℕ
unsigned_high_product a b = a * b / 2 ^ 32

-- DIV: the signed quotient, rounded toward zero. That of -2^31 by -1 is 2^31, whose word is that of -2^31
unfoldable pub signed_quotient : ℕ → ℕ → ℕ
signed_quotient a b = if b == 0 then all_ones else word_of (int_div (signed a) (signed b))

-- DIVU
abbrev pub unsigned_quotient : ℕ → ℕ → ℕ
unsigned_quotient a b = if b == 0 then all_ones else a / b

-- REM: what DIV leaves, with the dividend's sign. By zero it is the dividend
unfoldable pub signed_remainder : ℕ → ℕ → ℕ
signed_remainder a b = if b == 0 then a else word_of (int_rem (signed a) (signed b))

-- REMU
abbrev pub unsigned_remainder : ℕ → ℕ → ℕ
unsigned_remainder a b = if b == 0 then a else a % b

-- SLL
abbrev pub left_shift : ℕ → ℕ → ℕ
left_shift a b = (a * 2 ^ (b % 32)) % 2 ^ 32

-- SRL
abbrev pub right_shift : ℕ → ℕ → ℕ
right_shift a b = a / 2 ^ (b % 32)

-- SRA
unfoldable pub signed_right_shift : ℕ → ℕ → ℕ
signed_right_shift a b = word_of (floor_shift (signed a) (b % 32))

-- SLT
unfoldable pub signed_below : ℕ → ℕ → ℕ
signed_below a b = if int_lt (signed a) (signed b) then 1 else 0

-- SLTU
abbrev pub unsigned_below : ℕ → ℕ → ℕ
unsigned_below a b = if nat_lt a b then 1 else 0
