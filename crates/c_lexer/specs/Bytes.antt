-- The bytes of a text of C, by classes.
use Rattle.std.specs.Prelude.{◌≡◌, ℕ, suc, ◌-◌, Bool, true, false, ◌&&◌, ◌||◌}
use Rattle.std.specs.Prelude.{if◌then◌else◌, ◌==◌, nat_lt, nat_le, List, [], ◌∷◌}

-- horizontal tab, line feed, vertical tab, form feed, carriage return and space (C11 6.4)
unfoldable pub is_blank : ℕ → Bool
is_blank b = b == 32 || (nat_le 9 b && nat_le b 13)

-- what may stand between the parts of a directive (C11 6.10)
unfoldable pub is_gap : ℕ → Bool
is_gap b = b == 32 || b == 9

-- the underscore is a letter (C11 6.4.2.1)
unfoldable pub is_letter : ℕ → Bool
is_letter b = b == 95 || (nat_le 65 b && nat_le b 90) || (nat_le 97 b && nat_le b 122)

unfoldable pub is_digit : ℕ → Bool
is_digit b = nat_le 48 b && nat_le b 57

-- what an identifier goes on with (C11 6.4.2.1)
abbrev pub is_word : ℕ → Bool
is_word b = is_letter b || is_digit b

-- the letters of an exponent
unfoldable pub is_exponent : ℕ → Bool
is_exponent b = b == 101 || b == 69 || b == 112 || b == 80

-- What a number goes on with behind the byte before: letters, digits and points, and a sign behind an exponent's
-- letter (C11 6.4.8).
unfoldable pub continues_number : ℕ → ℕ → Bool
continues_number before b = is_word b || b == 46 || ((b == 43 || b == 45) && is_exponent before)

-- the `u` or `U` of an unsigned constant (C11 6.4.4.1)
unfoldable pub is_unsigned_suffix : ℕ → Bool
is_unsigned_suffix b = b == 117 || b == 85

-- the `x` or `X` of a hexadecimal constant (C11 6.4.4.1)
unfoldable pub is_hex_mark : ℕ → Bool
is_hex_mark b = b == 120 || b == 88

-- what a digit stands for, in hexadecimal at most, or 16 (C11 6.4.4.1)
unfoldable pub digit_value : ℕ → ℕ
digit_value b =
    if is_digit b then b - 48
    else (if nat_le 65 b && nat_le b 70 then b - 55
    else (if nat_le 97 b && nat_le b 102 then b - 87 else 16))

-- a digit of a radix, which is 8, 10 or 16
abbrev pub is_digit_of : ℕ → ℕ → Bool
is_digit_of radix b = nat_lt (digit_value b) radix

-- Behind the byte `before` the spelling is the longest run in front of the rest: each byte continues the one before
-- it, and the first byte of the rest doesn't.
abbrev pub IsRun : (ℕ → ℕ → Bool) → ℕ → List ℕ → List ℕ → Type 0
IsRun continues before [] [] = Unit {0}
IsRun continues before [] (b ∷ rest) = continues before b ≡ false
IsRun continues before (b ∷ spelling) rest = (continues before b ≡ true) × IsRun continues b spelling rest

-- the same for bytes that are of a class
abbrev pub IsRunOf : (ℕ → Bool) → List ℕ → List ℕ → Type 0
IsRunOf is_in spelling rest = IsRun (λ _ b. is_in b) 0 spelling rest

-- how many line feeds there are
abbrev pub line_feeds : List ℕ → ℕ
line_feeds [] = 0
line_feeds (b ∷ bs) = if b == 10 then suc (line_feeds bs) else line_feeds bs
