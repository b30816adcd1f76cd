-- Integer constants (C11 6.4.4.1).
use Rattle.std.specs.Prelude.{◌≡◌, ◌≢◌, ℕ, ◌+◌, ◌*◌, ◌^◌, ◌<◌, ◌≤◌, Bool, true, false, List, [], ◌∷◌, ◌++◌}
use Rattle.c_lexer.specs.Bytes.{is_digit, is_digit_of, digit_value, is_hex_mark, is_unsigned_suffix}

-- the number that the digits write behind those that write the number before
abbrev pub value_behind : ℕ → ℕ → List ℕ → ℕ
value_behind radix before [] = before
value_behind radix before (d ∷ ds) = value_behind radix (radix * before + digit_value d) ds

-- the number that the digits write, the highest first
abbrev pub value_of : ℕ → List ℕ → ℕ
value_of radix ds = value_behind radix 0 ds

abbrev pub AreDigits : ℕ → List ℕ → Type 0
AreDigits radix [] = Unit {0}
AreDigits radix (d ∷ ds) = (is_digit_of radix d ≡ true) × AreDigits radix ds

-- a constant without its suffix has a radix and digits in it
pub data IsInteger : List ℕ → ℕ → List ℕ → Type 0 where
  decimal : (d : ℕ) (ds : List ℕ) → is_digit d ≡ true → d ≢ 48 → AreDigits 10 ds → IsInteger (d ∷ ds) 10 (d ∷ ds)
  octal : (ds : List ℕ) → AreDigits 8 ds → IsInteger (48 ∷ ds) 8 ds
  hexadecimal : (x d : ℕ) (ds : List ℕ) → is_hex_mark x ≡ true → AreDigits 16 (d ∷ ds)
      → IsInteger (48 ∷ x ∷ d ∷ ds) 16 (d ∷ ds)

-- A constant has a value, and is unsigned or not: with a suffix it is unsigned; without one it is an int if that holds
-- the value, and otherwise unsigned unless it is decimal.
pub data IsNumber : List ℕ → ℕ → Bool → Type 0 where
  int : (s : List ℕ) (radix : ℕ) (ds : List ℕ) (value : ℕ)
      → IsInteger s radix ds → value ≡ value_of radix ds → value < 2 ^ 31 → IsNumber s value false
  large : (s : List ℕ) (radix : ℕ) (ds : List ℕ) (value : ℕ)
      → IsInteger s radix ds → value ≡ value_of radix ds → radix ≢ 10 → 2 ^ 31 ≤ value → value < 2 ^ 32 → IsNumber s value true
  suffixed : (s : List ℕ) (radix : ℕ) (ds : List ℕ) (value u : ℕ)
      → IsInteger s radix ds → value ≡ value_of radix ds → is_unsigned_suffix u ≡ true → value < 2 ^ 32 → IsNumber (s ++ u ∷ []) value true
