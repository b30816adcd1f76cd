-- What the operations of words answer is a word.
use Rattle.std.proofs.Common.{◌≡◌, ℕ, ◌-◌, ◌*◌, ◌/◌, ◌%◌, ◌^◌, ◌<◌, ◌≤◌, Bool, true, false, cond, eqb, ltb, zero, suc, refl, arith, lit<}
use Rattle.std.specs.Prelude.{bit_and, bit_or, bit_xor, ℤ, pos, negsuc, ◌*ℤ◌, neg_ℤ, nat_abs, int_div, int_rem}
use Rattle.std.proofs.lemmas.Nat.{mul-lt, or_lt, xor_lt}
use mir.Val.{sel}
use Rattle.std.specs.Int.Bits.{and_lt}
use Rattle.std.proofs.lemmas.Bool.Decides.{nat_tests}
use Rattle.std.proofs.Math.Nat.{div-le_self}
use Rattle.rv_machine.specs.Formed.{IsWord}
use Rattle.bb_words.specs.Numbers.{sum, difference, product, unsigned_high_product, unsigned_quotient, unsigned_remainder, left_shift, right_shift, unsigned_below, signed_below, signed, word_of, floor_shift, signed_right_shift, signed_high_product, mixed_high_product, signed_quotient, signed_remainder, all_ones}

pub either : (b : Bool) (u v : ℕ) → IsWord u → IsWord v → IsWord (cond b u v)
either true u v p q = p
either false u v p q = q

pub sum_fits : (a b : ℕ) → IsWord (sum a b)
sum_fits a b = omega arith

pub difference_fits : (a b : ℕ) → IsWord (difference a b)
difference_fits a b = omega arith

pub product_fits : (a b : ℕ) → IsWord (product a b)
product_fits a b = omega arith

pub unsigned_high_fits : (a b : ℕ) → IsWord a → IsWord b → IsWord (unsigned_high_product a b)
unsigned_high_fits a b p q = let m = mul-lt a b (2 ^ 32) (2 ^ 32) p q in omega (arith, m)

pub unsigned_quotient_fits : (a b : ℕ) → IsWord a → IsWord (unsigned_quotient a b)
unsigned_quotient_fits a b p = let l = div-le_self a b in let q : a / b < 2 ^ 32 = omega (arith, l, p) in either (eqb b 0) all_ones (a / b) (lit< tt) q

remainder_le : (a b : ℕ) → a % b ≤ a
remainder_le a b = omega arith

pub unsigned_remainder_fits : (a b : ℕ) → IsWord a → IsWord (unsigned_remainder a b)
unsigned_remainder_fits a b p = let l = remainder_le a b in let q : a % b < 2 ^ 32 = omega (arith, l, p) in either (eqb b 0) a (a % b) p q

pub left_shift_fits : (a b : ℕ) → IsWord (left_shift a b)
left_shift_fits a b = omega arith

pub right_shift_fits : (a b : ℕ) → IsWord a → IsWord (right_shift a b)
right_shift_fits a b p = let l = div-le_self a (2 ^ (b % 32)) in omega (arith, l, p)

pub unsigned_below_fits : (a b : ℕ) → IsWord (unsigned_below a b)
unsigned_below_fits a b = either _ 1 0 (lit< tt) (lit< tt)

pub signed_below_fits : (a b : ℕ) → IsWord (signed_below a b)
unfolding signed_below
signed_below_fits a b = either _ 1 0 (lit< tt) (lit< tt)

pub and_fits : (a b : ℕ) → IsWord a → IsWord b → IsWord (bit_and a b)
and_fits a b p q = and_lt 32 a b p q

pub or_fits : (a b : ℕ) → IsWord a → IsWord b → IsWord (bit_or a b)
or_fits a b p q = or_lt 32 a b p q

pub xor_fits : (a b : ℕ) → IsWord a → IsWord b → IsWord (bit_xor a b)
xor_fits a b p q = xor_lt 32 a b p q

-- a number below 2^32, maybe a negative one
abbrev IsLow : ℤ → Type 0
IsLow (pos n) = n < 2 ^ 32
IsLow (negsuc n) = Unit {0}

word_of_fits : (z : ℤ) → IsLow z → IsWord (word_of z)
word_of_fits (pos n) h = h
word_of_fits (negsuc n) h = omega arith

-- a number from -2^32 to 2^32 - 1
abbrev IsBounded : ℤ → Type 0
IsBounded (pos n) = n < 2 ^ 32 - 1
IsBounded (negsuc n) = n < 2 ^ 32 - 1

bounded_if : (b : Bool) (a : ℕ) → IsWord a → ltb a (2 ^ 31) ≡ b → IsBounded (sel b (pos a) (negsuc (2 ^ 32 - suc a)))
bounded_if true a p e = let l : a < 2 ^ 31 = grind (arith, nat_tests) in omega (arith, l)
bounded_if false a p e = let l : 2 ^ 31 ≤ a = grind (arith, nat_tests) in omega (arith, l)

signed_bounded : (a : ℕ) → IsWord a → IsBounded (signed a)
signed_bounded a p = bounded_if (ltb a (2 ^ 31)) a p refl

shift_low : (z : ℤ) (k : ℕ) → IsBounded z → IsLow (floor_shift z k)
shift_low (pos n) k h = let l = div-le_self n (2 ^ k) in omega (arith, l, h)
shift_low (negsuc n) k h = tt

pub signed_right_shift_fits : (a b : ℕ) → IsWord a → IsWord (signed_right_shift a b)
unfolding signed_right_shift
signed_right_shift_fits a b p = word_of_fits (floor_shift (signed a) (b % 32)) (shift_low (signed a) (b % 32) (signed_bounded a p))

-- a product of two such numbers
abbrev IsHigh : ℤ → Type 0
IsHigh (pos n) = n < 2 ^ 64
IsHigh (negsuc n) = Unit {0}

negative_high : (n : ℕ) → IsHigh (neg_ℤ (pos n))
negative_high zero = lit< tt
negative_high (suc n) = tt

multiplied : (a b : ℕ) → a < 2 ^ 32 → b < 2 ^ 32 → a * b < 2 ^ 64
multiplied a b p q = let m = mul-lt a b (2 ^ 32) (2 ^ 32) p q in omega (arith, m)

product_high : (x y : ℤ) → IsBounded x → IsBounded y → IsHigh (x *ℤ y)
product_high (pos a) (pos b) p q = multiplied a b (omega (arith, p)) (omega (arith, q))
product_high (pos a) (negsuc b) p q = negative_high (a * suc b)
product_high (negsuc a) (pos b) p q = negative_high (suc a * b)
product_high (negsuc a) (negsuc b) p q = multiplied (suc a) (suc b) (omega (arith, p)) (omega (arith, q))

upper_low : (z : ℤ) → IsHigh z → IsLow (floor_shift z 32)
upper_low (pos n) h = omega (arith, h)
upper_low (negsuc n) h = tt

pub signed_high_fits : (a b : ℕ) → IsWord a → IsWord b → IsWord (signed_high_product a b)
unfolding signed_high_product
signed_high_fits a b p q = word_of_fits (floor_shift (signed a *ℤ signed b) 32) (upper_low (signed a *ℤ signed b) (product_high (signed a) (signed b) (signed_bounded a p) (signed_bounded b q)))

mixed_high : (x : ℤ) (b : ℕ) → IsBounded x → IsWord b → IsHigh (x *ℤ pos b)
mixed_high (pos a) b p q = multiplied a b (omega (arith, p)) q
mixed_high (negsuc a) b p q = negative_high (suc a * b)

pub mixed_high_fits : (a b : ℕ) → IsWord a → IsWord b → IsWord (mixed_high_product a b)
unfolding mixed_high_product
mixed_high_fits a b p q = word_of_fits (floor_shift (signed a *ℤ pos b) 32) (upper_low (signed a *ℤ pos b) (mixed_high (signed a) b (signed_bounded a p) q))

negative_low : (n : ℕ) → IsLow (neg_ℤ (pos n))
negative_low zero = lit< tt
negative_low (suc n) = tt

quotient_low : (x y : ℤ) → IsBounded x → IsLow (int_div x y)
quotient_low (pos a) (pos b) h = let l = div-le_self a b in omega (arith, l, h)
quotient_low (pos a) (negsuc b) h = negative_low (a / suc b)
quotient_low (negsuc a) (pos b) h = negative_low (suc a / b)
quotient_low (negsuc a) (negsuc b) h = let l = div-le_self (suc a) (suc b) in omega (arith, l, h)

remainder_low : (x y : ℤ) → IsBounded x → IsLow (int_rem x y)
remainder_low (pos a) y h = let l = remainder_le a (nat_abs y) in omega (arith, l, h)
remainder_low (negsuc a) y h = negative_low (suc a % nat_abs y)

pub signed_quotient_fits : (a b : ℕ) → IsWord a → IsWord (signed_quotient a b)
unfolding signed_quotient
signed_quotient_fits a b p =
    let q = word_of_fits (int_div (signed a) (signed b)) (quotient_low (signed a) (signed b) (signed_bounded a p)) in
    either (eqb b 0) all_ones (word_of (int_div (signed a) (signed b))) (lit< tt) q

pub signed_remainder_fits : (a b : ℕ) → IsWord a → IsWord (signed_remainder a b)
unfolding signed_remainder
signed_remainder_fits a b p =
    let q = word_of_fits (int_rem (signed a) (signed b)) (remainder_low (signed a) (signed b) (signed_bounded a p)) in
    either (eqb b 0) a (word_of (int_rem (signed a) (signed b))) p q
