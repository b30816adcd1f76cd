-- What tests of numbers say.
use Rattle.std.proofs.Common.{◌≡◌, ℕ, ◌+◌, ◌^◌, ◌<◌, ◌≤◌, Bool, true, false, cond, nat_lt, nat_le, pos, sym, arith, pow_pos, true≢false}
use Rattle.std.proofs.lemmas.Bool.Decides.{nat_tests}
use Rattle.marked_ptr.specs.Marked.{word_at}

pub yes_lt : (a b : ℕ) → a < b → nat_lt a b ≡ true
yes_lt a b h = grind (arith, nat_tests)

pub no_lt : (a b : ℕ) → b ≤ a → nat_lt a b ≡ false
no_lt a b h = grind (arith, nat_tests)

pub was_lt : (a b : ℕ) → nat_lt a b ≡ true → a < b
was_lt a b h = grind (arith, nat_tests)

pub not_lt : (a b : ℕ) → nat_lt a b ≡ false → b ≤ a
not_lt a b h = grind (arith, nat_tests)

pub yes_le : (a b : ℕ) → a ≤ b → nat_le a b ≡ true
yes_le a b h = grind (arith, nat_tests)

pub no_le : (a b : ℕ) → b < a → nat_le a b ≡ false
no_le a b h = grind (arith, nat_tests)

pub was_le : (a b : ℕ) → nat_le a b ≡ true → a ≤ b
was_le a b h = grind (arith, nat_tests)

-- the word of the pointer to a block's start is its address
pub start_word : (b e : ℕ) → word_at b e (pos 0) ≡ b
start_word b e = at (nat_lt 0 (2 ^ e)) (yes_lt 0 (2 ^ e) (pow_pos e))
  where
    at : (s : Bool) → s ≡ true → cond s (b + 0) (2147483648 + (b + 0)) ≡ b
    at true q = omega arith
    at false q = absurd (true≢false (sym q))
