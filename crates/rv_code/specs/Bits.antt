-- Bits of numbers, and sign extension to words of 32 bits.
use Rattle.std.specs.Prelude.{ℕ, ◌+◌, ◌-◌, ◌/◌, ◌%◌, ◌^◌, ◌<◌, if◌then◌else◌, nat_lt}

-- the bits of n from `high` down to `low`, as a number
abbrev pub bits : (n high low : ℕ) → ℕ
bits n high low = n / 2 ^ low % 2 ^ (high + 1 - low)

-- bit `place` of n
abbrev pub bit : (n place : ℕ) → ℕ
bit n place = n / 2 ^ place % 2

-- a number of k bits, in two's complement, as a word
abbrev pub extended : (k n : ℕ) → ℕ
extended k n = if nat_lt n (2 ^ (k - 1)) then n else n + (2 ^ 32 - 2 ^ k)

-- the word, read as a signed number, is at least -2^(k - 1) and below 2^(k - 1): k bits hold it
abbrev pub IsSigned : (k word : ℕ) → Type 0
IsSigned k word = (word < 2 ^ 32) × ((word + 2 ^ (k - 1)) % 2 ^ 32 < 2 ^ k)
