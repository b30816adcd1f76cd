-- How many bytes an object is padded to: the least power of two that is at least a slot, of 2 ^ g bytes, and at least the
-- object's length (Akritidis et al., Baggy Bounds Checking, section 3).
use Rattle.std.specs.Prelude.{ℕ, zero, suc, ◌+◌, ◌-◌, ◌^◌, ◌≤◌, nat_le, if◌then◌else◌}

-- the first of the exponents from e on, at most so many further ones, whose power is at least n
abbrev pub exponent_from : (steps e n : ℕ) → ℕ
exponent_from zero e n = e
exponent_from (suc steps) e n = if nat_le n (2 ^ e) then e else exponent_from steps (e + 1) n

-- the exponent of the padded size of n bytes, n at most 2 ^ 24
unfoldable pub exponent_of : (g n : ℕ) → ℕ
exponent_of g n = exponent_from (24 - g) g n

-- it is the least one that serves
pub record IsExponentOf (g n e : ℕ) : Type 0 where
  pub slot : g ≤ e
  pub fits : n ≤ 2 ^ e
  pub least : (d : ℕ) → g ≤ d → n ≤ 2 ^ d → e ≤ d

abbrev pub ExponentIsLeast : Type 0
ExponentIsLeast = (g n : ℕ) → g ≤ 24 → n ≤ 2 ^ 24 → IsExponentOf g n (exponent_of g n)
