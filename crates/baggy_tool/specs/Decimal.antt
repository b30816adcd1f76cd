-- Decimal numbers with an upper bound.
use Rattle.std.specs.Prelude.{ℕ, ◌+◌, ◌-◌, ◌*◌, nat_le, if◌then◌else◌, List, [], ◌∷◌, Option, Some, None}

-- the number that digits stand for, behind the digits of a number before them
abbrev pub number_from : ℕ → List ℕ → ℕ
number_from before [] = before
number_from before (digit ∷ digits) = number_from (10 * before + (digit - 48)) digits

abbrev pub number_of : List ℕ → ℕ
number_of digits = number_from 0 digits

-- the number that the digits stand for, if it is at most so much
abbrev pub number_within : ℕ → List ℕ → Option ℕ
number_within most digits = if nat_le (number_of digits) most then Some (number_of digits) else None
