-- What tests that failed say.
use Rattle.std.proofs.Common.{◌≡◌, Bool, true, false, not, ◌&&◌, ◌||◌, ◌⊎◌, inl, inr, refl}
use Rattle.typing_unit_keeps.proofs.Steps.{not_false}

pub or_left : (a b : Bool) → a || b ≡ false → a ≡ false
or_left true b h = h
or_left false b h = refl

pub or_right : (a b : Bool) → a || b ≡ false → b ≡ false
or_right true b h = absurd cc
or_right false b h = h

-- where not both hold and the second does not fail, the first does not
pub and_not : (a b : Bool) → a && not b ≡ false → (a ≡ false) ⊎ (b ≡ true)
and_not true b h = inr (not_false b h)
and_not false b h = inl refl
