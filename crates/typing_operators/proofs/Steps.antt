-- How a rule that gave something came to it.
use Rattle.std.proofs.Common.{◌≡◌, Bool, true, false, not, ◌&&◌, ◌||◌, ◌⊎◌, inl, inr, refl}
use Rattle.std.specs.Prelude.{Ok, Err, Some, if◌then◌else◌}
use Rattle.typing_operators.specs.declared.error.TypeError.{TypeError}
use Rattle.typing_operators.specs.Rule.{Rule, ◌>>=◌, refuse}

pub passes : {A : Type 0} (b : Bool) (e : TypeError) (go : Rule A) (v : A) → refuse b e go ≡ Ok v → (b ≡ false) × (go ≡ Ok v)
passes true e go v h = absurd cc
passes false e go v h = (refl, h)

pub bound : {A B : Type 0} (r : Rule A) (f : A → Rule B) (v : B) → r >>= f ≡ Ok v → (x : A) × (r ≡ Ok x) × (f x ≡ Ok v)
bound (Ok x) f v h = (x, refl, h)
bound (Err e) f v h = absurd cc

pub chosen : {A : Type 0} (b : Bool) (p q : Rule A) (v : A) → (if b then p else q) ≡ Ok v → ((b ≡ true) × (p ≡ Ok v)) ⊎ ((b ≡ false) × (q ≡ Ok v))
chosen true p q v h = inl (refl, h)
chosen false p q v h = inr (refl, h)

pub same_ok : {A : Type 0} (x v : A) → (let r : Rule A = Ok x in r) ≡ Ok v → x ≡ v
same_ok x v h = cc

pub not_false : (b : Bool) → not b ≡ false → b ≡ true
not_false true h = refl
not_false false h = cc

pub and_left : (a b : Bool) → a && b ≡ true → a ≡ true
and_left true b h = refl
and_left false b h = h

pub and_right : (a b : Bool) → a && b ≡ true → b ≡ true
and_right true b h = h
and_right false b h = absurd cc

pub or_cases : (a b : Bool) → a || b ≡ true → (a ≡ true) ⊎ (b ≡ true)
or_cases true b h = inl refl
or_cases false b h = inr h

pub some_is : {A : Type 0} (x y : A) → Some x ≡ Some y → x ≡ y
some_is x y h = cc
