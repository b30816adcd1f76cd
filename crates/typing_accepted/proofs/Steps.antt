-- How a rule that gave something came to it, and how it comes to something.
use Rattle.std.proofs.Common.{◌≡◌, ℕ, ◌≤◌, Bool, true, false, not, ◌&&◌, ◌||◌, ◌⊎◌, inl, inr, refl, arith}
use Rattle.std.specs.Prelude.{Ok, Err, Some, if◌then◌else◌, nat_lt}
use Rattle.typing_operators.specs.declared.error.TypeError.{TypeError}
use Rattle.typing_operators.specs.Rule.{Rule, ◌>>=◌, refuse}

pub passes : {A : Type 0} (b : Bool) (e : TypeError) (go : Rule A) (v : A) → refuse b e go ≡ Ok v → (b ≡ false) × (go ≡ Ok v)
passes true e go v h = absurd cc
passes false e go v h = (refl, h)

pub passed : {A : Type 0} (b : Bool) (e : TypeError) (go r : Rule A) → b ≡ false → go ≡ r → refuse b e go ≡ r
passed true e go r n h = absurd cc
passed false e go r n h = h

pub bound : {A B : Type 0} (r : Rule A) (f : A → Rule B) (v : B) → r >>= f ≡ Ok v → (x : A) × (r ≡ Ok x) × (f x ≡ Ok v)
bound (Ok x) f v h = (x, refl, h)
bound (Err e) f v h = absurd cc

pub onward : {A B : Type 0} (r : Rule A) (f : A → Rule B) (x : A) (q : Rule B) → r ≡ Ok x → f x ≡ q → r >>= f ≡ q
onward (Ok y) f x q h i = let same : y ≡ x = cc in rw same i
onward (Err e) f x q h i = absurd cc

pub same_ok : {A : Type 0} (x v : A) → (let r : Rule A = Ok x in r) ≡ Ok v → x ≡ v
same_ok x v h = cc

pub some_is : {A : Type 0} (x y : A) → Some x ≡ Some y → x ≡ y
some_is x y h = cc

pub not_false : (b : Bool) → not b ≡ false → b ≡ true
not_false true h = refl
not_false false h = cc

pub not_of : (b : Bool) → b ≡ true → not b ≡ false
not_of true h = refl
not_of false h = cc

pub not_true : (b : Bool) → not b ≡ true → b ≡ false
not_true true h = cc
not_true false h = refl

pub and_left : (a b : Bool) → a && b ≡ true → a ≡ true
and_left true b h = refl
and_left false b h = h

pub and_right : (a b : Bool) → a && b ≡ true → b ≡ true
and_right true b h = h
and_right false b h = absurd cc

pub and_not : (a b : Bool) → a ≡ true → a && not b ≡ false → b ≡ true
and_not true b h i = not_false b i
and_not false b h i = absurd cc

pub both_true : (a b : Bool) → a ≡ true → b ≡ true → a && b ≡ true
both_true true b h i = i
both_true false b h i = h

pub or_cases : (a b : Bool) → a || b ≡ true → (a ≡ true) ⊎ (b ≡ true)
or_cases true b h = inl refl
or_cases false b h = inr h

pub or_left : (a b : Bool) → a ≡ true → a || b ≡ true
or_left true b h = refl
or_left false b h = absurd cc

pub or_right : (a b : Bool) → b ≡ true → a || b ≡ true
or_right true b h = refl
or_right false b h = h

pub swapped : (a b : Bool) → a || b ≡ true → b || a ≡ true
swapped true true h = refl
swapped true false h = refl
swapped false true h = refl
swapped false false h = h

pub not_less : (m n : ℕ) → nat_lt m n ≡ false → n ≤ m
not_less m n h = grind arith

pub no_less : (m n : ℕ) → n ≤ m → nat_lt m n ≡ false
no_less m n h = grind arith

pub taken : {A : Type 0} (b : Bool) (p q r : A) → b ≡ true → p ≡ r → (if b then p else q) ≡ r
taken true p q r h is = is
taken false p q r h is = absurd cc

pub left_out : {A : Type 0} (b : Bool) (p q r : A) → b ≡ false → q ≡ r → (if b then p else q) ≡ r
left_out true p q r h is = absurd cc
left_out false p q r h is = is

pub no_left : (a b : Bool) → a ≡ false → a && b ≡ false
no_left true b h = absurd cc
no_left false b h = refl

pub no_right : (a b : Bool) → b ≡ false → a && b ≡ false
no_right true b h = h
no_right false b h = refl
