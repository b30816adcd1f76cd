-- How a rule that gave something came to it, and what stands in lists that grow.
use Rattle.std.proofs.Common.{◌≡◌, ℕ, zero, suc, ◌<◌, ◌≤◌, Bool, true, false, not, ◌⊎◌, inl, inr, List, [], ◌∷◌, ◌++◌, length, refl, ap, subst, arith}
use Rattle.std.specs.Prelude.{Ok, Err, Some, if◌then◌else◌, All, slice_get, slice_set, nat_lt}
use Rattle.std.proofs.lemmas.Option.{slice_get_within, get_or_from_slice_get}
use Rattle.std.proofs.lemmas.Map.Entries.{place_from_lookup}
use Rattle.typing_operators.specs.declared.error.TypeError.{TypeError}
use Rattle.typing_operators.specs.Rule.{Rule, ◌>>=◌, refuse}
use Rattle.typing_expressions.specs.Names.{found}

pub passes : {A : Type 0} (b : Bool) (e : TypeError) (go : Rule A) (v : A) → refuse b e go ≡ Ok v → (b ≡ false) × (go ≡ Ok v)
passes true e go v h = absurd cc
passes false e go v h = (refl, h)

pub bound : {A B : Type 0} (r : Rule A) (f : A → Rule B) (v : B) → r >>= f ≡ Ok v → (x : A) × (r ≡ Ok x) × (f x ≡ Ok v)
bound (Ok x) f v h = (x, refl, h)
bound (Err e) f v h = absurd cc

pub chosen : {A : Type 0} (b : Bool) (p q : Rule A) (v : A) → (if b then p else q) ≡ Ok v → ((b ≡ true) × (p ≡ Ok v)) ⊎ ((b ≡ false) × (q ≡ Ok v))
chosen true p q v h = inl (refl, h)
chosen false p q v h = inr (refl, h)

pub same_ok : {A : Type 0} (x v : A) → (let r : Rule A = Ok x in r) ≡ Ok v → x ≡ v
same_ok x v h = cc

pub not_false : (b : Bool) → not b ≡ false → b ≡ true
not_false true h = refl
not_false false h = cc

pub not_less : (m n : ℕ) → nat_lt m n ≡ false → n ≤ m
not_less m n h = grind arith

-- lists

pub All-slice_get : {X : Type 0} (P : X → Type 0) (xs : List X) (k : ℕ) (x : X) → All P xs → slice_get xs k ≡ Some x → P x
All-slice_get P xs k x all found = subst P (get_or_from_slice_get xs k x x found) (all k x (slice_get_within xs k x found))

-- what a name stands for has what holds of all
pub All-found : {A : Type 0} (P : A → Type 0) (names : List (List ℕ × A)) (x : List ℕ) (a : A) → All (λ e. P e.1) names → found x names ≡ Some a → P a
All-found P names x a all is =
    let place = place_from_lookup _ names a is in
    All-slice_get (λ e. P e.1) names place.0 (place.1, a) all place.2

pub front_kept : {A : Type 0} (xs ys : List A) (k : ℕ) (x : A) → slice_get xs k ≡ Some x → slice_get (xs ++ ys) k ≡ Some x
front_kept [] ys k x h = absurd cc
front_kept (z ∷ xs) ys zero x h = h
front_kept (z ∷ xs) ys (suc k) x h = front_kept xs ys k x h

pub at_end : {A : Type 0} (xs ys : List A) (x : A) → slice_get (xs ++ x ∷ ys) (length xs) ≡ Some x
at_end [] ys x = refl
at_end (z ∷ xs) ys x = at_end xs ys x

-- a flag that is set stays set
pub flag_kept : (flags : List Bool) (j k : ℕ) → slice_get flags k ≡ Some true → slice_get (slice_set flags j true) k ≡ Some true
flag_kept [] j k h = absurd cc
flag_kept (b ∷ flags) zero zero h = refl
flag_kept (b ∷ flags) zero (suc k) h = h
flag_kept (b ∷ flags) (suc j) zero h = h
flag_kept (b ∷ flags) (suc j) (suc k) h = flag_kept flags j k h

pub flag_set : (flags : List Bool) (k : ℕ) → k < length flags → slice_get (slice_set flags k true) k ≡ Some true
flag_set [] k h = absurd (omega arith)
flag_set (b ∷ flags) zero h = refl
flag_set (b ∷ flags) (suc k) h = flag_set flags k (omega arith)

pub set_length : (flags : List Bool) (k : ℕ) → length (slice_set flags k true) ≡ length flags
set_length [] k = refl
set_length (b ∷ flags) zero = refl
set_length (b ∷ flags) (suc k) = ap suc (set_length flags k)
