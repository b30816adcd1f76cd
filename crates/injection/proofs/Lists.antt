-- Elements of lists that grow at their end, or in which one element is set.
use Rattle.std.proofs.Common.{◌≡◌, ◌⊎◌, ℕ, zero, suc, List, [], ◌∷◌, ◌++◌, length, Some, slice_get, slice_set, refl, sym, ap, inl, inr}
use Rattle.std.proofs.lemmas.Option.{same_Some, none-some}

pub set_same : {A : Type 0} (xs : List A) (i : ℕ) (x y : A) → slice_get xs i ≡ Some x → slice_get (slice_set xs i y) i ≡ Some y
set_same [] i x y h = cc
set_same (z ∷ zs) zero x y h = refl
set_same (z ∷ zs) (suc i) x y h = set_same zs i x y h

pub set_other : {A : Type 0} (xs : List A) (i j : ℕ) (y : A) → (j ≡ i → ⊥) → slice_get (slice_set xs i y) j ≡ slice_get xs j
set_other [] i j y n = refl
set_other (z ∷ zs) zero zero y n = absurd (n refl)
set_other (z ∷ zs) zero (suc j) y n = refl
set_other (z ∷ zs) (suc i) zero y n = refl
set_other (z ∷ zs) (suc i) (suc j) y n = set_other zs i j y (λ e. n (ap suc e))

pub get_old : {A : Type 0} (xs ys : List A) (i : ℕ) (x : A) → slice_get xs i ≡ Some x → slice_get (xs ++ ys) i ≡ Some x
get_old [] ys i x h = absurd (none-some _ h)
get_old (z ∷ zs) ys zero x h = h
get_old (z ∷ zs) ys (suc i) x h = get_old zs ys i x h

pub get_pushed : {A : Type 0} (xs : List A) (y x : A) (i : ℕ) → slice_get (xs ++ y ∷ []) i ≡ Some x → (slice_get xs i ≡ Some x) ⊎ ((i ≡ length xs) × (x ≡ y))
get_pushed [] y x zero h = inr (refl, sym (same_Some _ _ h))
get_pushed [] y x (suc i) h = cc
get_pushed (z ∷ zs) y x zero h = inl h
get_pushed (z ∷ zs) y x (suc i) h = elim (get_pushed zs y x i h) [ inl l ↦ inl l | inr r ↦ inr (ap suc r.0, r.1) ]

pub append_nothing : {A : Type 0} (xs : List A) → xs ++ [] ≡ xs
append_nothing [] = refl
append_nothing (x ∷ xs) = ap (λ ys. x ∷ ys) (append_nothing xs)
