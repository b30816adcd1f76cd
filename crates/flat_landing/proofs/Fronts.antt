-- Fronts of what was told.
use Rattle.std.proofs.Common.{◌≡◌, ℕ, ◌≤◌, List, [], ◌∷◌, ◌++◌, ◌⊎◌, inl, inr, Bool, true, false, cond, refl, sym, ap, ◌∙◌, subst, ⊎_elim, arith, append_assoc, append-nil}
use Rattle.std.specs.Prelude.{◌==◌, ◌||◌}
use Rattle.bb_watch.specs.Told as machine
use Rattle.flat_code.specs.Told.{Stamped, tells, AllBy, Begins, Came}
use Rattle.flat_code.specs.Told as flat
use Rattle.flat_landing.specs.Shared.{shared, shared_event}

pub shared_append : (xs ys : List machine.Tell) → shared (xs ++ ys) ≡ shared xs ++ shared ys
shared_append [] ys = refl
shared_append (machine.Output byte ∷ xs) ys = ap (λ l. flat.Tell.Output byte ∷ l) (shared_append xs ys)
shared_append (machine.Happens e ∷ xs) ys = ap (λ l. shared_event e ++ l) (shared_append xs ys) ∙ sym (append_assoc (shared_event e) (shared xs) (shared ys))

-- a front of a list with one more is a front of the list, or the whole
pub front_of : (xs fs rs : List Stamped) (x : Stamped) → xs ++ x ∷ [] ≡ fs ++ rs → ((more : List Stamped) × (xs ≡ fs ++ more)) ⊎ (fs ≡ xs ++ x ∷ [])
front_of xs [] rs x e = inl (xs, refl)
front_of [] (f ∷ fs) rs x e =
    let head : x ≡ f = cc in
    let tail : [] ≡ fs ++ rs = cc in
    inr (last fs head tail)
  where
    last : (gs : List Stamped) → x ≡ f → [] ≡ gs ++ rs → f ∷ gs ≡ x ∷ []
    last [] h t = ap (λ y. y ∷ []) (sym h)
    last (g ∷ gs) h t = absurd (let r : ⊥ = cc in r)
front_of (y ∷ ys) (f ∷ fs) rs x e =
    let head : y ≡ f = cc in
    let tail : ys ++ x ∷ [] ≡ fs ++ rs = cc in
    ⊎_elim
    (λ h. inl (h.0, ap (λ z. z ∷ ys) head ∙ ap (λ l. f ∷ l) h.1))
    (λ h. inr (ap (λ l. f ∷ l) h ∙ ap (λ z. z ∷ (ys ++ x ∷ [])) (sym head)))
    (front_of ys fs rs x tail)

pub by_last : (n : ℕ) (xs ys : List Stamped) → AllBy n (xs ++ ys) → AllBy n ys
by_last n [] ys h = h
by_last n (x ∷ xs) ys h = by_last n xs ys h.1
