-- What set a value last, where it is written over and where it is added.
use Rattle.std.proofs.Common.{◌≡◌, ◌≢◌, ◌<◌, ℕ, zero, suc, ◌+◌, List, [], ◌∷◌, ◌++◌, Bool, true, false, refl, sym, ap, ◌∙◌, subst, cond, arith, length, get_or, set}
use Rattle.std.specs.Prelude.{◌==◌}
use Rattle.std.proofs.lemmas.Bool.Decides.{nat_tests}
use Rattle.flat_verify.specs.declared.hints.SetBy.{SetBy}
use Rattle.flat_verify.specs.declared.hints.LastSet.{LastSet}
use Rattle.flat_verify.specs.Hints.{origin_at, origin_written}

-- none of the first n is of the value
abbrev pub Unset : (v : ℕ) → List LastSet → ℕ → Type 0
Unset v xs zero = Unit {0}
Unset v [] (suc n) = Unit {0}
Unset v (x ∷ xs) (suc n) = ((x.value == v) ≡ false) × Unset v xs n

unset_next : (v : ℕ) (xs : List LastSet) (n : ℕ) (d : LastSet) → Unset v xs n → n < length xs → ((get_or xs n d).value == v) ≡ false → Unset v xs (suc n)
unset_next v [] n d u l h = tt
unset_next v (x ∷ xs) zero d u l h = (h, tt)
unset_next v (x ∷ xs) (suc n) d u l h = (u.0, unset_next v xs n d u.1 (omega (arith, l)) h)

pub unset_more : (v : ℕ) (xs : List LastSet) (n : ℕ) (d : LastSet) → Unset v xs n → n < length xs → ((get_or xs n d).value == v) ≡ false → Unset v xs (n + 1)
unset_more v xs n d u l h = let e : suc n ≡ n + 1 = omega arith in subst (Unset v xs) e (unset_next v xs n d u l h)

pub unequal : (a b : ℕ) → a ≢ b → (a == b) ≡ false
unequal a b h = grind (arith, nat_tests)

apart : (u v w : ℕ) → (u == w) ≡ true → (w == v) ≡ false → (u == v) ≡ false
apart u v w a b = grind (arith, nat_tests)

same : (u v w : ℕ) → w ≡ v → (u == w) ≡ (u == v)
same u v w e = ap (λ n. u == n) e

pub set_found : (v : ℕ) (by : SetBy) (xs : List LastSet) (n : ℕ) (d : LastSet) (u : ℕ) → Unset v xs n → n < length xs → (get_or xs n d).value ≡ v → origin_at (set xs n record { value = v; by = by }) u ≡ cond (u == v) (origin_written by) (origin_at xs u)
set_found v by [] n d u f l e = absurd (omega (arith, l))
set_found v by (x ∷ xs) zero d u f l e = at (u == v) refl
  where
    at : (b : Bool) → (u == v) ≡ b → cond b (origin_written by) (origin_at xs u) ≡ cond b (origin_written by) (cond (u == x.value) (origin_written x.by) (origin_at xs u))
    at true h = refl
    at false h = ap (λ c. cond c (origin_written x.by) (origin_at xs u)) (sym (same u v x.value e ∙ h))
set_found v by (x ∷ xs) (suc n) d u f l e = at (u == x.value) refl (set_found v by xs n d u f.1 (omega (arith, l)) e)
  where
    at : (b : Bool) → (u == x.value) ≡ b → origin_at (set xs n record { value = v; by = by }) u ≡ cond (u == v) (origin_written by) (origin_at xs u) → cond b (origin_written x.by) (origin_at (set xs n record { value = v; by = by }) u) ≡ cond (u == v) (origin_written by) (cond b (origin_written x.by) (origin_at xs u))
    at true h more = ap (λ c. cond c (origin_written by) (origin_written x.by)) (sym (apart u v x.value h f.0))
    at false h more = more

pub set_pushed : (v : ℕ) (by : SetBy) (xs : List LastSet) (u : ℕ) → Unset v xs (length xs) → origin_at (xs ++ record { value = v; by = by } ∷ []) u ≡ cond (u == v) (origin_written by) (origin_at xs u)
set_pushed v by [] u f = refl
set_pushed v by (x ∷ xs) u f = at (u == x.value) refl (set_pushed v by xs u f.1)
  where
    at : (b : Bool) → (u == x.value) ≡ b → origin_at (xs ++ record { value = v; by = by } ∷ []) u ≡ cond (u == v) (origin_written by) (origin_at xs u) → cond b (origin_written x.by) (origin_at (xs ++ record { value = v; by = by } ∷ []) u) ≡ cond (u == v) (origin_written by) (cond b (origin_written x.by) (origin_at xs u))
    at true h more = ap (λ c. cond c (origin_written by) (origin_written x.by)) (sym (apart u v x.value h f.0))
    at false h more = more
