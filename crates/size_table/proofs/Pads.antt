-- The exponent of a padded size is the least that serves.
use Rattle.std.proofs.Common.{◌≡◌, ℕ, zero, suc, ◌+◌, ◌-◌, ◌^◌, ◌≤◌, leb-true, leb-false, Bool, true, false, cond, leb, refl, subst, arith}
use Rattle.size_table.specs.Pads.{exponent_from, exponent_of, IsExponentOf, ExponentIsLeast}

-- an exponent that serves, where e does not, is above e
above : (e n d : ℕ) → leb n (2 ^ e) ≡ false → e ≤ d → n ≤ 2 ^ d → e + 1 ≤ d
above e n d t low fits = by (leb (e + 1) d) refl
  where
    by : (b : Bool) → leb (e + 1) d ≡ b → e + 1 ≤ d
    by true s = leb-true (e + 1) d s
    by false s =
        let over = leb-false (e + 1) d s in
        let same : d ≡ e = omega (arith, over, low) in
        let past = leb-false n (2 ^ e) t in
        let again : n ≤ 2 ^ e = subst (λ (k : ℕ). n ≤ 2 ^ k) same fits in
        omega (arith, past, again)

least_from : (steps e n : ℕ) → e + steps ≡ 24 → n ≤ 2 ^ 24 → IsExponentOf e n (exponent_from steps e n)
least_from zero e n sum h =
    let same : 24 ≡ e = omega (arith, sum) in
    record { slot = omega arith; fits = subst (λ (k : ℕ). n ≤ 2 ^ k) same h; least = λ d low fits. low }
least_from (suc steps) e n sum h = by (least_from steps (e + 1) n (omega (arith, sum)) h) (leb n (2 ^ e)) refl
  where
    by : IsExponentOf (e + 1) n (exponent_from steps (e + 1) n) → (t : Bool) → leb n (2 ^ e) ≡ t → IsExponentOf e n (cond t e (exponent_from steps (e + 1) n))
    by rest true t = record { slot = omega arith; fits = leb-true n (2 ^ e) t; least = λ d low fits. low }
    by rest false t = record {
      slot = (let low = rest.slot in omega (arith, low));
      fits = rest.fits;
      least = λ d low fits. rest.least d (above e n d t low fits) fits;
    }

pub exponent_is_least : ExponentIsLeast
unfolding exponent_of
exponent_is_least g n small h = least_from (24 - g) g n (omega (arith, small)) h
