-- The exponent that is found by going up from that of a slot.
use Rattle.std.proofs.Common.{◌≡◌, ℕ, suc, ◌+◌, ◌-◌, ◌*◌, ◌%◌, ◌^◌, ◌<◌, ◌≤◌, Bool, true, false, cond, leb, sym, ap, subst, ◌∙◌, arith}
use Rattle.std.proofs.lemmas.Bool.Decides.{nat_tests}
use Rattle.std.proofs.Math.Pow.{pow_mono}
use Rattle.size_table.specs.Pads.{exponent_from, exponent_of, IsExponentOf}
use Rattle.size_table.proofs.Pads.{exponent_is_least}

pub exponent_more : (e size whole : ℕ) → e < 24 → 2 ^ e < size → exponent_from (24 - e) e size ≡ whole → exponent_from (24 - (e + 1)) (e + 1) size ≡ whole
exponent_more e size whole l f h =
    let n : 24 - e ≡ suc (24 - (e + 1)) = omega (arith, l) in
    let t : leb size (2 ^ e) ≡ false = grind (arith, nat_tests) in
    sym (ap (λ k. exponent_from k e size) n ∙ ap (λ (b : Bool). cond {A = ℕ} b e (exponent_from (24 - (e + 1)) (e + 1) size)) t) ∙ h

pub exponent_found : (e size whole : ℕ) → e < 24 → size ≤ 2 ^ e → exponent_from (24 - e) e size ≡ whole → e ≡ whole
exponent_found e size whole l f h =
    let n : 24 - e ≡ suc (24 - (e + 1)) = omega (arith, l) in
    let t : leb size (2 ^ e) ≡ true = grind (arith, nat_tests) in
    sym (ap (λ k. exponent_from k e size) n ∙ ap (λ (b : Bool). cond {A = ℕ} b e (exponent_from (24 - (e + 1)) (e + 1) size)) t) ∙ h

pub size_is : (e : ℕ) → e ≤ 24 → 1 * 2 ^ e % 4294967296 ≡ 2 ^ e
size_is e h =
    let most : 2 ^ e ≤ 2 ^ 24 = pow_mono h in
    omega (arith, most)

-- the exponent that is found is that of the size
pub least_at : (e n : ℕ) → n ≤ 16777216 → e ≡ exponent_of 4 n → IsExponentOf 4 n e
least_at e n h same = subst (IsExponentOf 4 n) (sym same) (exponent_is_least 4 n (omega arith) h)

pub exponent_last : (e n whole : ℕ) → 24 ≤ e → e ≤ 24 → exponent_from (24 - e) e n ≡ whole → e ≡ whole
exponent_last e n whole low high h = let none : 24 - e ≡ 0 = omega (arith, low) in sym (ap (λ k. exponent_from k e n) none) ∙ h
