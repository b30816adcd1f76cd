-- Decimal numbers with an upper bound.
use Rattle.std.proofs.Common.{◌≡◌, ◌≢◌, ℕ, ◌+◌, ◌-◌, ◌*◌, ◌<◌, ◌≤◌, Bool, true, false, cond, List, [], ◌∷◌, length, get_or, drop, None, refl, sym, ap, arith, add-one, drop-cons}
use Rattle.std.specs.List.{list_all}
use Rattle.std.specs.Char.{is_ascii_digit}
use Rattle.std.proofs.lemmas.Bool.Decides.{nat_tests}
use Rattle.baggy_tool.specs.Decimal.{number_from, number_of, number_within}
use Rattle.baggy_tool.specs.Words.{steps_of}

-- more digits make no smaller number
number_grows : (n : ℕ) (ds : List ℕ) → n ≤ number_from n ds
number_grows n [] = omega arith
number_grows n (d ∷ ds) = let h = number_grows (10 * n + (d - 48)) ds in omega arith

number_more : (n i : ℕ) (ds : List ℕ) → i < length ds → number_from n (drop i ds) ≡ number_from (10 * n + (get_or ds i 0 - 48)) (drop (i + 1) ds)
number_more n i ds h = rw (add-one, drop-cons ds i 0)

-- once the number of some digits is too large, that of all is
pub number_passes : (most n i : ℕ) (ds : List ℕ) → i < length ds → number_from n (drop i ds) ≡ number_of ds → most < 10 * n + (get_or ds i 0 - 48) → None ≡ number_within most ds
number_passes most n i ds h e l =
    let m = number_more n i ds h in
    let g = number_grows (10 * n + (get_or ds i 0 - 48)) (drop (i + 1) ds) in
    let big : most < number_of ds = omega arith in
    grind (arith, nat_tests)

-- the number of a word, by its three cases
pub steps_empty : (word : List ℕ) → length word ≡ 0 → None ≡ steps_of word
steps_empty [] h = refl
steps_empty (d ∷ ds) h = absurd (omega arith)

pub steps_other : (word : List ℕ) → list_all is_ascii_digit word ≡ false → None ≡ steps_of word
steps_other [] h = absurd (cc)
steps_other (d ∷ ds) h = sym (ap (λ (b : Bool). cond b (number_within 1000000000000 (d ∷ ds)) None) h)

pub steps_digits : (word : List ℕ) → length word ≢ 0 → list_all is_ascii_digit word ≡ true → number_within 1000000000000 word ≡ steps_of word
steps_digits [] n h = absurd (n refl)
steps_digits (d ∷ ds) n h = sym (ap (λ (b : Bool). cond b (number_within 1000000000000 (d ∷ ds)) None) h)
