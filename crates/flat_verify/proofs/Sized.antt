-- The places of lists of steps.
use Rattle.std.proofs.Common.{◌≡◌, ◌<◌, ◌≤◌, ℕ, zero, suc, ◌+◌, List, [], ◌∷◌, sym, ap, ◌∙◌, arith, length, get_or, drop}
use Rattle.std.proofs.lemmas.List.{drop_more, drop_all}
use Rattle.flat_code.specs.declared.code.FlatStep.{FlatStep}
use Rattle.flat_code.specs.CodeViews.{step_of, steps_of}
use Rattle.flat_discipline.specs.Items.{step_places, steps_places}

pub item_places : (xs : List FlatStep) (i : ℕ) (x : FlatStep) → i < length xs → x ≡ get_or xs i x → step_places (step_of x) ≤ steps_places (steps_of xs)
item_places [] i x l is = absurd (omega (arith, l))
item_places (y ∷ ys) zero x l is = let e : step_places (step_of x) ≡ step_places (step_of y) = ap (λ z. step_places (step_of z)) is in omega (arith, e)
item_places (y ∷ ys) (suc i) x l is = omega (arith, item_places ys i x (omega (arith, l)) is)

pub next_places : (xs : List FlatStep) (i : ℕ) (x : FlatStep) → i < length xs → x ≡ get_or xs i x → steps_places (steps_of (drop i xs)) ≡ step_places (step_of x) + steps_places (steps_of (drop (i + 1) xs))
next_places xs i x l is = ap (λ d. steps_places (steps_of d)) (drop_more xs i x l) ∙ ap (λ z. step_places (step_of z) + steps_places (steps_of (drop (i + 1) xs))) (sym is)

pub no_places : (xs : List FlatStep) (i : ℕ) → length xs ≤ i → steps_places (steps_of (drop i xs)) ≡ 0
no_places xs i l = ap (λ d. steps_places (steps_of d)) (drop_all i xs l)
