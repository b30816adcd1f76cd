-- Lists of steps, and what stands for them.
use Rattle.std.proofs.Common.{◌≡◌, Bool, true, false, ◌&&◌, ℕ, ◌+◌, ◌<◌, ◌≤◌, List, [], ◌∷◌, ◌++◌, length, get_or, drop, refl, sym, ap, ◌∙◌}
use Rattle.std.proofs.lemmas.List.{at_drop_more, drop_all}
use Rattle.flat_code.specs.declared.code.FlatStep.{FlatStep}
use Rattle.flat_code.specs.Code.{FStep, FSteps, none, more, ◌+++◌}
use Rattle.flat_code.specs.CodeViews.{step_of, steps_of}
use Rattle.flat_code.proofs.CodeViewed.{flat_views}
use Rattle.mid_code.proofs.Views.{step_views}

pub steps_append : (xs ys : List FlatStep) → steps_of (xs ++ ys) ≡ steps_of xs +++ steps_of ys
steps_append [] ys = refl
steps_append (x ∷ xs) ys = ap (more (step_of x)) (steps_append xs ys)

pub append_none : (xs : FSteps) → xs +++ none ≡ xs
append_none none = refl
append_none (more x xs) = ap (more x) (append_none xs)

pub append_assoc : (xs ys zs : FSteps) → (xs +++ ys) +++ zs ≡ xs +++ (ys +++ zs)
append_assoc none ys zs = refl
append_assoc (more x xs) ys zs = ap (more x) (append_assoc xs ys zs)

-- one step and then another
pub two_more : (s0 s1 s2 : FSteps) (x y : FStep) → s1 ≡ s0 +++ more x none → s2 ≡ s1 +++ more y none → s2 ≡ s0 +++ more x (more y none)
two_more s0 s1 s2 x y e1 e2 = e2 ∙ ap (λ s. s +++ more y none) e1 ∙ append_assoc s0 (more x none) (more y none)

-- one step, another, and a third
pub three_more : (s0 s1 s2 s3 : FSteps) (x y z : FStep) → s1 ≡ s0 +++ more x none → s2 ≡ s1 +++ more y none → s3 ≡ s2 +++ more z none → s3 ≡ s0 +++ more x (more y (more z none))
three_more s0 s1 s2 s3 x y z e1 e2 e3 = e3 ∙ ap (λ s. s +++ more z none) (two_more s0 s1 s2 x y e1 e2) ∙ append_assoc s0 (more x (more y none)) (more z none)

-- the steps of a list and one more
pub one_after : (xs : List FlatStep) (y : FlatStep) (s : FSteps) → steps_of xs ≡ s → steps_of (xs ++ y ∷ []) ≡ s +++ more (step_of y) none
one_after xs y s e = steps_append xs (y ∷ []) ∙ ap (λ z. z +++ more (step_of y) none) e

-- the steps of a list and of another
pub all_after : (s0 s1 y z : FSteps) → s1 ≡ s0 +++ y → y ≡ z → s1 ≡ s0 +++ z
all_after s0 s1 y z e h = e ∙ ap (λ x. s0 +++ x) h

-- to an empty list
pub from_nothing : (xs : List FlatStep) (s y : FSteps) → xs ≡ [] → s ≡ steps_of xs +++ y → s ≡ y
from_nothing xs s y e h = h ∙ ap (λ z. steps_of z +++ y) e

pub ruleset emitted = (append_none, two_more, three_more, from_nothing, flat_views)

pub ruleset moved = (one_after, flat_views)

pub ruleset coded = (append_none, from_nothing, all_after, flat_views, step_views)

pub next_in : {X Y : Type 0} (G : List X → Y) (xs : List X) (i : ℕ) (x : X) → i < length xs → x ≡ get_or xs i x → G (drop i xs) ≡ G (x ∷ drop (i + 1) xs)
next_in G xs i x lt is = at_drop_more G xs i x lt ∙ ap (λ z. G (z ∷ drop (i + 1) xs)) (sym is)

pub end_in : {X Y : Type 0} (G : List X → Y) (xs : List X) (i : ℕ) → length xs ≤ i → G (drop i xs) ≡ G []
end_in G xs i le = ap G (drop_all i xs le)

-- a test of all elements goes on, where the next one holds, and ends, where it does not
pub goes_on : {X : Type 0} (G : List X → Bool) (b : Bool) (xs : List X) (i : ℕ) (x : X) → i < length xs → x ≡ get_or xs i x → G (x ∷ drop (i + 1) xs) ≡ b && G (drop (i + 1) xs) → b ≡ true → G (drop i xs) ≡ G xs → G (drop (i + 1) xs) ≡ G xs
goes_on G b xs i x lt is e t h = ap (λ z. z && G (drop (i + 1) xs)) (sym t) ∙ sym e ∙ sym (next_in G xs i x lt is) ∙ h

pub stops : {X : Type 0} (G : List X → Bool) (b : Bool) (xs : List X) (i : ℕ) (x : X) → i < length xs → x ≡ get_or xs i x → G (x ∷ drop (i + 1) xs) ≡ b && G (drop (i + 1) xs) → b ≡ false → G (drop i xs) ≡ G xs → false ≡ G xs
stops G b xs i x lt is e f h = ap (λ z. z && G (drop (i + 1) xs)) (sym f) ∙ sym e ∙ sym (next_in G xs i x lt is) ∙ h
