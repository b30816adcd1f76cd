-- Lists of steps that are put together, and taken apart.
use Rattle.std.proofs.Common.{◌≡◌, ℕ, zero, suc, ◌+◌, ◌-◌, ◌<◌, ◌≤◌, false, List, [], ◌∷◌, ◌++◌, length, get_or, take, drop, refl, sym, ap, ◌∙◌, arith}
use Rattle.std.proofs.lemmas.List.{take_all}
use Rattle.flat_code.specs.declared.code.FlatStep.{FlatStep}
use Rattle.flat_code.specs.Code.{FStep, FSteps, ◌+++◌}
use Rattle.flat_code.specs.CodeViews.{step_of, steps_of}
use Rattle.flat_code.specs.Recognized.{same_steps, step_at}

-- one step after others
pub one_more : (xs : List FlatStep) (x : FlatStep) → steps_of (xs ++ (x ∷ [])) ≡ steps_of xs +++ FSteps.more (step_of x) FSteps.none
one_more [] x = refl
one_more (y ∷ ys) x = ap (λ r. FSteps.more (step_of y) r) (one_more ys x)

pub ruleset touched = (one_more)

-- how many steps there are
abbrev mutual
  pub step_size : FStep → ℕ
  step_size (FStep.If cond first second) = 1 + steps_size first + steps_size second
  step_size (FStep.Block body) = 1 + steps_size body
  step_size (FStep.Loop body) = 1 + steps_size body
  step_size (FStep.Inner body) = 1 + steps_size body
  step_size s = 1

  pub steps_size : FSteps → ℕ
  steps_size FSteps.none = 0
  steps_size (FSteps.more s rest) = step_size s + steps_size rest

pub some_size : (s : FStep) → 1 ≤ step_size s
some_size (FStep.If c a b) = omega arith
some_size (FStep.Block a) = omega arith
some_size (FStep.Loop a) = omega arith
some_size (FStep.Inner a) = omega arith
some_size s = omega arith

pub split_first : (l : List FlatStep) (x : FlatStep) → 1 ≤ length l → x ≡ get_or l 0 x → l ≡ x ∷ take (length l - 1) (drop 1 l)
split_first [] x le e = absurd (let q : ⊥ = omega (arith, le) in q)
split_first (s ∷ rest) x le e = ap (λ y. y ∷ rest) (sym e) ∙ ap (λ l. x ∷ l) (sym (take_all (length (s ∷ rest) - 1) rest (omega arith)))

pub short_long : (a b : List FlatStep) → length a < 1 → 1 ≤ length b → false ≡ same_steps (steps_of a) (steps_of b)
short_long [] [] la lb = absurd (let q : ⊥ = omega (arith, lb) in q)
short_long [] (s ∷ b) la lb = refl
short_long (s ∷ a) b la lb = absurd (let q : ⊥ = omega (arith, la) in q)

-- the step at a place of a list
pub step_at_list : (l : List FlatStep) (n : ℕ) (x : FlatStep) → n < length l → x ≡ get_or l n x → step_at n (steps_of l) ≡ step_of x
step_at_list [] n x lt e = absurd (let q : ⊥ = omega (arith, lt) in q)
step_at_list (s ∷ l) zero x lt e = ap step_of (sym e)
step_at_list (s ∷ l) (suc n) x lt e = step_at_list l n x (let q : n < length l = omega (arith, lt) in q) e

pub step_at_none : (l : List FlatStep) (n : ℕ) → length l ≤ n → step_at n (steps_of l) ≡ FStep.Exit 0
step_at_none [] zero le = refl
step_at_none [] (suc n) le = refl
step_at_none (s ∷ l) zero le = absurd (let q : ⊥ = omega (arith, le) in q)
step_at_none (s ∷ l) (suc n) le = step_at_none l n (let q : length l ≤ n = omega (arith, le) in q)

pub ruleset at_list = (step_at_list, step_at_none)
