-- What holds of all elements of a slice, by a loop over it: whatever holds of the rest, holds of all.
use Rattle.std.proofs.Common.{◌≡◌, ℕ, ◌+◌, ◌<◌, ◌≤◌, List, length, get_or, drop, map, subst}
use Rattle.std.specs.List.{AllByRecursion}
use Rattle.flat_code.specs.declared.code.FlatFunction.{FlatFunction}
use Rattle.flat_code.specs.declared.code.FlatStep.{FlatStep}
use Rattle.flat_code.specs.CodeViews.{step_of, steps_of, function_of}
use Rattle.rv_selected.specs.Words.{StepHasWords, HaveWords, FunctionHasWords}
use Rattle.rv_select.proofs.Emitted.{next_in, end_in}

-- the words of steps, once those of the rest are known
abbrev pub StepsLeft : (rest all : List FlatStep) → Type 0
StepsLeft rest all = HaveWords (steps_of rest) → HaveWords (steps_of all)

pub step_read : (xs all : List FlatStep) (i : ℕ) (x : FlatStep) → i < length xs → x ≡ get_or xs i x → StepHasWords (step_of x) → StepsLeft (drop i xs) all → StepsLeft (drop (i + 1) xs) all
step_read xs all i x lt is w left = λ rest. subst (λ z. HaveWords z → HaveWords (steps_of all)) (next_in steps_of xs i x lt is) left (w, rest)

pub steps_read : (xs all : List FlatStep) (i : ℕ) → length xs ≤ i → StepsLeft (drop i xs) all → HaveWords (steps_of all)
steps_read xs all i le left = subst (λ z. HaveWords z → HaveWords (steps_of all)) (end_in steps_of xs i le) left tt

abbrev pub FunctionsLeft : (rest all : List FlatFunction) → Type 0
FunctionsLeft rest all = AllByRecursion FunctionHasWords (map function_of rest) → AllByRecursion FunctionHasWords (map function_of all)

pub function_read : (xs all : List FlatFunction) (i : ℕ) (x : FlatFunction) → i < length xs → x ≡ get_or xs i x → FunctionHasWords (function_of x) → FunctionsLeft (drop i xs) all → FunctionsLeft (drop (i + 1) xs) all
function_read xs all i x lt is w left =
    λ rest. subst (λ z. AllByRecursion FunctionHasWords z → AllByRecursion FunctionHasWords (map function_of all)) (next_in (λ z. map function_of z) xs i x lt is) left (w, rest)

pub functions_read : (xs all : List FlatFunction) (i : ℕ) → length xs ≤ i → FunctionsLeft (drop i xs) all → AllByRecursion FunctionHasWords (map function_of all)
functions_read xs all i le left = subst (λ z. AllByRecursion FunctionHasWords z → AllByRecursion FunctionHasWords (map function_of all)) (end_in (λ z. map function_of z) xs i le) left tt
