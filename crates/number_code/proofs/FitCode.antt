-- The flat code of steps that work on numbers alone, and are in range, is code that the selection is proved for.
use Rattle.std.specs.Prelude.{All}
use Rattle.std.proofs.Common.{◌≡◌, ℕ, suc, ◌+◌, ◌<◌, ◌≤◌, true, List, [], ◌∷◌, length, Option, Some, refl, sym, arith}
use Rattle.std.proofs.lemmas.Bool.{true≢false, and_parts}
use Rattle.std.proofs.lemmas.List.Elements.{All-head, All-tail}
use Rattle.typed_tree.specs.declared.typed_expr.LibCall.{LibCall}
use Rattle.typed_tree.specs.declared.typed_expr.LibCall.TheVariants as lib
use Rattle.mid_code.specs.Code.{Step, Steps, Function, Program}
use Rattle.mid_code.specs.Code.Steps.{stop, step as next}
use Rattle.mid_code.specs.Formed.{IsCallOf, IsInRange, AreInRange}
use Rattle.flat_code.specs.Code.{FSteps, none, more, ◌+++◌}
use Rattle.flat_discipline.specs.Laws.{ArePlainly}
use Rattle.lowering_counts.specs.Built.{is_of_numbers}
use Rattle.bounds_instr_code.specs.Code.{first_of, library_code, step_code, code}
use Rattle.select_scope.specs.Fits.{AreValues, FitItems}
use Rattle.number_code.proofs.OfNumbers.{of_numbers, all_of_numbers}
use Rattle.number_code.proofs.FlatItems.{plain_items}

-- the arguments of a call are values of its function, which has more
are_values : (n m : ℕ) → n ≤ m → (vs : List ℕ) → All (λ v. v < n) vs → AreValues m vs
are_values n m le [] all = tt
are_values n m le (v ∷ vs) all = let here = All-head (λ v. v < n) v vs all in (omega (arith, le, here), are_values n m le vs (All-tail (λ v. v < n) v vs all))

-- and so is the first of them, or value 0 if there is one
first_within : (n : ℕ) → 0 < n → (vs : List ℕ) → All (λ v. v < n) vs → first_of vs < n
first_within n some [] all = some
first_within n some (v ∷ vs) all = All-head (λ v. v < n) v vs all

-- In function f of program p; a call is one of a function with as many parameters.
module _ (p : Program) (f : Function) (params : ℕ → Option ℕ) (calls : (k : ℕ) (args : List ℕ) → IsCallOf p k args → (params k ≡ Some (length args)) × (length args ≤ 8)) where
  -- code that fits, none of which begins a sequence
  abbrev pub Good : (levels : ℕ) → FSteps → Type 0
  Good d xs = FitItems (f.values + 5) params d (plain_items xs) × ArePlainly (plain_items xs)

  joined : (d : ℕ) (xs ys : FSteps) → Good d xs → Good d ys → Good d (xs +++ ys)
  joined d none ys hx hy = hy
  joined d (more x xs) ys hx hy = let rest = joined d xs ys (hx.0.1, hx.1.1) hy in ((hx.0.0, rest.0), (hx.1.0, rest.1))

  good_library : (which : LibCall) (d to line : ℕ) (args : List ℕ) → is_of_numbers which ≡ true → to < f.values → All (λ v. v < f.values) args → Good d (library_code f.values which to line args)
  good_library lib.Putchar d to line args h lt all =
      let first = first_within f.values (omega (arith, lt)) args all in
      (((omega (arith, lt), omega (arith, first), omega (arith, first), omega arith, omega arith), tt), ((refl, refl), tt))
  good_library lib.Getchar d to line args h lt all = (((omega (arith, lt), omega (arith, lt), omega (arith, lt), omega arith, omega arith), tt), ((refl, refl), tt))
  good_library lib.Exit d to line args h lt all =
      let first = first_within f.values (omega (arith, lt)) args all in
      (((omega (arith, first), omega (arith, first), omega (arith, first), omega arith, omega arith), tt), ((refl, refl), tt))
  good_library lib.Malloc d to line args h lt all = absurd (true≢false (sym h))
  good_library lib.Calloc d to line args h lt all = absurd (true≢false (sym h))
  good_library lib.Free d to line args h lt all = absurd (true≢false (sym h))
  good_library lib.Memcpy d to line args h lt all = absurd (true≢false (sym h))
  good_library lib.Memset d to line args h lt all = absurd (true≢false (sym h))

  module _ (g : ℕ) where
    mutual
      good_step : (x : Step) (d : ℕ) → of_numbers x ≡ true → IsInRange p f d x → Good d (step_code g f.values x)
      good_step (Step.Number to n) d h r = (((omega (arith, r.0), r.1), tt), ((refl, refl), tt))
      good_step (Step.Same to from) d h r = (((omega (arith, r.0), omega (arith, r.1)), tt), ((refl, refl), tt))
      good_step (Step.Arith to o a b) d h r = (((omega (arith, r.0), omega (arith, r.1), omega (arith, r.2)), tt), ((refl, refl), tt))
      good_step (Step.Divide to o a b line) d h r = (
        ((omega (arith, r.2), tt, ((omega arith, omega (arith, r.3.1)), (omega arith, tt))), ((omega (arith, r.0), omega (arith, r.1), omega (arith, r.2)), tt)),
        ((tt, ((refl, refl), ((refl, refl), tt))), ((refl, refl), tt)),
      )
      good_step (Step.Call to k args) d h r =
          let is = calls k args r.1 in
          (((omega (arith, r.0), are_values f.values (f.values + 5) (omega arith) args r.2, is.0, is.1), tt), ((refl, refl), tt))
      good_step (Step.Library to which args line a b) d h r = good_library which d to line args h r.0 r.1
      good_step (Step.If cond xs ys) d h r =
          let parts = and_parts (all_of_numbers xs) (all_of_numbers ys) h in
          let first = good_steps xs d parts.0 r.1 in
          let second = good_steps ys d parts.1 r.2 in
          (((omega (arith, r.0), first.0, second.0), tt), ((first.1, second.1), tt))
      good_step (Step.Block body) d h r = let inside = good_steps body (suc d) h r in ((inside.0, tt), (inside.1, tt))
      good_step (Step.Loop body) d h r = let inside = good_steps body (suc d) h r in ((inside.0, tt), (inside.1, tt))
      good_step (Step.Exit n) d h r = ((r, tt), ((refl, refl), tt))
      good_step (Step.Return from) d h r = ((omega (arith, r), tt), ((refl, refl), tt))
      good_step (Step.LineMark line) d h r = ((omega (arith, r.1), tt), ((refl, refl), tt))
      good_step x d h r = absurd (true≢false (sym h))

      pub good_steps : (xs : Steps) (d : ℕ) → all_of_numbers xs ≡ true → AreInRange p f d xs → Good d (code g f.values xs)
      good_steps stop d h r = (tt, tt)
      good_steps (next x xs) d h r =
          let parts = and_parts (of_numbers x) (all_of_numbers xs) h in
          joined d (step_code g f.values x) (code g f.values xs) (good_step x d parts.0 r.0) (good_steps xs d parts.1 r.1)
