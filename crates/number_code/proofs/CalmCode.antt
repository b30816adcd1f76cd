-- The flat code of steps that work on numbers alone accesses no memory.
use Rattle.std.specs.Prelude.{map, slice_get}
use Rattle.std.proofs.Common.{◌≡◌, ℕ, true, List, Option, Some, None, refl, sym, ◌∙◌, subst}
use Rattle.std.proofs.lemmas.Bool.{true≢false, and_parts}
use Rattle.std.proofs.lemmas.Option.{none-some, same_Some, slice_get-map}
use Rattle.std.specs.Option.{option_map}
use Rattle.typed_tree.specs.TypedTree.{CProgram}
use Rattle.typed_tree.specs.declared.typed_expr.LibCall.{LibCall}
use Rattle.typed_tree.specs.declared.typed_expr.LibCall.TheVariants as lib
use Rattle.mid_code.specs.Code.{Step, Steps, Function, Program}
use Rattle.mid_code.specs.Code.Steps.{stop, step as next}
use Rattle.flat_code.specs.Code.{FSteps, FFunction, none, more, ◌+++◌}
use Rattle.lowering_counts.specs.Built as lowering
use Rattle.lowering_counts.specs.Built.{is_of_numbers}
use Rattle.lowering_code.specs.Lower.{lowered}
use Rattle.bounds_instr_code.specs.Built.{is_none}
use Rattle.bounds_instr_code.specs.Code.{library_code, step_code, code, function_code, instrumented}
use Rattle.select_scope.specs.InReach.{AreCalm}
use Rattle.number_code.specs.Laws.{CodeIsCalm}
use Rattle.number_code.proofs.OfNumbers.{of_numbers, all_of_numbers, functions_of_numbers, body_of}
use Rattle.number_code.proofs.CodeNumbers.{code_numbers}

joined : (xs ys : FSteps) → AreCalm xs → AreCalm ys → AreCalm (xs +++ ys)
joined none ys hx hy = hy
joined (more x xs) ys hx hy = (hx.0, joined xs ys hx.1 hy)

calm_library : (t : ℕ) (which : LibCall) (to line : ℕ) (args : List ℕ) → is_of_numbers which ≡ true → AreCalm (library_code t which to line args)
calm_library t lib.Putchar to line args h = (tt, tt)
calm_library t lib.Getchar to line args h = (tt, tt)
calm_library t lib.Exit to line args h = (tt, tt)
calm_library t lib.Malloc to line args h = absurd (true≢false (sym h))
calm_library t lib.Calloc to line args h = absurd (true≢false (sym h))
calm_library t lib.Free to line args h = absurd (true≢false (sym h))
calm_library t lib.Memcpy to line args h = absurd (true≢false (sym h))
calm_library t lib.Memset to line args h = absurd (true≢false (sym h))

module _ (g values : ℕ) where
  mutual
    calm_step : (x : Step) → of_numbers x ≡ true → AreCalm (step_code g values x)
    calm_step (Step.Number to n) h = (tt, tt)
    calm_step (Step.Same to from) h = (tt, tt)
    calm_step (Step.Arith to o a b) h = (tt, tt)
    calm_step (Step.Divide to o a b line) h = ((tt, (tt, (tt, tt))), (tt, tt))
    calm_step (Step.Call to k args) h = (tt, tt)
    calm_step (Step.Library to which args line a b) h = calm_library values which to line args h
    calm_step (Step.If cond xs ys) h =
        let parts = and_parts (all_of_numbers xs) (all_of_numbers ys) h in
        ((calm_steps xs parts.0, calm_steps ys parts.1), tt)
    calm_step (Step.Block body) h = (calm_steps body h, tt)
    calm_step (Step.Loop body) h = (calm_steps body h, tt)
    calm_step (Step.Exit n) h = (tt, tt)
    calm_step (Step.Return from) h = (tt, tt)
    calm_step (Step.LineMark line) h = (tt, tt)
    calm_step x h = absurd (true≢false (sym h))

    calm_steps : (xs : Steps) → all_of_numbers xs ≡ true → AreCalm (code g values xs)
    calm_steps stop h = tt
    calm_steps (next x xs) h =
        let parts = and_parts (of_numbers x) (all_of_numbers xs) h in
        joined (step_code g values x) (code g values xs) (calm_step x parts.0) (calm_steps xs parts.1)

functions_calm : (g : ℕ) (p : Program) → functions_of_numbers p.functions ≡ true → (number : ℕ) (fn : FFunction) → slice_get (instrumented g p).functions number ≡ Some fn → AreCalm fn.body
functions_calm g p numbers number fn e = of (slice_get p.functions number) refl (sym (slice_get-map (function_code g) p.functions number) ∙ e)
  where
    of : (o : Option Function) → slice_get p.functions number ≡ o → option_map (function_code g) o ≡ Some fn → AreCalm fn.body
    of None found h = absurd (none-some fn h)
    of (Some f) found h = subst (λ (x : FFunction). AreCalm x.body) (same_Some (function_code g f) fn h) (calm_steps g f.values f.body (body_of p.functions numbers number f found))

pub code_calm : CodeIsCalm
code_calm g p built =
    let parts = and_parts (is_none (lowered p).globals) (functions_of_numbers (lowered p).functions) (code_numbers p built) in
    functions_calm g (lowered p) parts.1
