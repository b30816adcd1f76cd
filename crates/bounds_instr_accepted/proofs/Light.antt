-- Flat code weighs at most what its mid code weighs, and the start code: each step's items are no heavier than the step.
use Rattle.std.proofs.Common.{◌≡◌, ℕ, zero, suc, ◌+◌, ◌*◌, ◌≤◌, List, [], ◌∷◌, map, Option, Some, None, slice_get, refl, sym, ap, ◌∙◌, arith}
use Rattle.bb_words.specs.declared.steps.OrderOp.{OrderOp}
use Rattle.bb_words.specs.declared.steps.OrderOp.TheVariants as order
use Rattle.bb_words.specs.declared.steps.Width.TheVariants as width
use Rattle.typed_tree.specs.declared.typed_expr.LibCall.{LibCall}
use Rattle.typed_tree.specs.declared.typed_expr.LibCall.TheVariants as lib
use Rattle.mid_code.specs.Code.{Step, Steps, Function, Program}
use Rattle.mid_code.specs.Formed.{Formed}
use Rattle.mid_code.specs.Weight as mid
use Rattle.flat_code.specs.Code.{FStep, FSteps, none, more}
use Rattle.flat_code.specs.Recognized.{Sequence, sequence_at, further}
use Rattle.flat_code.specs.Weight.{sequence_size, item_size, step_size, steps_size, functions_size, weight}
use Rattle.flat_discipline.specs.Items.{Item, Items, item_or, item_of, items_from, items_of}
use Rattle.flat_discipline.specs.Items.Items.{end, next}
use Rattle.flat_discipline.specs.Laws.{PlainItemsAreRead}
use Rattle.bounds_instr_code.specs.Code.{code, function_code, instrumented}
use Rattle.bounds_instr_code.specs.Built.{IsBuilt}
use Rattle.bounds_instr_code.proofs.Fits.{AllFit, FunctionFits, functions_fit}
use Rattle.bounds_instr_accepted.proofs.Accepted.{joined, library_items, order_items, step_items, items, steps_of_items, plainly}

-- ---- What items weigh, in instructions

module _ (g : ℕ) where
  abbrev mutual
    size : Item → ℕ
    size (Item.Plain s) = step_size g s
    size (Item.Checks q) = sequence_size q
    size (Item.If cond x y) = 6 + (sizes x + sizes y)
    size (Item.Block x) = sizes x
    size (Item.Loop x) = 2 + sizes x
    size (Item.Inner x) = 2 + sizes x

    sizes : Items → ℕ
    sizes end = 0
    sizes (next i rest) = size i + sizes rest

  joined_sizes : (a b : Items) → sizes (joined a b) ≡ sizes a + sizes b
  joined_sizes end b = omega arith
  joined_sizes (next i a) b = omega (arith, joined_sizes a b)

  found_size : (o : Option Sequence) (n : ℕ) (i : Item) → n ≡ size i → item_size o n ≡ size (item_or o i)
  found_size None n i e = e
  found_size (Some q) n i e = refl

  -- steps weigh what their items weigh
  mutual
    size_is : (s : FStep) → step_size g s ≡ size (item_of g s)
    size_is (FStep.If cond x y) = omega (arith, sizes_are 0 x, sizes_are 0 y)
    size_is (FStep.Block x) = sizes_are 0 x
    size_is (FStep.Loop x) = ap (λ n. 2 + n) (sizes_are 0 x)
    size_is (FStep.Inner x) = ap (λ n. 2 + n) (sizes_are 0 x)
    size_is (FStep.Number to value) = refl
    size_is (FStep.Same to from) = refl
    size_is (FStep.Arith to o a b) = refl
    size_is (FStep.Exit levels) = refl
    size_is (FStep.Call to f args) = refl
    size_is (FStep.Return from) = refl
    size_is (FStep.Slot to from) = refl
    size_is (FStep.Look to slot) = refl
    size_is (FStep.FrameAt to offset) = refl
    size_is (FStep.Load to at width) = refl
    size_is (FStep.Store at from width) = refl
    size_is (FStep.Checked from to) = refl
    size_is (FStep.LineMark line) = refl
    size_is (FStep.Report kind line) = refl
    size_is (FStep.Env to call a b) = refl

    sizes_are : (n : ℕ) (xs : FSteps) → steps_size g n xs ≡ sizes (items_from g n xs)
    sizes_are n none = refl
    sizes_are (suc n) (more s rest) = sizes_are n rest
    sizes_are zero (more s rest) =
        let found = sequence_at g (more s rest) in
        omega (arith, found_size found (step_size g s) (item_of g s) (size_is s), sizes_are (further g found) rest)

  -- ---- No step's items are heavier than the step

  library_light : (t : ℕ) (which : LibCall) (to line : ℕ) (args : List ℕ) → 4 * sizes (library_items t which to line args) ≤ 204
  library_light t lib.Putchar to line args = omega arith
  library_light t lib.Getchar to line args = omega arith
  library_light t lib.Exit to line args = omega arith
  library_light t lib.Malloc to line args = omega arith
  library_light t lib.Calloc to line args = omega arith
  library_light t lib.Free to line args = omega arith
  library_light t lib.Memcpy to line args = omega arith
  library_light t lib.Memset to line args = omega arith

  module _ (n : ℕ) where
    order_light : (to : ℕ) (o : OrderOp) (a b : ℕ) → 4 * sizes (order_items n to o a b) ≤ 60
    order_light to order.Below a b = omega arith
    order_light to order.AtMost a b = omega arith
    order_light to order.Above a b = omega arith
    order_light to order.AtLeast a b = omega arith

    mutual
      step_light : (x : Step) → 4 * sizes (step_items n x) ≤ mid.weight_of x
      step_light (Step.Number to value) = omega arith
      step_light (Step.NullPtr to) = omega arith
      step_light (Step.Same to from) = omega arith
      step_light (Step.Arith to o a b) = omega arith
      step_light (Step.Divide to o a b line) = omega arith
      step_light (Step.PtrSame to a b) = omega arith
      step_light (Step.Call to f args) = omega arith
      step_light (Step.Library to which args line a b) = library_light n which to line args
      step_light (Step.If cond xs ys) = omega (arith, light xs, light ys)
      step_light (Step.Block body) = omega (arith, light body)
      step_light (Step.Loop body) = omega (arith, light body)
      step_light (Step.Exit levels) = omega arith
      step_light (Step.Return from) = omega arith
      step_light (Step.LineMark line) = omega arith
      step_light (Step.Named to o) = omega arith
      step_light (Step.Move site to from by scale down line) = omega arith
      step_light (Step.MoveBy site to from z line) = omega arith
      step_light (Step.Load to at width.Byte line) = omega arith
      step_light (Step.Load to at width.Half line) = omega arith
      step_light (Step.Load to at width.SignedHalf line) = omega arith
      step_light (Step.Load to at width.Word line) = omega arith
      step_light (Step.Load to at width.Pointer line) = omega arith
      step_light (Step.Store at from width) = omega arith
      step_light (Step.Clear o) = omega arith
      step_light (Step.Init o offset from width) = omega arith
      step_light (Step.CopyBytes a b from to m line) = omega arith
      step_light (Step.PtrOrder to o a b) = order_light to o a b
      step_light (Step.PtrDiff to a b size) = omega arith

      light : (xs : Steps) → 4 * sizes (items n xs) ≤ mid.weight_of_all xs
      light Steps.stop = omega arith
      light (Steps.step x xs) = omega (arith, joined_sizes (step_items n x) (items n xs), step_light x, light xs)

-- ---- Functions and programs

module _ (read : PlainItemsAreRead) (g : ℕ) where
  code_light : (p : Program) (n : ℕ) (xs : Steps) → AllFit p n 0 xs → 4 * steps_size g 0 (code g n xs) ≤ mid.weight_of_all xs
  code_light p n xs fit =
      let same = ap (items_of g) (sym (steps_of_items g n xs)) ∙ read g (items n xs) (plainly p n xs 0 fit) in
      omega (arith, light g n xs, sizes_are g 0 (code g n xs), ap (λ is. sizes g is) same)

  functions_light : (p : Program) (fs : List Function) → ((i : ℕ) (f : Function) → slice_get fs i ≡ Some f → FunctionFits p f) → 4 * functions_size g (map (function_code g) fs) ≤ mid.weight_of_functions fs
  functions_light p [] fit = omega arith
  functions_light p (f ∷ fs) fit = omega (arith, code_light p f.values f.body (fit 0 f refl).body, functions_light p fs (λ i h e. fit (suc i) h e))

  pub program_light : (p : Program) → Formed p → IsBuilt p → weight g (instrumented g p) ≤ mid.weight p + 28672
  program_light p formed built = omega (arith, functions_light p p.functions (functions_fit p formed built))
