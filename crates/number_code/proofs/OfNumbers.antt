-- Mid code that works on numbers alone, and what it is built for.
use Rattle.std.specs.Prelude.{◌-◌, ◌&&◌, All, map, replicate, slice_get}
use Rattle.std.proofs.Common.{◌≡◌, ℕ, zero, suc, Bool, true, false, List, [], ◌∷◌, length, Some, refl, sym, ap, ◌∙◌, subst}
use Rattle.std.proofs.lemmas.Bool.{true≢false, and_parts}
use Rattle.std.proofs.lemmas.List.Elements.{All-nil, All-cons}
use Rattle.std.proofs.lemmas.Option.{none-some, same_Some}
use Rattle.block_layout.specs.Layout.{AreSmall, layout, declining, placed_from}
use Rattle.typed_tree.specs.declared.typed_expr.LibCall.{LibCall}
use Rattle.typed_tree.specs.declared.typed_expr.LibCall.TheVariants as lib
use Rattle.source_meaning.specs.Start.{start_world, laid_out}
use Rattle.source_meaning.specs.Worlds.{live_blocks}
use Rattle.mid_code.specs.Code.{Step, Steps, Function, Program}
use Rattle.mid_code.specs.Code.Steps.{stop, step as more}
use Rattle.injection.specs.Laws.{exponents}
use Rattle.lowering_counts.specs.Built.{is_of_numbers}
use Rattle.bounds_instr_code.specs.Built.{is_of_environment, is_built_step, are_built_steps, IsBuiltFunction, IsBuilt, is_none, is_built_function, are_built_functions, is_built}
use Rattle.bounds_instr_code.specs.Code.{frame_of}
use Rattle.number_code.specs.Laws.{IsFrameless}

pub both : (a b : Bool) → a ≡ true → b ≡ true → (a && b) ≡ true
both true b ha hb = hb
both false b ha hb = absurd (true≢false (sym ha))

-- ---- Which code it is

abbrev mutual
  -- steps that work on numbers alone
  pub of_numbers : Step → Bool
  of_numbers (Step.Number to value) = true
  of_numbers (Step.Same to from) = true
  of_numbers (Step.Arith to o a b) = true
  of_numbers (Step.Divide to o a b line) = true
  of_numbers (Step.Call to f args) = true
  of_numbers (Step.Library to which args line a b) = is_of_numbers which
  of_numbers (Step.If cond xs ys) = all_of_numbers xs && all_of_numbers ys
  of_numbers (Step.Block body) = all_of_numbers body
  of_numbers (Step.Loop body) = all_of_numbers body
  of_numbers (Step.Exit levels) = true
  of_numbers (Step.Return from) = true
  of_numbers (Step.LineMark line) = true
  of_numbers x = false

  pub all_of_numbers : Steps → Bool
  all_of_numbers stop = true
  all_of_numbers (more x xs) = of_numbers x && all_of_numbers xs

-- a function without block locals, whose steps do
abbrev pub function_of_numbers : Function → Bool
function_of_numbers f = is_none f.blocks && all_of_numbers f.body

abbrev pub functions_of_numbers : List Function → Bool
functions_of_numbers [] = true
functions_of_numbers (f ∷ fs) = function_of_numbers f && functions_of_numbers fs

-- a program without global objects, whose functions are such
abbrev pub program_of_numbers : Program → Bool
program_of_numbers p = is_none p.globals && functions_of_numbers p.functions

none_is : {X : Type 0} (xs : List X) → is_none xs ≡ true → xs ≡ []
none_is [] h = refl
none_is (x ∷ xs) h = absurd (true≢false (sym h))

pub body_of : (fs : List Function) → functions_of_numbers fs ≡ true → (k : ℕ) (f : Function) → slice_get fs k ≡ Some f → all_of_numbers f.body ≡ true
body_of [] h k f e = absurd (none-some f e)
body_of (x ∷ fs) h zero f e =
    let this : x ≡ f = same_Some x f e in
    ap (λ z. all_of_numbers z.body) (sym this) ∙ (and_parts (is_none x.blocks) (all_of_numbers x.body) (and_parts (function_of_numbers x) (functions_of_numbers fs) h).0).1
body_of (x ∷ fs) h (suc k) f e = body_of fs (and_parts (function_of_numbers x) (functions_of_numbers fs) h).1 k f e

-- ---- It is built

library_is_built : (which : LibCall) → is_of_numbers which ≡ true → is_of_environment which ≡ true
library_is_built lib.Memcpy h = absurd (true≢false (sym h))
library_is_built lib.Memset h = absurd (true≢false (sym h))
library_is_built lib.Putchar h = refl
library_is_built lib.Getchar h = refl
library_is_built lib.Exit h = refl
library_is_built lib.Malloc h = refl
library_is_built lib.Calloc h = refl
library_is_built lib.Free h = refl

mutual
  step_is_built : (x : Step) → of_numbers x ≡ true → is_built_step x ≡ true
  step_is_built (Step.Library to which args line a b) h = library_is_built which h
  step_is_built (Step.If cond xs ys) h =
      let parts = and_parts (all_of_numbers xs) (all_of_numbers ys) h in
      both (are_built_steps xs) (are_built_steps ys) (steps_are_built xs parts.0) (steps_are_built ys parts.1)
  step_is_built (Step.Block body) h = steps_are_built body h
  step_is_built (Step.Loop body) h = steps_are_built body h
  step_is_built (Step.Named to o) h = absurd (true≢false (sym h))
  step_is_built (Step.Clear o) h = absurd (true≢false (sym h))
  step_is_built (Step.Init o offset from w) h = absurd (true≢false (sym h))
  step_is_built (Step.CopyBytes a b from to n line) h = absurd (true≢false (sym h))
  step_is_built x h = refl

  steps_are_built : (xs : Steps) → all_of_numbers xs ≡ true → are_built_steps xs ≡ true
  steps_are_built stop h = refl
  steps_are_built (more x xs) h =
      let parts = and_parts (of_numbers x) (all_of_numbers xs) h in
      both (is_built_step x) (are_built_steps xs) (step_is_built x parts.0) (steps_are_built xs parts.1)

functions_are_built : (fs : List Function) → functions_of_numbers fs ≡ true → (are_built_functions fs ≡ true) × All IsBuiltFunction fs
functions_are_built [] h = (refl, All-nil IsBuiltFunction)
functions_are_built (f ∷ fs) h =
    let parts = and_parts (function_of_numbers f) (functions_of_numbers fs) h in
    let here = and_parts (is_none f.blocks) (all_of_numbers f.body) parts.0 in
    let body = steps_are_built f.body here.1 in
    let rest = functions_are_built fs parts.1 in (
      both (is_built_function f) (are_built_functions fs) (both (is_none f.blocks) (are_built_steps f.body) here.0 body) rest.0,
      All-cons IsBuiltFunction f fs (record { body = body; blocks = subst AreSmall (sym (none_is f.blocks here.0)) tt }) rest.1,
    )

pub program_is_built : (p : Program) → program_of_numbers p ≡ true → (is_built p ≡ true) × IsBuilt p
program_is_built p h =
    let parts = and_parts (is_none p.globals) (functions_of_numbers p.functions) h in
    let functions = functions_are_built p.functions parts.1 in
    (both (is_none p.globals) (are_built_functions p.functions) parts.0 functions.0, record { globals = none_is p.globals parts.0; functions = functions.1 })

-- ---- It has no objects

nothing_declines : (g n : ℕ) → declining g n [] ≡ []
nothing_declines g zero = refl
nothing_declines g (suc n) = nothing_declines g n

nothing_laid_out : (g n : ℕ) → placed_from g 0 (declining g n []) ≡ []
nothing_laid_out g n = ap (placed_from g 0) (nothing_declines g n)

empty_layout : (g : ℕ) → layout g [] ≡ []
unfolding layout
empty_layout g = nothing_laid_out g (25 - g)

frames_are_empty : (g : ℕ) (fs : List Function) → functions_of_numbers fs ≡ true → map (frame_of g) fs ≡ replicate (length fs) []
frames_are_empty g [] h = refl
frames_are_empty g (f ∷ fs) h =
    let parts = and_parts (function_of_numbers f) (functions_of_numbers fs) h in
    let none = none_is f.blocks (and_parts (is_none f.blocks) (all_of_numbers f.body) parts.0).0 in
    ap (λ z. exponents (layout g z) ∷ map (frame_of g) fs) none ∙ ap (λ z. exponents z ∷ map (frame_of g) fs) (empty_layout g) ∙ ap (λ z. [] ∷ z) (frames_are_empty g fs parts.1)

pub has_no_objects : (g : ℕ) (p : Program) → program_of_numbers p ≡ true → IsFrameless g p
has_no_objects g p h =
    let parts = and_parts (is_none p.globals) (functions_of_numbers p.functions) h in
    record {
      frames = frames_are_empty g p.functions parts.1;
      globals = ap (λ z. live_blocks (start_world g p.named z []).objects) (none_is p.globals parts.0) ∙ ap (λ z. live_blocks (laid_out p.named [] z []).objects) (empty_layout g);
      initial = refl;
    }
