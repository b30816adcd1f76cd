-- A machine follows all calls of a program whose functions stand in its text.
use Rattle.std.proofs.Common.{◌≡◌, ◌≢◌, ◌==◌, ℕ, zero, suc, ◌≤◌, Bool, true, false, List, length, Some, refl, sym, subst, arith}
use Rattle.std.specs.Prelude.{nat_le, slice_get}
use Rattle.std.proofs.lemmas.Bool.{ne_eqb}
use Rattle.bb_words.specs.Answers.{Answer, either}
use Rattle.bb_words.specs.declared.kinds.ReportKind.TheVariants as report
use Rattle.size_table.specs.declared.memory_map.TheConstants.{MOST_CALLS}
use Rattle.flat_code.specs.Code.{FSteps, FFunction}
use Rattle.flat_code.specs.World.{FPoint, choose, Ending}
use Rattle.flat_code.specs.Run.{Calls, no_calls, counted, library, defined, call_one, call_none, calls}
use Rattle.flat_discipline.specs.Comes.{nothing, InLibrary, InDefined, InOne, InCalls}
use Rattle.flat_discipline.specs.Items.{all_steps, items_of}
use Rattle.select_scope.specs.Fits.{FitsFunction, params_of}
use Rattle.select_scope.specs.InReach.{in_reach}
use Rattle.select_scope.specs.Loaded.{Loaded, IsLoaded, after, Frame}
use Rattle.select_scope.proofs.Agree.{Laws}
use Rattle.select_scope.proofs.Reach.{GoesOn, control_of}
use Rattle.select_calls.proofs.Calling.{IsCalled, CallComes, IsCallee, HasTime, CallsRun}
use Rattle.select_calls.proofs.Functions.{FunctionAt}
use Rattle.select_calls.proofs.Followed.{function_runs}

-- a call where flat code is cut: the machine goes on
cut_here : (s : Loaded) (f : Frame) (number : ℕ) (args : List ℕ) (u : FPoint) (k : ℕ) → IsCalled s f number args u.world k → GoesOn s u 0 k
cut_here s f number args u k called =
    record { count = k; later = omega arith; running = called.at.running; said = called.agrees.said; control = control_of s f u.world (after s k) called.agrees; kept = called.kept }

-- nothing is claimed of calls that are not made
abbrev unmade : (function : ℕ) → (args : List ℕ) → FPoint → Type 0
unmade function args u = Unit {0}

none_run : (s : Loaded) (functions : List FFunction) → CallsRun s functions 0 no_calls unmade
none_run s functions = record { run = λ f number fn places args u k t is given callee time reach called. cut_here s f number args u k called }

module _ (laws : Laws) (s : Loaded) (scene : IsLoaded s) (functions : List FFunction) (m : ℕ)
    (stand : (number : ℕ) (fn : FFunction) → slice_get functions number ≡ Some fn → FunctionAt s scene number fn)
    (fit : (number : ℕ) (fn : FFunction) → slice_get functions number ≡ Some fn → FitsFunction (λ n. params_of (slice_get functions n)) number fn)
    (items_are : (steps : FSteps) → all_steps 4 (items_of 4 steps) ≡ steps) where
  values_fit : (number : ℕ) (fn : FFunction) → slice_get functions number ≡ Some fn → fn.values ≤ 255
  values_fit number fn is = (fit number fn is).values

  has_line : (number : ℕ) (fn : FFunction) → slice_get functions number ≡ Some fn → fn.line ≢ 0
  has_line number fn is e = absurd (let x = (fit number fn is).line in let z : 1 ≤ 0 = omega (arith, e, x) in omega (arith, z))

  -- no further calls may be nested
  last_run : (f : Frame) (number : ℕ) (fn : FFunction) (places args : List ℕ) (u : FPoint) (k t : ℕ) → slice_get functions number ≡ Some fn → length args ≡ fn.params
      → IsCallee f fn places → HasTime u.world k t → IsCalled s f number args u.world k → CallComes s f places u.words 0 k t (call_none 4 s.frames m functions (Some fn) number args u)
  last_run f number fn places args u k t is given callee time called =
      let some = ne_eqb fn.line 0 (has_line number fn is) in
      subst (λ b. CallComes s f places u.words 0 k t (choose b (library 4 s.frames m fn args) (counted fn.line (λ v. Answer.Ends Ending.Cut v)) u)) (sym some)
      (by_depth (nat_le MOST_CALLS u.world.depth) refl)
    where
      -- too many calls are live, so no step of the function is come to
      reported : (some : (fn.line == 0) ≡ false) (deep : nat_le MOST_CALLS u.world.depth ≡ true) → CallComes s f places u.words 1 k t (Answer.Ends (Ending.Reported report.Depth fn.line) u)
      reported some deep =
          subst (λ b. CallComes s f places u.words 1 k t (choose b (λ v. Answer.Ends (Ending.Reported report.Depth fn.line) v) (defined 4 s.frames m no_calls number fn args) u)) deep
          (subst (λ b. CallComes s f places u.words 1 k t (choose b (library 4 s.frames m fn args) (counted fn.line (defined 4 s.frames m no_calls number fn args)) u)) some
          (function_runs laws s scene functions m 0 no_calls unmade (omega arith) (none_run s functions) values_fit items_are f number fn places args u k t is (stand number fn is) (fit number fn is) given callee time
          (subst (λ b. either b nothing (InDefined 4 s.frames m (in_reach functions) no_calls unmade number fn args (slice_get s.frames number)) u) (sym deep) tt) called))

      by_depth : (deep : Bool) → nat_le MOST_CALLS u.world.depth ≡ deep
          → CallComes s f places u.words 0 k t (choose deep (λ v. Answer.Ends (Ending.Reported report.Depth fn.line) v) (λ v. Answer.Ends Ending.Cut v) u)
      by_depth true deep = reported (ne_eqb fn.line 0 (has_line number fn is)) deep
      by_depth false deep = cut_here s f number args u k called

  -- what is claimed of a call of a function of the program
  in_function : (deeper : Calls) (inside : (function : ℕ) → (args : List ℕ) → FPoint → Type 0) (number : ℕ) (fn : FFunction) (args : List ℕ) (u : FPoint) → slice_get functions number ≡ Some fn
      → InOne 4 s.frames m (in_reach functions) deeper inside (slice_get functions number) number args u
      → either (nat_le MOST_CALLS u.world.depth) nothing (InDefined 4 s.frames m (in_reach functions) deeper inside number fn args (slice_get s.frames number)) u
  in_function deeper inside number fn args u is reach =
      subst (λ b. either b (InLibrary 4 s.frames m (in_reach functions) number fn args) (either (nat_le MOST_CALLS u.world.depth) nothing (InDefined 4 s.frames m (in_reach functions) deeper inside number fn args (slice_get s.frames number))) u)
      (ne_eqb fn.line 0 (has_line number fn is)) (subst (λ o. InOne 4 s.frames m (in_reach functions) deeper inside o number args u) is reach)

  -- calls with at most n nested are followed, and where flat code is cut, for at least n instructions
  pub calls_run : (n : ℕ) → n ≤ m → CallsRun s functions n (calls 4 s.frames m functions n) (InCalls 4 s.frames m (in_reach functions) functions n)
  calls_run zero le = record {
    run = λ f number fn places args u k t is given callee time reach called.
        subst (λ o. CallComes s f places u.words 0 k t (call_none 4 s.frames m functions o number args u)) (sym is) (last_run f number fn places args u k t is given callee time called);
  }
  calls_run (suc n) le =
      let less = calls_run n (omega (arith, le)) in
      record {
        run = λ f number fn places args u k t is given callee time reach called.
            subst (λ o. CallComes s f places u.words (suc n) k t (call_one 4 s.frames m functions (calls 4 s.frames m functions n) o number args u)) (sym is)
            (function_runs laws s scene functions m n (calls 4 s.frames m functions n) (InCalls 4 s.frames m (in_reach functions) functions n) (omega (arith, le)) less values_fit items_are f number fn places args u k t is (stand number fn is) (fit number fn is) given callee time
            (in_function (calls 4 s.frames m functions n) (InCalls 4 s.frames m (in_reach functions) functions n) number fn args u is reach) called);
      }
