-- What is claimed of each step of a run follows from a stronger claim.
use Rattle.std.proofs.Common.{◌==◌, ℕ, zero, suc, ◌+◌, Bool, true, false, List, Option, Some, None}
use Rattle.std.specs.Prelude.{nat_lt, nat_le, slice_get}
use Rattle.bb_words.specs.Answers.{Answer, either}
use Rattle.size_table.specs.Blocks.{Block}
use Rattle.size_table.specs.declared.memory_map.TheConstants.{STACK_START, MOST_CALLS}
use Rattle.flat_code.specs.Code.{FStep, FSteps, FFunction}
use Rattle.flat_code.specs.Accounts.{stack_under, enter}
use Rattle.flat_code.specs.World.{arguments, FPoint, point, spend, Run, Way}
use Rattle.flat_code.specs.Run.{Calls, act, act_all, inner_turns, no_calls, calls, start}
use Rattle.flat_code.specs.Time.{charge, turn_charge, call_charge}
use Rattle.flat_discipline.specs.Items.{step_places, steps_places}
use Rattle.flat_discipline.specs.Comes.{Claim, IfOn, InTurns, InStep, InSteps, nothing, InLibrary, InDefined, InOne, InNone, InCalls}
use Rattle.select_scope.specs.InReach.{in_reach, is_safe_and_high, SafeIsInReach}

on_map : (o : Run Way) (P Q : FPoint → Type 0) → ((u : FPoint) → P u → Q u) → IfOn o P → IfOn o Q
on_map (Answer.Goes Way.On u) P Q f h = f u h
on_map (Answer.Goes (Way.Out n) u) P Q f h = tt
on_map (Answer.Goes (Way.Back word) u) P Q f h = tt
on_map (Answer.Ends ending u) P Q f h = tt

turns_map : (n : ℕ) (body : FPoint → Run Way) (P Q : FPoint → Type 0) → ((u : FPoint) → P u → Q u) → (u : FPoint) → InTurns n body P u → InTurns n body Q u
turns_map zero body P Q f u h = tt
turns_map (suc n) body P Q f u h =
    let v = point u.words (spend turn_charge u.world) in
    (f v h.0, on_map (body v) (InTurns n body P) (InTurns n body Q) (λ w k. turns_map n body P Q f w k) h.1)

either_map : (test : Bool) (P Q R S : FPoint → Type 0) (u : FPoint) → (P u → R u) → (Q u → S u) → either test P Q u → either test R S u
either_map true P Q R S u f g h = f h
either_map false P Q R S u f g h = g h

module _ (g : ℕ) (call : Calls) (m frame : ℕ) (A B : Claim) (inside other : (function : ℕ) → (args : List ℕ) → FPoint → Type 0)
    (weaker : (p : ℕ) (s : FStep) (u : FPoint) → A p s u → B p s u) (calls_map : (function : ℕ) (args : List ℕ) (u : FPoint) → inside function args u → other function args u) where
  mutual
    step_map : (s : FStep) (p : ℕ) (u : FPoint) → InStep g call m frame inside A s p u → InStep g call m frame other B s p u
    step_map (FStep.If cond first second) p u h =
        either_map (u.words cond == 0) (InSteps g call m frame inside A second (p + 1 + steps_places first)) (InSteps g call m frame inside A first (p + 1))
        (InSteps g call m frame other B second (p + 1 + steps_places first)) (InSteps g call m frame other B first (p + 1)) u (steps_map second (p + 1 + steps_places first) u) (steps_map first (p + 1) u) h
    step_map (FStep.Block body) p u h = steps_map body (p + 1) u h
    step_map (FStep.Loop body) p u h =
        turns_map m (act_all g call m frame body) (InSteps g call m frame inside A body (p + 1)) (InSteps g call m frame other B body (p + 1)) (λ v k. steps_map body (p + 1) v k) u h
    step_map (FStep.Inner body) p u h =
        turns_map (inner_turns m) (act_all g call m frame body) (InSteps g call m frame inside A body (p + 1)) (InSteps g call m frame other B body (p + 1)) (λ v k. steps_map body (p + 1) v k) u h
    step_map (FStep.Call to function args) p u h = calls_map function _ u h
    step_map s p u h = tt

    steps_map : (xs : FSteps) (p : ℕ) (u : FPoint) → InSteps g call m frame inside A xs p u → InSteps g call m frame other B xs p u
    steps_map FSteps.none p u h = tt
    steps_map (FSteps.more s rest) p u h =
        let v = point u.words (spend (charge s) u.world) in (
          weaker p s u h.0,
          step_map s p v h.1,
          on_map (act g call m frame s v) (InSteps g call m frame inside A rest (p + step_places s)) (InSteps g call m frame other B rest (p + step_places s)) (λ w k. steps_map rest (p + step_places s) w k) h.2,
        )

module _ (frames : List (List ℕ)) (m : ℕ) (A B : (function : ℕ) → Claim) (weaker : (function p : ℕ) (s : FStep) (u : FPoint) → A function p s u → B function p s u) where
  library_map : (number : ℕ) (f : FFunction) (args : List ℕ) (u : FPoint) → InLibrary 4 frames m A number f args u → InLibrary 4 frames m B number f args u
  library_map number f args u h =
      steps_map 4 no_calls m 0 (A number) (B number) (λ function args u. Unit {0}) (λ function args u. Unit {0}) (weaker number) (λ function args u k. tt) f.body 0
      (point (arguments args) (spend (call_charge f) u.world)) h

  none_map : (o : Option FFunction) (number : ℕ) (args : List ℕ) (u : FPoint) → InNone 4 frames m A o number args u → InNone 4 frames m B o number args u
  none_map None number args u h = tt
  none_map (Some f) number args u h =
      either_map (f.line == 0) (InLibrary 4 frames m A number f args) nothing (InLibrary 4 frames m B number f args) nothing u (library_map number f args u) (λ k. tt) h

  module _ (deeper : Calls) (inside other : (function : ℕ) → (args : List ℕ) → FPoint → Type 0) (calls_map : (function : ℕ) (args : List ℕ) (u : FPoint) → inside function args u → other function args u) where
    defined_map : (number : ℕ) (f : FFunction) (args : List ℕ) (o : Option (List ℕ)) (u : FPoint)
        → InDefined 4 frames m A deeper inside number f args o u → InDefined 4 frames m B deeper other number f args o u
    defined_map number f args None u h = tt
    defined_map number f args (Some es) u h =
        let v = point u.words (spend (call_charge f) u.world) in
        either_map (nat_lt (stack_under 4 v.world.stack es) STACK_START) nothing
        (λ t. InSteps 4 deeper m f.frame inside (A number) f.body 0 (point (arguments args) (enter (stack_under 4 t.world.stack es) es t.world))) nothing
        (λ t. InSteps 4 deeper m f.frame other (B number) f.body 0 (point (arguments args) (enter (stack_under 4 t.world.stack es) es t.world))) v (λ k. tt)
        (steps_map 4 deeper m f.frame (A number) (B number) inside other (weaker number) calls_map f.body 0 (point (arguments args) (enter (stack_under 4 v.world.stack es) es v.world))) h

    one_map : (o : Option FFunction) (number : ℕ) (args : List ℕ) (u : FPoint) → InOne 4 frames m A deeper inside o number args u → InOne 4 frames m B deeper other o number args u
    one_map None number args u h = tt
    one_map (Some f) number args u h =
        let a = InDefined 4 frames m A deeper inside number f args (slice_get frames number) in
        let b = InDefined 4 frames m B deeper other number f args (slice_get frames number) in
        either_map (f.line == 0) (InLibrary 4 frames m A number f args) (either (nat_le MOST_CALLS u.world.depth) nothing a)
        (InLibrary 4 frames m B number f args) (either (nat_le MOST_CALLS u.world.depth) nothing b) u (library_map number f args u)
        (either_map (nat_le MOST_CALLS u.world.depth) nothing a nothing b u (λ k. tt) (defined_map number f args (slice_get frames number) u)) h

  runs_map : (functions : List FFunction) (n number : ℕ) (args : List ℕ) (u : FPoint) → InCalls 4 frames m A functions n number args u → InCalls 4 frames m B functions n number args u
  runs_map functions zero number args u h = none_map (slice_get functions number) number args u h
  runs_map functions (suc n) number args u h =
      one_map (calls 4 frames m functions n) (InCalls 4 frames m A functions n) (InCalls 4 frames m B functions n) (λ function args v k. runs_map functions n function args v k) (slice_get functions number) number args u h

reach_of : (globals : List Block) (functions : List FFunction) (f p : ℕ) (s : FStep) (u : FPoint) → is_safe_and_high globals functions f p s u → in_reach functions f p s u
reach_of globals functions f p (FStep.FrameAt to offset) u h = h.0.0
reach_of globals functions f p (FStep.Look to slot) u h = h.0.0
reach_of globals functions f p (FStep.Load to at width) u h = record { mapped = h.0.0; high = h.1 }
reach_of globals functions f p (FStep.Store at from width) u h = record { mapped = h.0.0; high = h.1 }
reach_of globals functions f p s u h = tt

pub safe_is_in_reach : SafeIsInReach
safe_is_in_reach code globals frames input m h =
    runs_map frames m (is_safe_and_high globals code.functions) (in_reach code.functions) (reach_of globals code.functions) code.functions m code.main _ (start code.initial globals input) h
