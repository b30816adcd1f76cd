-- Runs of code without accesses are in reach.
use Rattle.std.proofs.Common.{◌≡◌, ◌==◌, ℕ, zero, suc, ◌+◌, Bool, true, false, List, Option, Some, None, refl}
use Rattle.std.specs.Prelude.{nat_lt, nat_le, slice_get}
use Rattle.bb_words.specs.Answers.{Answer, either}
use Rattle.size_table.specs.declared.memory_map.TheConstants.{STACK_START, MOST_CALLS}
use Rattle.flat_code.specs.Code.{FStep, FSteps, FFunction}
use Rattle.flat_code.specs.Accounts.{stack_under, enter}
use Rattle.flat_code.specs.World.{arguments, FPoint, point, spend, Run, Way}
use Rattle.flat_code.specs.Run.{Calls, act, act_all, inner_turns, no_calls, calls, start}
use Rattle.flat_code.specs.Time.{charge, turn_charge, call_charge}
use Rattle.flat_discipline.specs.Items.{step_places, steps_places}
use Rattle.flat_discipline.specs.Comes.{IfOn, InTurns, InStep, InSteps, nothing, InLibrary, InDefined, InOne, InNone, InCalls}
use Rattle.flat_discipline.specs.Discipline.{frame_in}
use Rattle.select_scope.specs.InReach.{IsInReach, reached, in_reach, IsCalm, AreCalm, CalmIsInReach}

on_any : (o : Run Way) (P : FPoint → Type 0) → ((u : FPoint) → P u) → IfOn o P
on_any (Answer.Goes Way.On u) P all = all u
on_any (Answer.Goes (Way.Out n) u) P all = tt
on_any (Answer.Goes (Way.Back word) u) P all = tt
on_any (Answer.Ends ending u) P all = tt

turns_any : (n : ℕ) (body : FPoint → Run Way) (P : FPoint → Type 0) → ((u : FPoint) → P u) → (u : FPoint) → InTurns n body P u
turns_any zero body P all u = tt
turns_any (suc n) body P all u =
    let v = point u.words (spend turn_charge u.world) in
    (all v, on_any (body v) (InTurns n body P) (λ w. turns_any n body P all w))

either_any : (test : Bool) (P Q : FPoint → Type 0) (u : FPoint) → P u → Q u → either test P Q u
either_any true P Q u p q = p
either_any false P Q u p q = q

reach_of : (frame : ℕ) (s : FStep) (u : FPoint) → IsCalm s → IsInReach frame s u
reach_of frame (FStep.FrameAt to offset) u calm = absurd calm
reach_of frame (FStep.Look to slot) u calm = absurd calm
reach_of frame (FStep.Load to at width) u calm = absurd calm
reach_of frame (FStep.Store at from width) u calm = absurd calm
reach_of frame s u calm = tt

module _ (g : ℕ) (call : Calls) (m frame bound : ℕ) (inside : (function : ℕ) → (args : List ℕ) → FPoint → Type 0)
    (all : (function : ℕ) (args : List ℕ) (u : FPoint) → inside function args u) where
  mutual
    step_in : (s : FStep) (p : ℕ) (u : FPoint) → IsCalm s → InStep g call m frame inside (reached bound) s p u
    step_in (FStep.If cond first second) p u calm =
        either_any (u.words cond == 0) (InSteps g call m frame inside (reached bound) second (p + 1 + steps_places first)) (InSteps g call m frame inside (reached bound) first (p + 1)) u
        (steps_in second (p + 1 + steps_places first) u calm.1) (steps_in first (p + 1) u calm.0)
    step_in (FStep.Block body) p u calm = steps_in body (p + 1) u calm
    step_in (FStep.Loop body) p u calm = turns_any m (act_all g call m frame body) (InSteps g call m frame inside (reached bound) body (p + 1)) (λ v. steps_in body (p + 1) v calm) u
    step_in (FStep.Inner body) p u calm = turns_any (inner_turns m) (act_all g call m frame body) (InSteps g call m frame inside (reached bound) body (p + 1)) (λ v. steps_in body (p + 1) v calm) u
    step_in (FStep.Call to function args) p u calm = all function _ u
    step_in s p u calm = tt

    steps_in : (xs : FSteps) (p : ℕ) (u : FPoint) → AreCalm xs → InSteps g call m frame inside (reached bound) xs p u
    steps_in FSteps.none p u calm = tt
    steps_in (FSteps.more s rest) p u calm =
        let v = point u.words (spend (charge s) u.world) in (
          reach_of bound s u calm.0,
          step_in s p v calm.0,
          on_any (act g call m frame s v) (InSteps g call m frame inside (reached bound) rest (p + step_places s)) (λ w. steps_in rest (p + step_places s) w calm.1),
        )

module _ (frames : List (List ℕ)) (m : ℕ) (functions : List FFunction) (calm : (number : ℕ) (f : FFunction) → slice_get functions number ≡ Some f → AreCalm f.body) where
  library_in : (number : ℕ) (f : FFunction) (args : List ℕ) (u : FPoint) → AreCalm f.body → InLibrary 4 frames m (in_reach functions) number f args u
  library_in number f args u c =
      steps_in 4 no_calls m 0 (frame_in (slice_get functions number)) (λ function args u. Unit {0}) (λ function args u. tt) f.body 0 (point (arguments args) (spend (call_charge f) u.world)) c

  defined_in : (deeper : Calls) (inside : (function : ℕ) → (args : List ℕ) → FPoint → Type 0) → ((function : ℕ) (args : List ℕ) (u : FPoint) → inside function args u)
      → (number : ℕ) (f : FFunction) (args : List ℕ) (o : Option (List ℕ)) (u : FPoint) → AreCalm f.body → InDefined 4 frames m (in_reach functions) deeper inside number f args o u
  defined_in deeper inside all number f args None u c = tt
  defined_in deeper inside all number f args (Some es) u c =
      let v = point u.words (spend (call_charge f) u.world) in
      either_any (nat_lt (stack_under 4 v.world.stack es) STACK_START) nothing
      (λ t. InSteps 4 deeper m f.frame inside (reached (frame_in (slice_get functions number))) f.body 0 (point (arguments args) (enter (stack_under 4 t.world.stack es) es t.world))) v tt
      (steps_in 4 deeper m f.frame (frame_in (slice_get functions number)) inside all f.body 0 (point (arguments args) (enter (stack_under 4 v.world.stack es) es v.world)) c)

  none_in : (o : Option FFunction) (number : ℕ) (args : List ℕ) (u : FPoint) → ((f : FFunction) → o ≡ Some f → AreCalm f.body) → InNone 4 frames m (in_reach functions) o number args u
  none_in None number args u c = tt
  none_in (Some f) number args u c = either_any (f.line == 0) (InLibrary 4 frames m (in_reach functions) number f args) nothing u (library_in number f args u (c f refl)) tt

  one_in : (deeper : Calls) (inside : (function : ℕ) → (args : List ℕ) → FPoint → Type 0) → ((function : ℕ) (args : List ℕ) (u : FPoint) → inside function args u)
      → (o : Option FFunction) (number : ℕ) (args : List ℕ) (u : FPoint) → ((f : FFunction) → o ≡ Some f → AreCalm f.body) → InOne 4 frames m (in_reach functions) deeper inside o number args u
  one_in deeper inside all None number args u c = tt
  one_in deeper inside all (Some f) number args u c =
      let go = InDefined 4 frames m (in_reach functions) deeper inside number f args (slice_get frames number) in
      either_any (f.line == 0) (InLibrary 4 frames m (in_reach functions) number f args) (either (nat_le MOST_CALLS u.world.depth) nothing go) u (library_in number f args u (c f refl))
      (either_any (nat_le MOST_CALLS u.world.depth) nothing go u tt (defined_in deeper inside all number f args (slice_get frames number) u (c f refl)))

  calls_in : (n number : ℕ) (args : List ℕ) (u : FPoint) → InCalls 4 frames m (in_reach functions) functions n number args u
  calls_in zero number args u = none_in (slice_get functions number) number args u (λ f is. calm number f is)
  calls_in (suc n) number args u =
      one_in (calls 4 frames m functions n) (InCalls 4 frames m (in_reach functions) functions n) (λ function args v. calls_in n function args v) (slice_get functions number) number args u
      (λ f is. calm number f is)

pub calm_is_in_reach : CalmIsInReach
calm_is_in_reach code calm globals frames input m = calls_in frames m code.functions calm m code.main _ (start code.initial globals input)
