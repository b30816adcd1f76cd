-- What holds of each step that a run of flat code comes to.
use Rattle.std.specs.Prelude.{◌==◌, ℕ, zero, suc, ◌+◌, List, [], map, Option, Some, None, nat_lt, nat_le, slice_get}
use Rattle.bb_words.specs.Answers.{Answer, either}
use Rattle.size_table.specs.declared.memory_map.TheConstants.{STACK_START, MOST_CALLS}
use Rattle.size_table.specs.Blocks.{Block}
use Rattle.flat_code.specs.Code.{FStep, FSteps, FFunction, FCode}
use Rattle.flat_code.specs.World.{arguments, FPoint, point, spend, Run, Way}
use Rattle.flat_code.specs.Accounts.{stack_under, enter}
use Rattle.flat_code.specs.Time.{charge, turn_charge, call_charge}
use Rattle.flat_code.specs.Run.{inner_turns, Calls, act, act_all, no_calls, calls, start}
use Rattle.flat_discipline.specs.Items.{step_places, steps_places}

-- what is claimed of a step: by its place, the step, and the point before it
abbrev pub Claim : Type 1
Claim = (place : ℕ) → FStep → FPoint → Type 0

-- if steps were left at their end, it holds of the point there
abbrev pub IfOn : Run Way → (FPoint → Type 0) → Type 0
IfOn (Answer.Goes Way.On u) P = P u
IfOn (Answer.Goes (Way.Out n) u) P = Unit {0}
IfOn (Answer.Goes (Way.Back word) u) P = Unit {0}
IfOn (Answer.Ends ending u) P = Unit {0}

-- it holds at the begin of each of at most n turns
abbrev pub InTurns : (n : ℕ) → (body : FPoint → Run Way) → (FPoint → Type 0) → FPoint → Type 0
InTurns zero body P u = Unit {0}
InTurns (suc n) body P u =
    P (point u.words (spend turn_charge u.world)) × IfOn (body (point u.words (spend turn_charge u.world))) (InTurns n body P)

-- The claim holds of each step that a run of steps comes to, which stand from a place on; and `inside` in each call.
module _ (g : ℕ) (call : Calls) (m frame : ℕ) (inside : (function : ℕ) → (args : List ℕ) → FPoint → Type 0) (claim : Claim) where
  abbrev mutual
    pub InStep : FStep → (place : ℕ) → FPoint → Type 0
    InStep (FStep.If cond first second) p u = either (u.words cond == 0) (InSteps second (p + 1 + steps_places first)) (InSteps first (p + 1)) u
    InStep (FStep.Block body) p u = InSteps body (p + 1) u
    InStep (FStep.Loop body) p u = InTurns m (act_all g call m frame body) (InSteps body (p + 1)) u
    InStep (FStep.Inner body) p u = InTurns (inner_turns m) (act_all g call m frame body) (InSteps body (p + 1)) u
    InStep (FStep.Call to function args) p u = inside function (map u.words args) u
    InStep s p u = Unit {0}

    pub InSteps : FSteps → (place : ℕ) → FPoint → Type 0
    InSteps FSteps.none p u = Unit {0}
    InSteps (FSteps.more s rest) p u =
        claim p s u × InStep s p (point u.words (spend (charge s) u.world))
        × IfOn (act g call m frame s (point u.words (spend (charge s) u.world))) (InSteps rest (p + step_places s))

-- ---- Calls

abbrev pub nothing : FPoint → Type 0
nothing u = Unit {0}

-- in a call; the claims are those of each function
module _ (g : ℕ) (frames : List (List ℕ)) (m : ℕ) (claims : (function : ℕ) → Claim) where
  abbrev pub InLibrary : (number : ℕ) → FFunction → (args : List ℕ) → FPoint → Type 0
  InLibrary number f args u =
      InSteps g no_calls m 0 (λ function args u. Unit {0}) (claims number) f.body 0 (point (arguments args) (spend (call_charge f) u.world))

  module _ (deeper : Calls) (inside : (function : ℕ) → (args : List ℕ) → FPoint → Type 0) where
    abbrev pub InFrame : (number : ℕ) → FFunction → (args : List ℕ) → List ℕ → FPoint → Type 0
    InFrame number f args es u =
        either (nat_lt (stack_under g u.world.stack es) STACK_START) nothing
        (λ t. InSteps g deeper m f.frame inside (claims number) f.body 0 (point (arguments args) (enter (stack_under g t.world.stack es) es t.world))) u

    abbrev pub InDefined : (number : ℕ) → FFunction → (args : List ℕ) → Option (List ℕ) → FPoint → Type 0
    InDefined number f args None u = Unit {0}
    InDefined number f args (Some es) u = InFrame number f args es (point u.words (spend (call_charge f) u.world))

    abbrev pub InOne : Option FFunction → (number : ℕ) → (args : List ℕ) → FPoint → Type 0
    InOne None number args u = Unit {0}
    InOne (Some f) number args u =
        either (f.line == 0) (InLibrary number f args) (either (nat_le MOST_CALLS u.world.depth) nothing (InDefined number f args (slice_get frames number))) u

  abbrev pub InNone : Option FFunction → (number : ℕ) → (args : List ℕ) → FPoint → Type 0
  InNone None number args u = Unit {0}
  InNone (Some f) number args u = either (f.line == 0) (InLibrary number f args) nothing u

  module _ (functions : List FFunction) where
    abbrev pub InCalls : (n number : ℕ) → (args : List ℕ) → FPoint → Type 0
    InCalls zero number args u = InNone (slice_get functions number) number args u
    InCalls (suc n) number args u = InOne (calls g frames m functions n) (InCalls n) (slice_get functions number) number args u

-- the claims hold of each step that the run of a program comes to
abbrev pub InRun : (g : ℕ) → FCode → (globals : List Block) → (frames : List (List ℕ)) → (input : List ℕ) → (m : ℕ)
    → (claims : (function : ℕ) → Claim) → Type 0
InRun g code globals frames input m claims = InCalls g frames m claims code.functions m code.main [] (start code.initial globals input)
