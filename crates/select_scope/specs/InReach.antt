-- Which steps a run of flat code may come to, so that a machine follows it.
use Rattle.std.specs.Prelude.{◌≡◌, ◌≢◌, ℕ, ◌^◌, ◌<◌, ◌≤◌, List, Some, None, slice_get}
use Rattle.bb_words.specs.Steps.{size_of_width}
use Rattle.size_table.specs.declared.memory_map.TheConstants.{GLOBALS_START}
use Rattle.size_table.specs.Blocks.{Block}
use Rattle.flat_code.specs.Code.{FStep, FSteps, FFunction, FCode}
use Rattle.flat_code.specs.World.{FPoint, Ending}
use Rattle.flat_code.specs.Run.{refusal}
use Rattle.flat_discipline.specs.Discipline.{frame_in}
use Rattle.flat_discipline.specs.Safe.{is_safe_step}
use Rattle.flat_discipline.specs.Comes.{Claim, InRun}

-- An access is neither past the memory's end nor in the text; and where it is made, it is to the globals or above: below
-- them flat code has neither size table nor control stack.
pub record IsReached (at size : ℕ) : Type 0 where
  pub mapped : refusal at size ≢ Some Ending.Cut
  pub high : refusal at size ≡ None → GLOBALS_START ≤ at

-- An address in the frame is below its end, a look is at one of the slots of memory, and an access is reached.
abbrev pub IsInReach : (frame : ℕ) → FStep → FPoint → Type 0
IsInReach frame (FStep.FrameAt to offset) u = offset < frame
IsInReach frame (FStep.Look to slot) u = u.words slot < 2 ^ 21
IsInReach frame (FStep.Load to at width) u = IsReached (u.words at) (size_of_width width)
IsInReach frame (FStep.Store at from width) u = IsReached (u.words at) (size_of_width width)
IsInReach frame s u = Unit {0}

-- it is claimed of each step of a function with such a frame
abbrev pub reached : (frame : ℕ) → Claim
reached frame place s u = IsInReach frame s u

abbrev pub in_reach : List FFunction → (function : ℕ) → Claim
in_reach functions function = reached (frame_in (slice_get functions function))

-- each step that a run comes to is in reach
abbrev pub RunsInReach : FCode → (globals : List Block) → (frames : List (List ℕ)) → (input : List ℕ) → (m : ℕ) → Type 0
RunsInReach code globals frames input m = InRun 4 code globals frames input m (in_reach code.functions)

-- an access that is made is to the globals or above
abbrev pub IsHighStep : FStep → FPoint → Type 0
IsHighStep (FStep.Load to at width) u = refusal (u.words at) (size_of_width width) ≡ None → GLOBALS_START ≤ u.words at
IsHighStep (FStep.Store at from width) u = refusal (u.words at) (size_of_width width) ≡ None → GLOBALS_START ≤ u.words at
IsHighStep s u = Unit {0}

abbrev pub is_safe_and_high : (globals : List Block) → List FFunction → (function : ℕ) → Claim
is_safe_and_high globals functions f place s u = is_safe_step 4 globals functions f place s u × IsHighStep s u

-- A run is in reach if each step that it comes to is safe, and its accesses that are made are to the globals or above.
abbrev pub SafeIsInReach : Type 0
SafeIsInReach =
    (code : FCode) (globals : List Block) (frames : List (List ℕ)) (input : List ℕ) (m : ℕ)
    → InRun 4 code globals frames input m (is_safe_and_high globals code.functions) → RunsInReach code globals frames input m

-- ---- Code whose runs are all in reach

-- No step looks into the size table, takes an address in the frame, or accesses memory.
abbrev mutual
  pub IsCalm : FStep → Type 0
  IsCalm (FStep.If cond first second) = AreCalm first × AreCalm second
  IsCalm (FStep.Block body) = AreCalm body
  IsCalm (FStep.Loop body) = AreCalm body
  IsCalm (FStep.Inner body) = AreCalm body
  IsCalm (FStep.Look to slot) = ⊥
  IsCalm (FStep.FrameAt to offset) = ⊥
  IsCalm (FStep.Load to at width) = ⊥
  IsCalm (FStep.Store at from width) = ⊥
  IsCalm s = Unit {0}

  pub AreCalm : FSteps → Type 0
  AreCalm FSteps.none = Unit {0}
  AreCalm (FSteps.more s rest) = IsCalm s × AreCalm rest

-- Of such functions each run is in reach.
abbrev pub CalmIsInReach : Type 0
CalmIsInReach =
    (code : FCode) → ((number : ℕ) (f : FFunction) → slice_get code.functions number ≡ Some f → AreCalm f.body)
    → (globals : List Block) (frames : List (List ℕ)) (input : List ℕ) (m : ℕ) → RunsInReach code globals frames input m
