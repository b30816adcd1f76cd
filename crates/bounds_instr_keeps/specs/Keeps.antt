-- When flat code does what mid code does.
use Rattle.std.specs.Prelude.{◌≡◌, ℕ, ◌<◌, ◌≤◌, List, All}
use Rattle.bb_words.specs.Answers.{Answer}
use Rattle.source_meaning.specs.declared.values.Ending.TheVariants.{Exited, Reported, Trapped, Outside, Cut}
use Rattle.mid_code.specs.Code.{Program}
use Rattle.mid_code.specs.Meaning.{MidEnding, Came, Strayed, Point}
use Rattle.mid_code.specs.Runs.{Outcome, outcome}
use Rattle.flat_code.specs.Code.{FCode}
use Rattle.flat_code.specs.Told as Told
use Rattle.flat_code.specs.Told.{Stamped, AllBy}
use Rattle.flat_code_laws.specs.Laws.{point_of}
use Rattle.flat_code.specs.World.{FPoint, Ending, Run}
use Rattle.flat_code.specs.Run.{flat_run}
use Rattle.injection.specs.Trail.{SafeSites, Says}
use Rattle.bounds_instr_code.specs.Code.{global_blocks, frames_of}

-- The flat run has ended so, having told what the run of mid code left behind, in no more time.
pub record Stops {B : Type 0} (safe : SafeSites) (ending : Ending) (v : Point) (q : Run B) : Type 0 where
  pub point : FPoint
  pub is : q ≡ Answer.Ends ending point
  pub says : Says safe v.world point.world.told
  pub time : point.world.time ≤ v.time

-- It was cut, having told what the run of mid code left behind, which came in no more time.
pub record IsCut {B : Type 0} (safe : SafeSites) (v : Point) (q : Run B) : Type 0 where
  pub point : FPoint
  pub is : q ≡ Answer.Ends Ending.Cut point
  pub says : Says safe v.world point.world.told
  pub by : AllBy v.time point.world.told

-- What it has told begins with what the run of mid code left behind, and that came in no more time.
pub record Begins {B : Type 0} (safe : SafeSites) (v : Point) (q : Run B) : Type 0 where
  pub front : List Stamped
  pub came : Told.Came (point_of q).world.told v.time front
  pub says : Says safe v.world front

-- A run of mid code has ended, and so has a flat run; where the one left its objects, the other may do anything from there
-- on. A run that watches moves says nothing more where one of them strayed.
abbrev pub EndsAlike : {B : Type 0} → SafeSites → MidEnding → Point → Run B → Type 0
EndsAlike safe (Came (Exited n)) v q = Stops safe (Ending.Exited n) v q
EndsAlike safe (Came (Reported kind line)) v q = Stops safe (Ending.Reported kind line) v q
EndsAlike safe (Came (Trapped kind)) v q = Stops safe (Ending.Trapped kind) v q
EndsAlike safe (Came Cut) v q = IsCut safe v q
EndsAlike safe (Came (Outside cause)) v q = Begins safe v q
EndsAlike safe Strayed v q = Unit {0}

abbrev pub OutcomeAlike : SafeSites → Outcome → Run (Unit {0}) → Type 0
OutcomeAlike safe o q = EndsAlike safe o.ending o.point q

-- Flat code, with slots of 2 ^ g bytes, the blocks of the program's global objects and the frames of its functions, does
-- what the program does: for every input of bytes and every bound on turns and nested calls.
abbrev pub Keeps : (g : ℕ) → SafeSites → Program → FCode → Type 0
Keeps g safe p flat = (input : List ℕ) (m : ℕ) → All (λ b. b < 256) input →
    OutcomeAlike safe (outcome g p input m) (flat_run g flat (global_blocks g p) (frames_of g p) input m)
