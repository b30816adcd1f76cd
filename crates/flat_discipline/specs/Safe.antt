-- What the runs of disciplined code keep.
use Rattle.std.specs.Prelude.{◌≡◌, ◌≢◌, ◌⊎◌, ℕ, ◌-◌, ◌^◌, ◌<◌, ◌≤◌}
use Rattle.std.specs.Prelude.{List, [], ◌∷◌, length, Option, Some, None, IsSome, slice_get}
use Rattle.bb_words.specs.Steps.{size_of_width}
use Rattle.bb_watch.specs.Live.{owner}
use Rattle.size_table.specs.declared.memory_map.TheConstants.{GLOBALS_START, STACK_START}
use Rattle.size_table.specs.Blocks.{Block}
use Rattle.flat_code.specs.Code.{FStep, FFunction, FCode}
use Rattle.flat_code.specs.Told.{tells}
use Rattle.flat_code.specs.World.{FWorld, FPoint, Ending}
use Rattle.size_table.specs.Made.{blocks_from}
use Rattle.flat_code.specs.Accounts.{frame_size}
use Rattle.flat_code.specs.Safety.{live_of, ever_of, AllSafe}
use Rattle.flat_code.specs.Run.{refusal, flat_run}
use Rattle.flat_code_laws.specs.Laws.{point_of}
use Rattle.flat_discipline.specs.Items.{items_of, BeginsAll}
use Rattle.flat_discipline.specs.Facts.{Fact}
use Rattle.flat_discipline.specs.Discipline.{values_in, frame_in, LostAt, IsDisciplined}
use Rattle.flat_discipline.specs.Comes.{Claim, InRun}

-- ---- Layouts

-- The exponents of blocks that lie one after another decline; each block has whole slots and at most 16 MiB.
abbrev pub Decline : (g most : ℕ) → List ℕ → Type 0
Decline g most [] = Unit {0}
Decline g most (e ∷ es) = (g ≤ e) × (e ≤ most) × Decline g e es

-- the blocks of the global objects lie one after another, below the data stack
pub record AreGlobals (g : ℕ) (globals : List Block) : Type 0 where
  pub exponents : List ℕ
  pub are : globals ≡ blocks_from GLOBALS_START exponents
  pub decline : Decline g 24 exponents
  pub fit : frame_size exponents ≤ STACK_START - GLOBALS_START

-- the blocks of a frame have as many bytes as the function says
pub record IsFrame (g : ℕ) (f : FFunction) (frame : Option (List ℕ)) : Type 0 where
  pub exponents : List ℕ
  pub is : frame ≡ Some exponents
  pub decline : Decline g 24 exponents
  pub total : frame_size exponents ≡ f.frame

-- each function of the program has its frame; bodies of the library have none
abbrev pub AreFrames : (g : ℕ) → List FFunction → (frames : List (List ℕ)) → Type 0
AreFrames g functions frames = (k : ℕ) (f : FFunction) → slice_get functions k ≡ Some f → f.line ≢ 0 → IsFrame g f (slice_get frames k)

-- ---- Steps in range

-- A step does nothing that has no meaning: it looks into the table at a slot of memory, takes an address inside the frame,
-- calls a function that there is, and accesses no unmapped byte and none of the text.
abbrev pub IsInRange : (g frame : ℕ) → List FFunction → FStep → FPoint → Type 0
IsInRange g frame functions (FStep.Look to slot) u = u.words slot < 2 ^ (25 - g)
IsInRange g frame functions (FStep.FrameAt to offset) u = offset < frame
IsInRange g frame functions (FStep.Call to function args) u = function < length functions
IsInRange g frame functions (FStep.Load to at width) u = refusal (u.words at) (size_of_width width) ≢ Some Ending.Cut
IsInRange g frame functions (FStep.Store at from width) u = refusal (u.words at) (size_of_width width) ≢ Some Ending.Cut
IsInRange g frame functions s u = Unit {0}

-- ---- Untainted values

-- the word is null, or a block holds the slot that owns it, or has held it
abbrev pub IsOwned : (g : ℕ) → (globals : List Block) → FWorld → (word : ℕ) → Type 0
IsOwned g globals w word = (word ≡ 0) ⊎ IsSome (owner g word (ever_of globals (tells w.told)))

abbrev pub BeginsIn : (g : ℕ) → Option FFunction → (place : ℕ) → Type 0
BeginsIn g None place = ⊥
BeginsIn g (Some f) place = BeginsAll g (items_of g f.body) 0 place

-- Before a step, the untainted values of the function are owned. Of sequences this holds before the first step alone.
abbrev pub AreOwned : (g : ℕ) → (globals : List Block) → List FFunction → (function place : ℕ) → FPoint → Type 0
AreOwned g globals functions f place u =
    BeginsIn g (slice_get functions f) place → (v : ℕ) → v < values_in (slice_get functions f)
    → (LostAt g globals functions f place (Fact.Clean v) → ⊥) → IsOwned g globals u.world (u.words v)

-- what is claimed of each step of a function
abbrev pub is_safe_step : (g : ℕ) → (globals : List Block) → List FFunction → (function : ℕ) → Claim
is_safe_step g globals functions f place s u =
    IsInRange g (frame_in (slice_get functions f)) functions s u × AreOwned g globals functions f place u

-- ---- Safe runs

-- A run is safe: its moves and accesses are, each with the blocks that live when it comes and those that lived before; the
-- blocks that live are those that were made and have not ended; and each step that it comes to is in range, and finds
-- untainted values owned.
pub record IsSafeRun (g : ℕ) (code : FCode) (globals : List Block) (frames : List (List ℕ)) (input : List ℕ) (m : ℕ) (w : FWorld) : Type 0 where
  pub safe : AllSafe g globals globals (tells w.told)
  pub live : w.live ≡ live_of globals (tells w.told)
  pub steps : InRun g code globals frames input m (is_safe_step g globals code.functions)

-- It is safe in every run in which its blocks lie as they should.
abbrev pub IsSafeAlways : (g : ℕ) → (globals : List Block) → FCode → Type 0
IsSafeAlways g globals code =
    (frames : List (List ℕ)) (input : List ℕ) (m : ℕ) → AreGlobals g globals → AreFrames g code.functions frames
    → IsSafeRun g code globals frames input m (point_of (flat_run g code globals frames input m)).world

-- Disciplined code is safe in every run, whatever it reads and whatever its memory holds: freed and forged pointers too.
abbrev pub DisciplinedIsSafe : Type 0
DisciplinedIsSafe =
    (g : ℕ) (code : FCode) (globals : List Block) (frames : List (List ℕ)) (input : List ℕ) (m : ℕ) → 2 ≤ g → g ≤ 24
    → AreGlobals g globals → AreFrames g code.functions frames → IsDisciplined g globals code
    → IsSafeRun g code globals frames input m (point_of (flat_run g code globals frames input m)).world
