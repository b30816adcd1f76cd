-- Small programs in flat code, and what they do, for slots of 16 bytes.
use Rattle.std.specs.Prelude.{◌≡◌, ℕ, ◌+◌, ◌*◌, true, false, List, [], ◌∷◌}
use Rattle.bb_words.specs.Answers.{Answer}
use Rattle.bb_words.specs.declared.kinds.ReportKind.TheVariants as report
use Rattle.bb_words.specs.declared.kinds.TrapKind.TheVariants as trap
use Rattle.bb_words.specs.declared.steps.ArithOp.TheVariants as op
use Rattle.bb_words.specs.declared.steps.Width.TheVariants as width
use Rattle.size_table.specs.Blocks.{block_at}
use Rattle.flat_code.specs.Code.{FSteps, FFunction, FCode, none, steps, ◌+++◌}
use Rattle.flat_code.specs.Code.FStep.{Number, Arith, If, Loop, Exit, Call, Return, FrameAt, Load, Store, LineMark, Env}
use Rattle.flat_code.specs.Told.{Tell, tells}
use Rattle.flat_code.specs.Told.Tell.{Output, Line, Move, Access, Made, Ended}
use Rattle.flat_code.specs.World.{FPoint, Ending, Run}
use Rattle.flat_code.specs.Run.{act_all, no_calls, start, flat_run}
use Rattle.flat_code.specs.Sequences.{move_sequence, load_sequence, span_sequence}
use Rattle.flat_code.specs.Weight.{steps_size}

-- what can be seen of a run: how it ended, and what it told
pub record Shown : Type 0 where
  pub ending : Ending
  pub told : List Tell

abbrev pub seen : Ending → List Tell → Shown
seen ending told = record { ending = ending; told = told }

abbrev pub shown : {A : Type 0} → Run A → Shown
shown (Answer.Goes a u) = seen Ending.Cut (tells u.world.told)
shown (Answer.Ends ending u) = seen ending (tells u.world.told)

-- a function in line 1 without parameters and without a frame
abbrev pub plain : FSteps → FFunction
plain body = record { values = 10; params = 0; frame = 0; line = 1; body = body }

abbrev pub code_with : List FFunction → FCode
code_with functions = record { functions = functions; main = 0; initial = [] }

-- what one function does on an input, with one global block of 16 bytes
abbrev pub runs : FSteps → (input : List ℕ) → (m : ℕ) → Shown
runs body input m = shown (flat_run 4 (code_with (plain body ∷ [])) (block_at 0xA00000 4 ∷ []) ([] ∷ []) input m)

-- the sum of the numbers from 1 to 10, in value 1; the loop has eleven turns
abbrev pub summing : FSteps
summing =
    steps (Number 2 1 ∷ Number 3 10
    ∷ Loop (steps (Arith 4 op.Ltu 0 3 ∷ If 4 (steps (Arith 0 op.Add 0 2 ∷ Arith 1 op.Add 1 0 ∷ [])) (steps (Exit 1 ∷ [])) ∷ []))
    ∷ Return 1 ∷ [])

-- the global block's address is moved by a distance to value 3, and a number is stored there; the line is 7
abbrev pub moving : (distance : ℕ) → FSteps
moving distance =
    steps (Number 0 0xA00000 ∷ Number 1 distance ∷ Number 2 7 ∷ []) +++ (move_sequence 4 0 1 3 2 4 5 +++ steps (Store 3 2 width.Byte ∷ Return 2 ∷ []))

-- the same with slots of 32 bytes, without the store
abbrev pub wide : (distance : ℕ) → FSteps
wide distance = steps (Number 0 0xA00000 ∷ Number 1 distance ∷ Number 2 7 ∷ []) +++ move_sequence 5 0 1 3 2 4 5

abbrev pub wide_start : FPoint
wide_start = start [] (block_at 0xA00000 5 ∷ []) []

-- two numbers are subtracted by a second function
abbrev pub calling : List FFunction
calling =
    plain (steps (Number 0 7 ∷ Number 1 5 ∷ Call 2 1 (0 ∷ 1 ∷ []) ∷ Return 2 ∷ []))
    ∷ record { values = 2; params = 2; frame = 0; line = 5; body = steps (Arith 0 op.Sub 0 1 ∷ Return 0 ∷ []) }
    ∷ []

-- 20 bytes are allocated and freed; and freed again
abbrev pub freeing : FSteps
freeing = steps (Number 2 9 ∷ Env 3 5 1 2 ∷ Env 3 5 1 2 ∷ [])

abbrev pub allocating : FSteps
allocating = steps (Number 0 20 ∷ Env 1 4 0 0 ∷ []) +++ freeing

-- what steps do from the start, with one global block of 16 bytes
abbrev pub does : FSteps → Shown
does xs = shown (act_all 4 no_calls 1 0 xs (start [] (block_at 0xA00000 4 ∷ []) []))

-- bytes of the input are written until it ends
abbrev pub echoing : FSteps
echoing =
    steps (Number 0 0xffff_ffff
    ∷ Loop (steps (Env 1 2 0 0 ∷ Arith 2 op.Equal 1 0 ∷ If 2 (steps (Exit 1 ∷ [])) none ∷ Env 1 3 1 0 ∷ []))
    ∷ [])

-- a frame with two blocks, of 32 and of 16 bytes; a word is stored in the second and read again
abbrev pub framing : FFunction
framing = record {
  values = 3;
  params = 0;
  frame = 48;
  line = 2;
  body = steps (LineMark 3 ∷ FrameAt 0 32 ∷ Number 1 258 ∷ Store 0 1 width.Word ∷ Load 2 0 width.Half ∷ Return 2 ∷ []);
}

-- a word is stored in the global block and loaded as a pointer
abbrev pub loading : (word : ℕ) → FSteps
loading word =
    steps (Number 0 0xA00000 ∷ Number 1 word ∷ Number 2 8 ∷ Store 0 1 width.Word ∷ []) +++ (load_sequence 4 3 0 2 4 5 +++ steps (Return 3 ∷ []))

pub record ExamplesRun : Type 0 where
  pub loop : runs summing [] 11 ≡ seen (Ending.Exited 55) []
  pub loop_is_cut : runs summing [] 10 ≡ seen Ending.Cut []
  pub call : shown (flat_run 4 (code_with calling) [] ([] ∷ [] ∷ []) [] 2) ≡ seen (Ending.Exited 2) []
  pub call_is_cut : shown (flat_run 4 (code_with calling) [] ([] ∷ [] ∷ []) [] 1) ≡ seen Ending.Cut []
  -- a move inside its block, one less than half a slot outside, whose word is marked and traps, and one further off
  pub move_inside : runs (moving 4) [] 1 ≡ seen (Ending.Exited 7) (Move 0xA00000 0xA00004 ∷ Access 0xA00004 1 true ∷ [])
  pub move_marked : runs (moving 20) [] 1 ≡ seen (Ending.Trapped trap.Marked) (Move 0xA00000 0x80A00014 ∷ [])
  pub move_out : runs (moving 24) [] 1 ≡ seen (Ending.Reported report.Bounds 7) []
  -- the same for slots of 32 bytes, in a block of 32 bytes
  pub wide_marked : shown (act_all 5 no_calls 1 0 (wide 40) wide_start) ≡ seen Ending.Cut (Move 0xA00000 0x80A00028 ∷ [])
  pub wide_out : shown (act_all 5 no_calls 1 0 (wide 48) wide_start) ≡ seen (Ending.Reported report.Bounds 7) []
  pub heap : does allocating ≡ seen (Ending.Reported report.BadFree 9) (Made 0x1000000 5 ∷ Ended 0x1000000 5 ∷ [])
  pub input : runs echoing (72 ∷ 105 ∷ []) 3 ≡ seen (Ending.Exited 0) (Output 72 ∷ Output 105 ∷ [])
  pub frame : shown (flat_run 4 (code_with (framing ∷ [])) [] ((5 ∷ 4 ∷ []) ∷ []) [] 1) ≡ seen (Ending.Exited 258)
      (Made 0xFFFFC0 5 ∷ Made 0xFFFFE0 4 ∷ Line 3 ∷ Access 0xFFFFE0 4 true ∷ Access 0xFFFFE0 2 false ∷ Ended 0xFFFFE0 4 ∷ Ended 0xFFFFC0 5 ∷ [])
  pub pointer : runs (loading 0xA00008) [] 1 ≡ seen (Ending.Exited 0xA00008) (Access 0xA00000 4 true ∷ Access 0xA00000 4 false ∷ [])
  pub forged : runs (loading 0xA00010) [] 1 ≡ seen (Ending.Reported report.Pointer 8) (Access 0xA00000 4 true ∷ Access 0xA00000 4 false ∷ [])

-- a sequence among other steps weighs as one whole, where its values are apart
pub record ExamplesWeigh : Type 0 where
  pub apart : steps_size 4 0 (moving 4) ≡ 3 * 3 + 60 + 3 + 3
  pub other_slot : steps_size 5 0 (move_sequence 5 0 1 3 2 4 5 +++ load_sequence 5 0 3 2 4 5) ≡ 60 + 40
  pub span : steps_size 4 0 (span_sequence 4 0 1 2 3 4 5 6) ≡ 80
  pub not_apart : steps_size 4 0 (move_sequence 4 0 1 3 2 4 4) ≡ 149
