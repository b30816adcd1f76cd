-- Small programs that break the discipline, each by one rule at a known place, for slots of 16 bytes and one global block.
use Rattle.std.specs.Prelude.{ℕ, List, [], ◌∷◌}
use Rattle.bb_words.specs.declared.steps.ArithOp.TheVariants as op
use Rattle.bb_words.specs.declared.steps.Width.TheVariants as width
use Rattle.size_table.specs.Blocks.{Block, block_at}
use Rattle.flat_code.specs.Code.{FStep, FSteps, FFunction, FCode, none, steps, ◌+++◌}
use Rattle.flat_code.specs.Code.FStep.{Number, Same, Arith, If, Exit, Call, Return, Slot, FrameAt, Load, LineMark, Env}
use Rattle.flat_code.specs.Sequences.{move_sequence}
use Rattle.flat_discipline.specs.Discipline.{BreaksAt}

abbrev pub globals : List Block
globals = block_at 0xA00000 4 ∷ []

-- a function of ten values, with a frame of 16 bytes
abbrev pub function : FSteps → FFunction
function body = record { values = 10; params = 0; frame = 16; line = 1; body = body }

abbrev pub with_params : (params : ℕ) → FSteps → FFunction
with_params params body = record { values = 10; params = params; frame = 16; line = 2; body = body }

-- a body of the library
abbrev pub library : (frame : ℕ) → FSteps → FFunction
library frame body = record { values = 10; params = 0; frame = frame; line = 0; body = body }

abbrev pub code : List FFunction → FCode
code functions = record { functions = functions; main = 0; initial = [] }

abbrev pub one : FSteps → FCode
one body = code (function body ∷ [])

-- ---- Functions as wholes

abbrev pub many_values : FCode
many_values = code (record { values = 256; params = 0; frame = 16; line = 1; body = none } ∷ [])

abbrev pub nine_params : FCode
nine_params = code (function none ∷ with_params 9 none ∷ [])

abbrev pub main_takes_one : FCode
main_takes_one = code (with_params 1 none ∷ [])

abbrev pub framed_library : FCode
framed_library = code (function none ∷ library 16 none ∷ [])

abbrev pub no_main : FCode
no_main = record { functions = function none ∷ []; main = 3; initial = [] }

-- ---- Numbers out of range

abbrev pub no_such_value : FCode
no_such_value = one (steps (Number 0 1 ∷ If 0 (steps (Number 1 1 ∷ Number 10 1 ∷ [])) none ∷ []))

abbrev pub far_exit : FCode
far_exit = one (steps (FStep.Block (steps (Exit 2 ∷ [])) ∷ []))

abbrev pub few_args : FCode
few_args = code (function (steps (Number 0 1 ∷ Call 1 1 (0 ∷ []) ∷ [])) ∷ with_params 2 none ∷ [])

abbrev pub calling_library : FCode
calling_library = code (function none ∷ library 0 (steps (Call 0 0 [] ∷ [])) ∷ [])

abbrev pub past_frame : FCode
past_frame = one (steps (FrameAt 0 15 ∷ FrameAt 0 16 ∷ []))

abbrev pub no_such_call : FCode
no_such_call = one (steps (Env 0 6 1 1 ∷ []))

abbrev pub far_line : FCode
far_line = one (steps (LineMark 0xF_FFFF ∷ LineMark 0x10_0000 ∷ []))

-- ---- Steps of sequences, and their temporaries

abbrev pub lone_slot : FCode
lone_slot = one (steps (Number 0 0xA00000 ∷ Slot 1 0 ∷ []))

-- the move of a pointer, and then a step that reads a temporary
abbrev pub temporary_read : FCode
temporary_read = one (steps (Number 0 0xA00000 ∷ Number 1 4 ∷ Number 2 7 ∷ []) +++ (move_sequence 4 0 1 3 2 4 5 +++ steps (Same 6 4 ∷ [])))

-- ---- Tainted addresses

abbrev pub number_loaded : FCode
number_loaded = one (steps (Number 0 7 ∷ Load 1 0 width.Byte ∷ []))

abbrev pub number_moved : FCode
number_moved = one (steps (Number 0 7 ∷ Number 1 4 ∷ Number 2 7 ∷ []) +++ move_sequence 4 0 1 3 2 4 5)

-- a pointer that was loaded and not checked
abbrev pub loaded_unchecked : FCode
loaded_unchecked = one (steps (Number 0 0xA00000 ∷ Load 1 0 width.Pointer ∷ Load 2 1 width.Byte ∷ []))

-- a masked sum that may leave the frame
abbrev pub far_mask : FCode
far_mask = one (steps (FrameAt 0 0 ∷ Number 1 16 ∷ Arith 2 op.And 3 1 ∷ Arith 2 op.Add 0 2 ∷ Load 4 2 width.Byte ∷ []))

-- an element of a range that no span was made of
abbrev pub no_span : FCode
no_span =
    one (steps (Number 0 0xA00000 ∷ Number 1 3 ∷ Number 2 8 ∷ Arith 3 op.Ltu 1 2
    ∷ If 3 (steps (Arith 4 op.Add 0 1 ∷ Load 5 4 width.Byte ∷ [])) none ∷ []))

-- from an argument to a parameter, and from a returned value to a result
abbrev pub tainted_argument : FCode
tainted_argument = code (function (steps (Number 0 7 ∷ Call 1 1 (0 ∷ []) ∷ [])) ∷ with_params 1 (steps (Load 1 0 width.Byte ∷ [])) ∷ [])

abbrev pub tainted_result : FCode
tainted_result = code (function (steps (Call 0 1 [] ∷ Load 1 0 width.Byte ∷ [])) ∷ with_params 0 (steps (Number 0 7 ∷ Return 0 ∷ [])) ∷ [])

-- ---- Where they break it

abbrev pub Breaks : FCode → (function place : ℕ) → Type 0
Breaks program f q = BreaksAt 4 globals program f q

abbrev pub ExamplesBreak : Type 0
ExamplesBreak =
    Breaks many_values 0 0 × Breaks nine_params 1 0 × Breaks main_takes_one 0 0 × Breaks framed_library 1 0 × Breaks no_main 3 0
    × Breaks no_such_value 0 3 × Breaks far_exit 0 1 × Breaks few_args 0 1 × Breaks calling_library 1 0 × Breaks past_frame 0 1
    × Breaks no_such_call 0 0 × Breaks far_line 0 1 × Breaks lone_slot 0 1 × Breaks temporary_read 0 35
    × Breaks number_loaded 0 1 × Breaks number_moved 0 3 × Breaks loaded_unchecked 0 2 × Breaks far_mask 0 4 × Breaks no_span 0 6
    × Breaks tainted_argument 1 0 × Breaks tainted_result 0 1
