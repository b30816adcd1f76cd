-- Small programs in flat code.
use Rattle.std.specs.Prelude.{[], ◌∷◌}
use Rattle.bb_words.specs.declared.kinds.ReportKind.TheVariants.{DivZero}
use Rattle.bb_words.specs.declared.steps.ArithOp.TheVariants.{Sub, Ltu}
use Rattle.flat_code.specs.Code.{FSteps, FFunction, FCode, steps}
use Rattle.bb_words.specs.declared.steps.Width.TheVariants.{Byte, Word}
use Rattle.flat_code.specs.Code.FStep.{Number, Arith, If, Block, Loop, Exit, Call, Return, FrameAt, Load, Store, LineMark, Report, Env}
use Rattle.flat_code.specs.Sequences.{move_sequence}

-- the first function returns what the second one gives for 42 and 100,000
abbrev pub first_steps : FSteps
first_steps = steps (LineMark 5 ∷ Number 0 42 ∷ Number 1 100000 ∷ Call 2 1 (0 ∷ 1 ∷ []) ∷ Return 2 ∷ [])

-- the second minus the first, where that is less; else a report
abbrev pub larger_steps : FSteps
larger_steps = steps (Arith 2 Sub 1 0 ∷ Return 2 ∷ [])

abbrev pub smaller_steps : FSteps
smaller_steps = steps (Number 1 7 ∷ Report DivZero 1 ∷ [])

abbrev pub second_steps : FSteps
second_steps = steps (Arith 2 Ltu 0 1 ∷ If 2 larger_steps smaller_steps ∷ [])

abbrev pub first : FFunction
first = record { values = 3; params = 0; frame = 0; line = 5; body = first_steps }

abbrev pub second : FFunction
second = record { values = 3; params = 2; frame = 0; line = 1; body = second_steps }

abbrev pub difference : FCode
difference = record { functions = first ∷ second ∷ []; main = 0; initial = [] }

-- a byte is loaded and written, once
abbrev pub written_again : FSteps
written_again = steps (Load 6 2 Byte ∷ Env 7 3 6 6 ∷ Exit 1 ∷ [])

-- a pointer into the frame is moved by 4, a word is stored there, and its first byte is written
abbrev pub moved_steps : FSteps
moved_steps =
    steps (FrameAt 0 0 ∷ Number 1 4 ∷ Number 3 2 ∷ Block (move_sequence 4 0 1 2 3 4 5) ∷ Store 2 1 Word ∷ Loop written_again ∷ Return 7 ∷ [])

abbrev pub moving : FFunction
moving = record { values = 10; params = 0; frame = 16; line = 2; body = moved_steps }

abbrev pub moved : FCode
moved = record { functions = moving ∷ []; main = 0; initial = [] }
