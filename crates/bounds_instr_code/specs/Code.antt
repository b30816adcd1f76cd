-- The flat code of mid code. A value of mid code is the value of the same number; the values behind them are temporaries.
use Rattle.std.specs.Prelude.{ℕ, ◌+◌, ◌≤◌, Bool, true, false, List, [], ◌∷◌, map, slice_index_or}
use Rattle.bb_words.specs.declared.kinds.ReportKind.TheVariants.{DivZero}
use Rattle.bb_words.specs.declared.steps.ArithOp.{ArithOp}
use Rattle.bb_words.specs.declared.steps.ArithOp.TheVariants as op
use Rattle.bb_words.specs.declared.steps.DivideOp.{DivideOp}
use Rattle.bb_words.specs.declared.steps.DivideOp.TheVariants as divide
use Rattle.bb_words.specs.declared.steps.OrderOp.{OrderOp}
use Rattle.bb_words.specs.declared.steps.OrderOp.TheVariants as order
use Rattle.bb_words.specs.declared.steps.Width.{Width}
use Rattle.bb_words.specs.declared.steps.Width.TheVariants as width
use Rattle.bb_words.specs.Numbers.{word_of, difference}
use Rattle.block_layout.specs.Layout.{layout}
use Rattle.typed_tree.specs.declared.typed_expr.LibCall.{LibCall}
use Rattle.typed_tree.specs.declared.typed_expr.LibCall.TheVariants as lib
use Rattle.size_table.specs.Blocks.{Block}
use Rattle.source_meaning.specs.Worlds.{live_blocks}
use Rattle.source_meaning.specs.Start.{start_world}
use Rattle.mid_code.specs.Code.{Step, Steps, Function, Program}
use Rattle.flat_code.specs.Code.{FStep, FSteps, none, more, ◌+++◌, steps, FFunction, FCode}
use Rattle.flat_code.specs.Accounts.{frame_size}
use Rattle.flat_code.specs.Sequences.{move_sequence, load_sequence}
use Rattle.injection.specs.Laws.{exponents}
use Rattle.bounds_instr_code.specs.declared.program.TheConstants.{TEMPORARIES}

-- the operation of a division whose divisor is not zero
abbrev pub quotient : DivideOp → ArithOp
quotient divide.Div = op.Div
quotient divide.Divu = op.Divu
quotient divide.Rem = op.Rem
quotient divide.Remu = op.Remu

-- a division by zero is reported, with its line in a temporary
abbrev pub division : (temporary to : ℕ) → DivideOp → (left right line : ℕ) → FSteps
division t to o a b line =
    steps (FStep.If b none (steps (FStep.Number t line ∷ FStep.Report DivZero t ∷ [])) ∷ FStep.Arith to (quotient o) a b ∷ [])

-- ---- Pointers, over the temporaries from t on

abbrev pub order_step : OrderOp → (to left right : ℕ) → FStep
order_step order.Below to a b = FStep.Arith to op.Ltu a b
order_step order.AtMost to a b = FStep.Arith to op.AtMostUnsigned a b
order_step order.Above to a b = FStep.Arith to op.Ltu b a
order_step order.AtLeast to a b = FStep.Arith to op.AtMostUnsigned b a

-- Pointers are ordered by their addresses: twice a word has no bit 31 of it.
abbrev pub ordering : (t to : ℕ) → OrderOp → (left right : ℕ) → FSteps
ordering t to o a b = steps (FStep.Arith t op.Add a a ∷ FStep.Arith (t + 1) op.Add b b ∷ order_step o to t (t + 1) ∷ [])

-- and subtracted: the difference of their words without bit 31, by the size of an element
abbrev pub subtraction : (t to left right size : ℕ) → FSteps
subtraction t to a b size =
    steps (FStep.Number t 0x7fff_ffff ∷ FStep.Arith (t + 1) op.And b t ∷ FStep.Arith t op.And a t ∷ FStep.Arith t op.Sub t (t + 1)
    ∷ FStep.Number (t + 1) size ∷ FStep.Arith to op.Div t (t + 1) ∷ [])

-- A pointer that is loaded is checked, with its line in a temporary.
abbrev pub loading : (g t to at : ℕ) → Width → (line : ℕ) → FSteps
loading g t to at width.Pointer line = more (FStep.Number t line) (load_sequence g to at t (t + 1) (t + 2))
loading g t to at w line = more (FStep.Load to at w) none

-- A pointer is moved by temporary t, with its line in the next one, and the result is copied from the one after it.
abbrev pub moving : (g t to from : ℕ) → FSteps
moving g t to from = move_sequence g from t (t + 2) (t + 1) (t + 3) (t + 4) +++ steps (FStep.Same to (t + 2) ∷ [])

-- what the number of elements is multiplied by
abbrev pub factor : (scale : ℕ) → (down : Bool) → ℕ
factor scale true = difference 0 scale
factor scale false = scale

abbrev pub moving_elements : (g t to from by scale : ℕ) → (down : Bool) → (line : ℕ) → FSteps
moving_elements g t to from by scale down line =
    steps (FStep.Number (t + 1) line ∷ FStep.Number t (factor scale down) ∷ FStep.Arith t op.Mul by t ∷ []) +++ moving g t to from

abbrev pub moving_by : (g t to from distance line : ℕ) → FSteps
moving_by g t to from distance line = steps (FStep.Number (t + 1) line ∷ FStep.Number t distance ∷ []) +++ moving g t to from

-- ---- The library

-- the first of the values that hold arguments
abbrev pub first_of : List ℕ → ℕ
first_of args = slice_index_or args 0 0

-- and the second
abbrev pub second_of : List ℕ → ℕ
second_of args = slice_index_or args 1 0

-- A block is given back, and a value becomes 0. What is none is reported, with the line in a temporary.
abbrev pub freeing : (t to line pointer : ℕ) → FSteps
freeing t to line pointer = steps (FStep.Number t line ∷ FStep.Env to 5 pointer t ∷ FStep.Number to 0 ∷ [])

-- Room for so many elements of a size is taken. A product that is no word is more than there is, as the greatest word is.
abbrev pub allocation : (t to count size : ℕ) → FSteps
allocation t to a b =
    steps (FStep.Arith t op.Mulhu a b ∷ FStep.If t (steps (FStep.Number t 0xffff_ffff ∷ [])) (steps (FStep.Arith t op.Mul a b ∷ []))
    ∷ FStep.Env to 4 t t ∷ [])

-- calls of the library that the environment does
abbrev pub library_code : (t : ℕ) → LibCall → (to line : ℕ) → (args : List ℕ) → FSteps
library_code t lib.Putchar to line args = steps (FStep.Env to 3 (first_of args) (first_of args) ∷ [])
library_code t lib.Getchar to line args = steps (FStep.Env to 2 to to ∷ [])
library_code t lib.Exit to line args = steps (FStep.Env to 1 (first_of args) (first_of args) ∷ [])
library_code t lib.Malloc to line args = steps (FStep.Env to 4 (first_of args) (first_of args) ∷ [])
library_code t lib.Free to line args = freeing t to line (first_of args)
library_code t lib.Calloc to line args = allocation t to (first_of args) (second_of args)
-- not built
library_code t lib.Memcpy to line args = none
library_code t lib.Memset to line args = none

-- ---- Steps

-- for slots of 2 ^ g bytes, in a function with so many values, behind which the temporaries are
module _ (g values : ℕ) where
  abbrev mutual
    pub step_code : Step → FSteps
    step_code (Step.Number to value) = more (FStep.Number to value) none
    step_code (Step.NullPtr to) = more (FStep.Number to 0) none
    step_code (Step.Same to from) = more (FStep.Same to from) none
    step_code (Step.Arith to o a b) = more (FStep.Arith to o a b) none
    step_code (Step.Divide to o a b line) = division values to o a b line
    step_code (Step.PtrSame to a b) = more (FStep.Arith to op.Equal a b) none
    step_code (Step.Call to f args) = more (FStep.Call to f args) none
    step_code (Step.Library to which args line a b) = library_code values which to line args
    step_code (Step.If cond xs ys) = more (FStep.If cond (code xs) (code ys)) none
    step_code (Step.Block body) = more (FStep.Block (code body)) none
    step_code (Step.Loop body) = more (FStep.Loop (code body)) none
    step_code (Step.Exit levels) = more (FStep.Exit levels) none
    step_code (Step.Return from) = more (FStep.Return from) none
    step_code (Step.LineMark line) = more (FStep.LineMark line) none
    step_code (Step.Move site to from by scale down line) = moving_elements g values to from by scale down line
    step_code (Step.MoveBy site to from d line) = moving_by g values to from (word_of d) line
    step_code (Step.Load to at width line) = loading g values to at width line
    step_code (Step.Store at from width) = more (FStep.Store at from width) none
    step_code (Step.PtrOrder to o a b) = ordering values to o a b
    step_code (Step.PtrDiff to a b size) = subtraction values to a b size
    -- not built
    step_code (Step.Named to o) = none
    step_code (Step.Clear o) = none
    step_code (Step.Init o offset from width) = none
    step_code (Step.CopyBytes a b from to n line) = none

    pub code : Steps → FSteps
    code Steps.stop = none
    code (Steps.step x xs) = step_code x +++ code xs

-- a function has room for its temporaries behind its values
abbrev pub HasRoom : Function → Type 0
HasRoom f = f.values ≤ 250

-- the exponents of the blocks of a function's frame
abbrev pub frame_of : (g : ℕ) → Function → List ℕ
frame_of g f = exponents (layout g f.blocks)

abbrev pub function_code : (g : ℕ) → Function → FFunction
function_code g f = record {
  values = f.values + TEMPORARIES;
  params = f.params;
  frame = frame_size (frame_of g f);
  line = f.line;
  body = code g f.values f.body;
}

-- that of a function without block locals, whose frame has none
abbrev pub frameless_code : (g : ℕ) → Function → FFunction
frameless_code g f = record { values = f.values + TEMPORARIES; params = f.params; frame = 0; line = f.line; body = code g f.values f.body }

-- the code of a program for slots of 2 ^ g bytes; those that are built have no global objects
abbrev pub instrumented : (g : ℕ) → Program → FCode
instrumented g p = record { functions = map (function_code g) p.functions; main = p.main; initial = [] }

-- the blocks of a program's global objects, and the frames of its functions
abbrev pub global_blocks : (g : ℕ) → Program → List Block
global_blocks g p = live_blocks (start_world g p.named p.globals []).objects

abbrev pub frames_of : (g : ℕ) → Program → List (List ℕ)
frames_of g p = map (frame_of g) p.functions
