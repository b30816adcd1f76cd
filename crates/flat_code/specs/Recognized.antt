-- The sequences where they stand among other steps. Steps are such a sequence exactly where they are its list, with values
-- that are apart; so the only sequence that steps can begin with is found by reading its values from their places.
use Rattle.std.specs.Prelude.{◌==◌, ℕ, zero, suc, ◌-◌, ◌&&◌, Bool, true, false, not, List, [], ◌∷◌, Option, Some, None, if◌then◌else◌}
use Rattle.bb_words.specs.declared.kinds.ReportKind.{ReportKind}
use Rattle.bb_words.specs.declared.kinds.ReportKind.TheVariants as report
use Rattle.bb_words.specs.declared.steps.ArithOp.{ArithOp}
use Rattle.bb_words.specs.declared.steps.ArithOp.TheVariants as op
use Rattle.bb_words.specs.declared.steps.Width.{Width}
use Rattle.bb_words.specs.declared.steps.Width.TheVariants as width
use Rattle.flat_code.specs.Code.{FStep, FSteps}
use Rattle.flat_code.specs.Sequences.{move_sequence, load_sequence, span_sequence}

-- ---- Equal steps

abbrev pub number_of_op : ArithOp → ℕ
number_of_op op.Add = 0
number_of_op op.Sub = 1
number_of_op op.Mul = 2
number_of_op op.Mulh = 3
number_of_op op.Mulhsu = 4
number_of_op op.Mulhu = 5
number_of_op op.Div = 6
number_of_op op.Divu = 7
number_of_op op.Rem = 8
number_of_op op.Remu = 9
number_of_op op.Shl = 10
number_of_op op.Shr = 11
number_of_op op.Sar = 12
number_of_op op.Lts = 13
number_of_op op.Ltu = 14
number_of_op op.And = 15
number_of_op op.Or = 16
number_of_op op.Xor = 17
number_of_op op.Equal = 18
number_of_op op.Unequal = 19
number_of_op op.AtMostSigned = 20
number_of_op op.AtMostUnsigned = 21

abbrev pub number_of_width : Width → ℕ
number_of_width width.Byte = 0
number_of_width width.Half = 1
number_of_width width.SignedHalf = 2
number_of_width width.Word = 3
number_of_width width.Pointer = 4

abbrev pub number_of_kind : ReportKind → ℕ
number_of_kind report.Bounds = 0
number_of_kind report.Pointer = 1
number_of_kind report.DivZero = 2
number_of_kind report.BadFree = 3
number_of_kind report.Depth = 4
number_of_kind report.Stack = 5

abbrev pub same_numbers : List ℕ → List ℕ → Bool
same_numbers [] [] = true
same_numbers (x ∷ xs) (y ∷ ys) = (x == y) && same_numbers xs ys
same_numbers xs ys = false

abbrev mutual
  pub same_step : FStep → FStep → Bool
  same_step (FStep.Number to value) (FStep.Number to' value') = (to == to') && (value == value')
  same_step (FStep.Same to from) (FStep.Same to' from') = (to == to') && (from == from')
  same_step (FStep.Arith to f left right) (FStep.Arith to' f' left' right') =
      (to == to') && ((number_of_op f == number_of_op f') && ((left == left') && (right == right')))
  same_step (FStep.If cond first second) (FStep.If cond' first' second') = (cond == cond') && (same_steps first first' && same_steps second second')
  same_step (FStep.Block body) (FStep.Block body') = same_steps body body'
  same_step (FStep.Loop body) (FStep.Loop body') = same_steps body body'
  same_step (FStep.Inner body) (FStep.Inner body') = same_steps body body'
  same_step (FStep.Exit levels) (FStep.Exit levels') = levels == levels'
  same_step (FStep.Call to function args) (FStep.Call to' function' args') = (to == to') && ((function == function') && same_numbers args args')
  same_step (FStep.Return from) (FStep.Return from') = from == from'
  same_step (FStep.Slot to from) (FStep.Slot to' from') = (to == to') && (from == from')
  same_step (FStep.Look to slot) (FStep.Look to' slot') = (to == to') && (slot == slot')
  same_step (FStep.FrameAt to offset) (FStep.FrameAt to' offset') = (to == to') && (offset == offset')
  same_step (FStep.Load to at w) (FStep.Load to' at' w') = (to == to') && ((at == at') && (number_of_width w == number_of_width w'))
  same_step (FStep.Store at from w) (FStep.Store at' from' w') = (at == at') && ((from == from') && (number_of_width w == number_of_width w'))
  same_step (FStep.Checked from to) (FStep.Checked from' to') = (from == from') && (to == to')
  same_step (FStep.LineMark line) (FStep.LineMark line') = line == line'
  same_step (FStep.Report kind line) (FStep.Report kind' line') = (number_of_kind kind == number_of_kind kind') && (line == line')
  same_step (FStep.Env to call a b) (FStep.Env to' call' a' b') = (to == to') && ((call == call') && ((a == a') && (b == b')))
  same_step s t = false

  pub same_steps : FSteps → FSteps → Bool
  same_steps FSteps.none FSteps.none = true
  same_steps (FSteps.more s a) (FSteps.more t b) = same_step s t && same_steps a b
  same_steps a b = false

-- the first list begins the second
abbrev pub starts : FSteps → FSteps → Bool
starts FSteps.none b = true
starts (FSteps.more s a) FSteps.none = false
starts (FSteps.more s a) (FSteps.more t b) = same_step s t && starts a b

-- ---- Sequences

pub data Sequence : Type 0 where
  Move : (p d q line s e : ℕ) → Sequence
  Load : (w at line s e : ℕ) → Sequence
  Span : (p n q line d s e : ℕ) → Sequence

abbrev pub sequence_steps : (g : ℕ) → Sequence → FSteps
sequence_steps g (Sequence.Move p d q line s e) = move_sequence g p d q line s e
sequence_steps g (Sequence.Load w at line s e) = load_sequence g w at line s e
sequence_steps g (Sequence.Span p n q line d s e) = span_sequence g p n q line d s e

-- the number is none of these
abbrev pub is_none_of : ℕ → List ℕ → Bool
is_none_of x [] = true
is_none_of x (y ∷ ys) = not (x == y) && is_none_of x ys

-- whether the values of a sequence are apart
abbrev pub move_is_apart : (p d q line s e : ℕ) → Bool
move_is_apart p d q line s e =
    is_none_of q (p ∷ d ∷ line ∷ []) && (is_none_of s (p ∷ d ∷ line ∷ q ∷ []) && is_none_of e (p ∷ d ∷ line ∷ q ∷ s ∷ []))

abbrev pub is_apart : Sequence → Bool
is_apart (Sequence.Move p d q line s e) = move_is_apart p d q line s e
is_apart (Sequence.Load w at line s e) = is_none_of w (line ∷ []) && (is_none_of s (w ∷ line ∷ []) && is_none_of e (w ∷ line ∷ s ∷ []))
is_apart (Sequence.Span p n q line d s e) = move_is_apart p d q line s e && (is_none_of n (d ∷ q ∷ s ∷ e ∷ []) && is_none_of d (p ∷ line ∷ []))

-- ---- Reading the values of a sequence from its steps

-- the step at a place of a list; past its end, one that leaves nothing
abbrev pub step_at : ℕ → FSteps → FStep
step_at n FSteps.none = FStep.Exit 0
step_at zero (FSteps.more s rest) = s
step_at (suc n) (FSteps.more s rest) = step_at n rest

-- the value that the step sets, if it is of a sequence
abbrev pub target : FStep → ℕ
target (FStep.Number to value) = to
target (FStep.Arith to f left right) = to
target (FStep.Slot to from) = to
target (FStep.Look to slot) = to
target (FStep.Load to at w) = to
target s = 0

-- the value that it reads as an address, or as the left side of an operation
abbrev pub source : FStep → ℕ
source (FStep.Arith to f left right) = left
source (FStep.Slot to from) = from
source (FStep.Load to at w) = at
source s = 0

abbrev pub right_side : FStep → ℕ
right_side (FStep.Arith to f left right) = right
right_side s = 0

abbrev pub line_value : FStep → ℕ
line_value (FStep.Report kind line) = line
line_value s = 0

-- the steps of an If, where its value is not 0 and where it is
abbrev pub first_of : FStep → FSteps
first_of (FStep.If cond first second) = first
first_of s = FSteps.none

abbrev pub second_of : FStep → FSteps
second_of (FStep.If cond first second) = second
second_of s = FSteps.none

-- the only sequences of each kind that these steps can begin with
abbrev pub move_of : FSteps → Sequence
move_of a =
    Sequence.Move (source (step_at 0 a)) (right_side (step_at 11 a)) (target (step_at 3 a)) (line_value (step_at 0 (second_of (step_at 2 a))))
    (target (step_at 0 a)) (target (step_at 1 a))

abbrev pub load_of : FSteps → Sequence
load_of a =
    let owned = first_of (step_at 1 a) in
    Sequence.Load (target (step_at 0 a)) (source (step_at 0 a)) (line_value (step_at 0 (second_of (step_at 3 owned)))) (target (step_at 0 owned))
    (target (step_at 1 owned))

abbrev pub span_of : FSteps → Sequence
span_of a =
    let touch = first_of (step_at 3 a) in
    Sequence.Span (source (step_at 0 touch)) (source (step_at 1 a)) (target (step_at 6 touch)) (line_value (step_at 0 (second_of (step_at 2 a))))
    (target (step_at 0 a)) (target (step_at 3 touch)) (target (step_at 4 touch))

abbrev pub if_begins : (g : ℕ) → Sequence → FSteps → Option Sequence → Option Sequence
if_begins g sequence a other = if starts (sequence_steps g sequence) a && is_apart sequence then Some sequence else other

-- the sequence with which these steps begin, if they do
abbrev pub sequence_at : (g : ℕ) → FSteps → Option Sequence
sequence_at g a = if_begins g (move_of a) a (if_begins g (load_of a) a (if_begins g (span_of a) a None))

abbrev pub count : FSteps → ℕ
count FSteps.none = 0
count (FSteps.more s rest) = suc (count rest)

-- how many steps after the first belong to it
abbrev pub further : (g : ℕ) → Option Sequence → ℕ
further g None = 0
further g (Some sequence) = count (sequence_steps g sequence) - 1
