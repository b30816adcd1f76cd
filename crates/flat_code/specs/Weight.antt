-- How many bytes flat code weighs: a bound on the bytes of the instructions that are selected for it. It is a sum with one
-- number for each function, each kind of step, each kind of sequence, and for the start code.
--
-- A step weighs the instructions of `Time`, four bytes each: a value is a word of the control frame, so that an operation
-- loads two words, computes and stores, and branches and jumps have their longest forms. These numbers are too large for
-- the steps of a sequence one by one: a move's 32 steps would weigh 596 bytes, and a source like `p->q->q` has a move and
-- a load for each node, for which there are 504 bytes. But nothing reads the temporaries of a sequence afterwards, so it
-- is selected as one whole with its temporaries in registers. Then a move is
--     LW p; ten instructions for its slot; ADD, LBU; a long branch and the four of a report; SLLI, SRL, SLL for the base;
--     ADDI, SLL for the size; SLLI, SRLI, LW d, ADD for the address; SUB; a long branch; ADDI, ADDI; a long branch and the
--     four of a report; LUI, OR; LW p, ADD x0, SW q
-- which is 46 instructions, for which there are 60. A load of a pointer is likewise 33, for which there are 40, and a span 65,
-- for which there are 80. With the line and the distance of a move (6), its copy (2), and the line of a load (3) a node that
-- moves a pointer and loads one has 111 instructions, which are 444 bytes.
use Rattle.std.specs.Prelude.{ℕ, zero, suc, ◌+◌, ◌*◌, List, [], ◌∷◌, Option, Some, None}
use Rattle.flat_code.specs.Code.{FStep, FSteps, FFunction, FCode}
use Rattle.flat_code.specs.Recognized.{Sequence, sequence_at, further}
use Rattle.flat_code.specs.Time.{charge, turn_charge, function_charge, start_charge}

-- the instructions of a sequence as one whole
abbrev pub sequence_size : Sequence → ℕ
sequence_size (Sequence.Move p d q line s e) = 60
sequence_size (Sequence.Load w at line s e) = 40
sequence_size (Sequence.Span p n q line d s e) = 80

abbrev pub item_size : Option Sequence → (step : ℕ) → ℕ
item_size None step = step
item_size (Some sequence) step = sequence_size sequence

abbrev mutual
  -- the instructions of a step, with those of the steps in it
  pub step_size : (g : ℕ) → FStep → ℕ
  step_size g (FStep.If cond first second) = charge (FStep.If cond first second) + (steps_size g 0 first + steps_size g 0 second)
  step_size g (FStep.Block body) = steps_size g 0 body
  step_size g (FStep.Loop body) = turn_charge + steps_size g 0 body
  step_size g (FStep.Inner body) = turn_charge + steps_size g 0 body
  step_size g s = charge s

  -- the instructions of steps, after so many that belong to a sequence before
  pub steps_size : (g skip : ℕ) → FSteps → ℕ
  steps_size g skip FSteps.none = 0
  steps_size g (suc skip) (FSteps.more s rest) = steps_size g skip rest
  steps_size g zero (FSteps.more s rest) =
      let found = sequence_at g (FSteps.more s rest) in
      item_size found (step_size g s) + steps_size g (further g found) rest

abbrev pub functions_size : (g : ℕ) → List FFunction → ℕ
functions_size g [] = 0
functions_size g (f ∷ fs) = function_charge + steps_size g 0 f.body + functions_size g fs

-- the weight of code, in bytes
abbrev pub weight : (g : ℕ) → FCode → ℕ
weight g code = 4 * (start_charge + functions_size g code.functions)
