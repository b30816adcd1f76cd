-- How much time flat code takes. Time is counted in instructions of RV32IM, and is an upper bound: what a step is charged
-- is how many instructions its code has, where each value is a word of the control frame, so that an operation loads two
-- words, computes and stores one, and where each branch and jump has its longest form (a branch over an AUIPC and a
-- JALR, or these two alone). No step's own code has a loop, so each of its instructions is done at most once.
use Rattle.std.specs.Prelude.{ℕ, ◌+◌, ◌*◌}
use Rattle.flat_code.specs.Code.{FStep, FSteps, FFunction}

-- the instructions of a step's own code, without those of the steps in it
abbrev pub charge : FStep → ℕ
charge (FStep.Number to value) = 3  -- LUI, ADDI, SW
charge (FStep.Same to from) = 2  -- LW, SW
charge (FStep.Arith to op left right) = 5  -- two LW, at most two operations, SW
charge (FStep.If cond first second) = 6  -- LW, a long branch, a long jump behind `yes`
charge (FStep.Block body) = 0
charge (FStep.Loop body) = 0  -- each turn is charged by itself
charge (FStep.Inner body) = 0
charge (FStep.Exit levels) = 2  -- a long jump
charge (FStep.Call to function args) = 48  -- eight arguments, registers kept, a long jump, the result
charge (FStep.Return from) = 3  -- LW, a long jump
charge (FStep.Slot to from) = 12  -- LW, ten shifts and sums, SW
charge (FStep.Look to slot) = 4  -- LW, ADD, LBU, SW
charge (FStep.FrameAt to offset) = 5  -- LW of the stack number, LUI, ADDI, ADD, SW
charge (FStep.Load to at width) = 3  -- LW, the load, SW
charge (FStep.Store at from width) = 3  -- two LW, the store
charge (FStep.Checked from to) = 3  -- two LW, ADD with rd x0
charge (FStep.LineMark line) = 1  -- LUI with rd x0
charge (FStep.Report kind line) = 4  -- LW, two ADDI, ECALL
charge (FStep.Env to call a b) = 5  -- two LW, ADDI, ECALL, SW

-- a turn of a loop: the long jump back to its begin
abbrev pub turn_charge : ℕ
turn_charge = 2

-- The instructions of a function besides those of its steps: its control frame, the environment's calls that enter and
-- leave its frame, eight parameters, and a loop that sets the other values to 0.
abbrev pub function_charge : ℕ
function_charge = 96

-- what entering and leaving a function is charged: the loop has three instructions a value
abbrev pub call_charge : FFunction → ℕ
call_charge f = function_charge + 3 * f.values

-- the start code: it calls the first function, and exits with what that returns
abbrev pub start_charge : ℕ
start_charge = 8

-- ---- Code without loops and calls

-- the steps have neither loops nor calls
abbrev mutual
  pub IsStraight : FStep → Type 0
  IsStraight (FStep.If cond first second) = AreStraight first × AreStraight second
  IsStraight (FStep.Block body) = AreStraight body
  IsStraight (FStep.Loop body) = ⊥
  IsStraight (FStep.Inner body) = ⊥
  IsStraight (FStep.Call to function args) = ⊥
  IsStraight s = Unit {0}

  pub AreStraight : FSteps → Type 0
  AreStraight FSteps.none = Unit {0}
  AreStraight (FSteps.more s rest) = IsStraight s × AreStraight rest

-- all charges of steps, each counted once
abbrev mutual
  pub charges_in : FStep → ℕ
  charges_in (FStep.If cond first second) = charges first + charges second
  charges_in (FStep.Block body) = charges body
  charges_in (FStep.Loop body) = charges body
  charges_in (FStep.Inner body) = charges body
  charges_in s = 0

  pub charges : FSteps → ℕ
  charges FSteps.none = 0
  charges (FSteps.more s rest) = charge s + charges_in s + charges rest
