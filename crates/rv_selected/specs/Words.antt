-- The numbers of flat code that its instructions have as constants are words.
use Rattle.std.specs.List.{AllByRecursion}
use Rattle.flat_code.specs.Code.{FStep, FSteps, FFunction, FCode}
use Rattle.rv_machine.specs.Formed.{IsWord}

abbrev mutual
  -- what a value is set to, and an offset in the frame
  pub StepHasWords : FStep → Type 0
  StepHasWords (FStep.Number to value) = IsWord value
  StepHasWords (FStep.FrameAt to offset) = IsWord offset
  StepHasWords (FStep.If cond first second) = HaveWords first × HaveWords second
  StepHasWords (FStep.Block body) = HaveWords body
  StepHasWords (FStep.Loop body) = HaveWords body
  StepHasWords (FStep.Inner body) = HaveWords body
  StepHasWords s = Unit {0}

  pub HaveWords : FSteps → Type 0
  HaveWords FSteps.none = Unit {0}
  HaveWords (FSteps.more s rest) = StepHasWords s × HaveWords rest

-- the line of a function, and those in its body
abbrev pub FunctionHasWords : FFunction → Type 0
FunctionHasWords f = IsWord f.line × HaveWords f.body

abbrev pub HasWords : FCode → Type 0
HasWords code = AllByRecursion FunctionHasWords code.functions
