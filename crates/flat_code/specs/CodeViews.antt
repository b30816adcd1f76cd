-- What the code of the program stands for: one view for each type, to the type of its name in `Code`.
use Rattle.std.specs.Prelude.{List, map}
use Rattle.flat_code.specs.declared.code.FlatStep.{FlatStep, fold-FlatStep}
use Rattle.flat_code.specs.declared.code.FlatStep.TheOpen.{FlatStep-F}
use Rattle.flat_code.specs.declared.code.FlatFunction.{FlatFunction}
use Rattle.flat_code.specs.declared.code.Flat.{Flat}
use Rattle.flat_code.specs.Code.{FStep, FSteps, FFunction, FCode, steps}

abbrev pub step_level : FlatStep-F FStep → FStep
step_level (FlatStep-F.Number to value) = FStep.Number to value.0
step_level (FlatStep-F.Same to from) = FStep.Same to from
step_level (FlatStep-F.Arith to op left right) = FStep.Arith to op left right
step_level (FlatStep-F.If cond first second) = FStep.If cond (steps first.items) (steps second.items)
step_level (FlatStep-F.Block body) = FStep.Block (steps body.items)
step_level (FlatStep-F.Loop body) = FStep.Loop (steps body.items)
step_level (FlatStep-F.Inner body) = FStep.Inner (steps body.items)
step_level (FlatStep-F.Exit levels) = FStep.Exit levels
step_level (FlatStep-F.Call to function args) = FStep.Call to function args.items
step_level (FlatStep-F.Return from) = FStep.Return from
step_level (FlatStep-F.Slot to from) = FStep.Slot to from
step_level (FlatStep-F.Look to slot) = FStep.Look to slot
step_level (FlatStep-F.FrameAt to offset) = FStep.FrameAt to offset
step_level (FlatStep-F.Load to at width) = FStep.Load to at width
step_level (FlatStep-F.Store at from width) = FStep.Store at from width
step_level (FlatStep-F.Checked from to) = FStep.Checked from to
step_level (FlatStep-F.LineMark line) = FStep.LineMark line
step_level (FlatStep-F.Report kind line) = FStep.Report kind line
step_level (FlatStep-F.Env to call a b) = FStep.Env to call a b

-- the step that a `FlatStep` stands for
abbrev pub step_of : FlatStep → FStep
step_of = fold-FlatStep FStep step_level

abbrev pub steps_of : List FlatStep → FSteps
steps_of xs = steps (map step_of xs)

abbrev pub function_of : FlatFunction → FFunction
function_of f = record { values = f.values; params = f.params; frame = f.frame; line = f.line; body = steps_of f.body }

-- the code that a `Flat` stands for
abbrev pub code_of : Flat → FCode
code_of f = record { functions = map function_of f.functions; main = f.main; initial = f.initial }
