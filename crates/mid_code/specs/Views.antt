-- What the code of the program stands for.
use Rattle.std.specs.Prelude.{List, [], ◌∷◌, map}
use Rattle.block_layout.specs.Layout.{Item}
use Rattle.block_layout.specs.Objects.{Stored}
use Rattle.mid_code.specs.declared.code.MidStep.{MidStep, fold-MidStep}
use Rattle.mid_code.specs.declared.code.MidStep.TheOpen.{MidStep-F}
use Rattle.mid_code.specs.declared.code.MidGlobal.{MidGlobal}
use Rattle.mid_code.specs.declared.code.MidBlock.{MidBlock}
use Rattle.mid_code.specs.declared.code.MidFunction.{MidFunction}
use Rattle.mid_code.specs.declared.code.Mid.{Mid}
use Rattle.mid_code.specs.Code.{Step, Steps, Function, Program}

abbrev pub steps : List Step → Steps
steps [] = Steps.stop
steps (x ∷ xs) = Steps.step x (steps xs)

abbrev pub step_level : MidStep-F Step → Step
step_level (MidStep-F.Number to value) = Step.Number to value.0
step_level (MidStep-F.NullPtr to) = Step.NullPtr to
step_level (MidStep-F.Same to from) = Step.Same to from
step_level (MidStep-F.Arith to o a b) = Step.Arith to o a b
step_level (MidStep-F.Divide to o a b line) = Step.Divide to o a b line
step_level (MidStep-F.Named to o) = Step.Named to o
step_level (MidStep-F.Move site to from by scale down line) = Step.Move site to from by scale down line
step_level (MidStep-F.MoveBy site to from d line) = Step.MoveBy site to from d line
step_level (MidStep-F.Load to at w line) = Step.Load to at w line
step_level (MidStep-F.Store at from w) = Step.Store at from w
step_level (MidStep-F.Clear o) = Step.Clear o
step_level (MidStep-F.Init o offset from w) = Step.Init o offset from w
step_level (MidStep-F.CopyBytes a b from to n line) = Step.CopyBytes a b from to n line
step_level (MidStep-F.PtrSame to a b) = Step.PtrSame to a b
step_level (MidStep-F.PtrOrder to o a b) = Step.PtrOrder to o a b
step_level (MidStep-F.PtrDiff to a b size) = Step.PtrDiff to a b size
step_level (MidStep-F.Call to f args) = Step.Call to f args.items
step_level (MidStep-F.Library to which args line a b) = Step.Library to which args.items line a b
step_level (MidStep-F.If cond xs ys) = Step.If cond (steps xs.items) (steps ys.items)
step_level (MidStep-F.Block body) = Step.Block (steps body.items)
step_level (MidStep-F.Loop body) = Step.Loop (steps body.items)
step_level (MidStep-F.Exit n) = Step.Exit n
step_level (MidStep-F.Return from) = Step.Return from
step_level (MidStep-F.LineMark line) = Step.LineMark line

-- the step that a `MidStep` stands for
abbrev pub step_of : MidStep → Step
step_of = fold-MidStep Step step_level

abbrev pub steps_of : List MidStep → Steps
steps_of xs = steps (map step_of xs)

abbrev pub global_of : MidGlobal → Stored
global_of o = record { length = o.length; initial = o.initial }

abbrev pub block_of : MidBlock → Item
block_of b = record { number = b.local; length = b.length }

abbrev pub function_of : MidFunction → Function
function_of f = record { line = f.line; values = f.values; params = f.params; blocks = map block_of f.blocks; body = steps_of f.body.items }

-- the program that a `Mid` stands for
abbrev pub program_of : Mid → Program
program_of p = record { named = p.named; globals = map global_of p.globals; functions = map function_of p.functions; main = p.main }
