use Rattle.std.proofs.Common.{List}
use Rattle.rv_machine.specs.State.{Frames}
use Rattle.rv_machine.specs.Machine.{steps}
use Rattle.rv_machine.specs.Runs.{Shown, Ran, running}
use Rattle.size_table.specs.Blocks.{Block}
use Rattle.rv_machine.proofs.core_step.Core.go_decoded.Given as goal

abbrev pub invariant-loop-went : goal.invariant-loop-went
invariant-loop-went l = (frames : Frames) (heap : List Block) (o : Shown) → Ran (steps l.went) (running l.fn.self frames heap) o (running l.self frames heap) o
