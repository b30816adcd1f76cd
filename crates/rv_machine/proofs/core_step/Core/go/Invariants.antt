use Rattle.std.proofs.Common.{List, ◌≤◌, ◌-◌}
use Rattle.rv_machine.specs.State.{Frames}
use Rattle.rv_machine.specs.Machine.{steps}
use Rattle.rv_machine.specs.Runs.{Shown, Ran, running}
use Rattle.size_table.specs.Blocks.{Block}
use Rattle.rv_machine.proofs.core_step.Core.go.Given as goal

abbrev pub decreases-loop-went : goal.decreases-loop-went
decreases-loop-went l = l.n - l.went

abbrev pub invariant-loop-went : goal.invariant-loop-went
invariant-loop-went l = record {
  within : l.went ≤ l.n;
  ran : (frames : Frames) (heap : List Block) (o : Shown) → Ran (steps l.went) (running l.fn.self frames heap) o (running l.self frames heap) o;
}
