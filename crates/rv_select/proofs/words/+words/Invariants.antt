use Rattle.std.specs.Prelude.{drop}
use Rattle.rv_select.proofs.Read.{StepsLeft}
use Rattle.rv_select.proofs.words.+words.Given as goal

abbrev pub invariant-read_steps-loop-step : goal.invariant-read_steps-loop-step
invariant-read_steps-loop-step l = StepsLeft (drop l.step-index l.steps) l.steps
