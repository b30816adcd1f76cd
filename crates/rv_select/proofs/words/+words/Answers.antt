use Rattle.rv_select.proofs.Read.{step_read, steps_read}
use Rattle.rv_select.proofs.words.+words.Goals as goal

pub read_steps-loop-step-init : goal.read_steps-loop-step-init
read_steps-loop-step-init t c = λ rest. rest

pub read_steps-loop-step-preserved : goal.read_steps-loop-step-preserved
read_steps-loop-step-preserved t c = step_read c.args.steps.now c.args.steps.now c.loop-step.step-index c.step-item.result c.loop-step-test.true c.step-item.is c.read_step.ensures c.loop-step.invariant

pub read_steps-returns : goal.read_steps-returns
read_steps-returns t c = steps_read c.args.steps.now c.args.steps.now c.loop-step.step-index c.loop-step-test.false c.loop-step.invariant
