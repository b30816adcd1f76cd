use Rattle.std.proofs.Common.{refl, sym, ◌∙◌}
use Rattle.mid_code.specs.Views.{step_of, steps_of}
use Rattle.bounds_instr_code.specs.Built.{is_built_step, are_built_steps}
use Rattle.bounds_instr_code.proofs.Emitted.{end_in, goes_on}
use Rattle.bounds_instr_code.proofs.built.+steps.Goals as goal

pub are_built_steps-loop-x-preserved : goal.are_built_steps-loop-x-preserved
are_built_steps-loop-x-preserved t c = goes_on (λ z. are_built_steps (steps_of z)) (is_built_step (step_of c.x-item.result)) c.args.xs.now c.loop-x.x-index c.x-item.result c.loop-x-test.true c.x-item.is refl (sym c.is_built_step.ensures ∙ c.if-not-is_built_step.false) c.loop-x.invariant

pub are_built_steps-returns : goal.are_built_steps-returns
are_built_steps-returns t c = sym (end_in (λ z. are_built_steps (steps_of z)) c.args.xs.now c.loop-x.x-index c.loop-x-test.false) ∙ c.loop-x.invariant
