use Rattle.std.proofs.Common.{◌+◌, ◌*◌}
use Rattle.flat_code.specs.CodeViews.{step_of, steps_of}
use Rattle.flat_code.proofs.Emitted.{step_size, steps_size}
use Rattle.flat_code.proofs.same.+same.Given as goal

abbrev pub decreases-is_same_step : goal.decreases-is_same_step
decreases-is_same_step l = 3 * step_size (step_of l.a.now)

abbrev pub decreases-are_same_steps : goal.decreases-are_same_steps
decreases-are_same_steps l = 3 * steps_size (steps_of l.a.now) + 1

abbrev pub decreases-are_both_same : goal.decreases-are_both_same
decreases-are_both_same l = 3 * (steps_size (steps_of l.a.now) + steps_size (steps_of l.x.now)) + 2
