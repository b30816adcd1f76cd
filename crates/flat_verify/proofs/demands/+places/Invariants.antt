use Rattle.std.proofs.Common.{◌≡◌, ◌+◌, ◌*◌}
use Rattle.std.specs.Prelude.{drop}
use Rattle.flat_code.specs.CodeViews.{step_of, steps_of}
use Rattle.flat_discipline.specs.Items.{step_places, steps_places}
use Rattle.flat_verify.proofs.demands.+places.Given as goal

abbrev pub decreases-step_places : goal.decreases-step_places
decreases-step_places l = 2 * step_places (step_of l.step.now)

abbrev pub decreases-steps_places : goal.decreases-steps_places
decreases-steps_places l = 2 * steps_places (steps_of l.steps.now) + 1

abbrev pub invariant-steps_places-loop-step : goal.invariant-steps_places-loop-step
invariant-steps_places-loop-step l = l.n + steps_places (steps_of (drop l.step-index l.steps)) ≡ steps_places (steps_of l.steps)
