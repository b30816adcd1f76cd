use Rattle.std.proofs.Common.{◌≡◌, ◌+◌, ◌*◌, ◌++◌}
use Rattle.std.specs.Prelude.{map, drop}
use Rattle.flat_code.specs.CodeViews.{step_of, steps_of}
use Rattle.flat_discipline.specs.Items.{step_places, steps_places}
use Rattle.flat_verify.specs.Links.{all_inside}
use Rattle.flat_verify.specs.Settings.{setting_of}
use Rattle.flat_verify.specs.Views.{demand_of}
use Rattle.flat_verify.proofs.wanted.+inside.Given as goal

abbrev pub decreases-push_inside_demands : goal.decreases-push_inside_demands
decreases-push_inside_demands l = 2 * step_places (step_of l.step.now)

abbrev pub decreases-push_all_inside : goal.decreases-push_all_inside
decreases-push_all_inside l = 2 * steps_places (steps_of l.steps.now) + 1

abbrev pub invariant-push_all_inside-loop-step : goal.invariant-push_all_inside-loop-step
invariant-push_all_inside-loop-step l =
    map demand_of l.demands.items ++ all_inside (setting_of l.setting) l.given.operands.now l.given.at l.levels (steps_of (drop l.step-index l.steps)) l.next ≡ map demand_of l.initial.demands.items ++ all_inside (setting_of l.setting) l.given.operands.now l.given.at l.levels (steps_of l.steps) l.place
