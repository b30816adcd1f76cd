use Rattle.std.proofs.Common.{◌+◌, ◌*◌}
use Rattle.std.specs.Prelude.{drop}
use Rattle.flat_code.specs.CodeViews.{step_of, steps_of}
use Rattle.flat_discipline.specs.Items.{step_places, steps_places}
use Rattle.flat_verify.proofs.ItemWalk.{ReadSoFar}
use Rattle.flat_verify.proofs.items.+read.Given as goal

abbrev pub decreases-item_of : goal.decreases-item_of
decreases-item_of l = 2 * step_places (step_of l.step.now)

abbrev pub decreases-items_of : goal.decreases-items_of
decreases-items_of l = 2 * steps_places (steps_of l.steps.now) + 1

abbrev pub invariant-items_of-loop-i : goal.invariant-items_of-loop-i
invariant-items_of-loop-i l = ReadSoFar l.g l.skip (drop l.i l.steps) l.steps l.items.items
