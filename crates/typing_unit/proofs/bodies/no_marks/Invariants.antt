use Rattle.std.proofs.Common.{◌≡◌}
use Rattle.typing_unit.specs.UnitSteps.{no_marks}
use Rattle.typing_unit.proofs.bodies.no_marks.Given as goal

abbrev pub invariant-loop-mark : goal.invariant-loop-mark
invariant-loop-mark l = l.marks.items ≡ no_marks l._mark
