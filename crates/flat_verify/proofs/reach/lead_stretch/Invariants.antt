use Rattle.std.proofs.Common.{◌+◌, ◌-◌}
use Rattle.flat_verify.specs.Reach.{rules_from}
use Rattle.flat_verify.proofs.Marks.{Went}
use Rattle.flat_verify.proofs.reach.lead_stretch.Given as goal

abbrev pub invariant-loop-i : goal.invariant-loop-i
invariant-loop-i l =
    Went (rules_from l.stretch.from l.stretch.to l.stretch.count) (rules_from (l.stretch.from + l.i) (l.stretch.to + l.i) (l.stretch.count - l.i)) l.initial.marks l.marks l.changed
