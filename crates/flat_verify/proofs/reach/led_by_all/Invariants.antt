use Rattle.std.proofs.Common.{drop}
use Rattle.flat_verify.specs.Reach.{rules_of}
use Rattle.flat_verify.proofs.Marks.{Went}
use Rattle.flat_verify.proofs.reach.led_by_all.Given as goal

abbrev pub invariant-loop-stretch : goal.invariant-loop-stretch
invariant-loop-stretch l = Went (rules_of l.stretches) (rules_of (drop l.stretch-index l.stretches)) l.initial.marks l.marks l.changed
