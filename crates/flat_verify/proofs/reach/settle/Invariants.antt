use Rattle.std.proofs.Common.{◌≡◌, true, length}
use Rattle.flat_verify.specs.Reach.{rules_of, is_marked, unmarked}
use Rattle.flat_verify.proofs.Marks.{AreReached}
use Rattle.flat_verify.proofs.reach.settle.Given as goal

abbrev pub invariant-pass : goal.invariant-pass
invariant-pass l = (length l.marks ≡ length l.initial.marks) × (is_marked l.marks 0 ≡ true) × AreReached (rules_of l.stretches) l.marks

abbrev pub decreases-pass : goal.decreases-pass
decreases-pass l = unmarked l.marks
