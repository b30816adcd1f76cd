use Rattle.flat_verify.specs.Reach.{rules_of}
use Rattle.flat_verify.proofs.Marks.{only_first}
use Rattle.flat_verify.proofs.reach.mark.Goals as goal

pub settle-requires-clause-reached : goal.settle-requires-clause-reached
settle-requires-clause-reached c = only_first (rules_of c.args.stretches.now) c.args.marks.now c.requires.none
