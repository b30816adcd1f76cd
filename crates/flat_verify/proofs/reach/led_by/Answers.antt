use Rattle.std.proofs.Common.{rules}
use Rattle.flat_verify.proofs.Marks.{fewer_unmarked}
use Rattle.flat_verify.proofs.reach.led_by.Goals as goal

pub returns-then-not-marks-to-clause-fewer : goal.returns-then-not-marks-to-clause-fewer
returns-then-not-marks-to-clause-fewer c = λ _. fewer_unmarked c.args.marks.now c.args.to c.requires (search rules)
