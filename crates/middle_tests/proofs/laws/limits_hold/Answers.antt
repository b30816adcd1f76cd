use Rattle.middle_tests.proofs.Worked.{limits}
use Rattle.middle_tests.proofs.laws.limits_hold.Goals as goal

pub returns : goal.returns
returns c = limits
