use Rattle.typing_accepted.proofs.Refused.{locals_fail_at_first}
use Rattle.typing_accepted.proofs.laws.locals_fail_at_first.Goals as goal

pub returns : goal.returns
returns c = locals_fail_at_first
