use Rattle.typing_accepted.proofs.Refused.{declarators_fail_at_first}
use Rattle.typing_accepted.proofs.laws.declarators_fail_at_first.Goals as goal

pub returns : goal.returns
returns c = declarators_fail_at_first
