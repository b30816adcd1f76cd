use Rattle.typing_accepted.proofs.Refused.{arguments_fail_at_first}
use Rattle.typing_accepted.proofs.laws.arguments_fail_at_first.Goals as goal

pub returns : goal.returns
returns c = arguments_fail_at_first
