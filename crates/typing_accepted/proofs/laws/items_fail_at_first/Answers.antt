use Rattle.typing_accepted.proofs.Refused.{items_fail_at_first}
use Rattle.typing_accepted.proofs.laws.items_fail_at_first.Goals as goal

pub returns : goal.returns
returns c = items_fail_at_first
