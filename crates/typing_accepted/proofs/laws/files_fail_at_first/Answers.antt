use Rattle.typing_accepted.proofs.Refused.{files_fail_at_first}
use Rattle.typing_accepted.proofs.laws.files_fail_at_first.Goals as goal

pub returns : goal.returns
returns c = files_fail_at_first
