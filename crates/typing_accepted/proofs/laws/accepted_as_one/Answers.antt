use Rattle.typing_accepted.proofs.Same.{accepted_as_one}
use Rattle.typing_accepted.proofs.laws.accepted_as_one.Goals as goal

pub returns : goal.returns
returns c = accepted_as_one
