use Rattle.typing_accepted.proofs.Same.{accepted_is_typed}
use Rattle.typing_accepted.proofs.laws.accepted_is_typed.Goals as goal

pub returns : goal.returns
returns c = accepted_is_typed
