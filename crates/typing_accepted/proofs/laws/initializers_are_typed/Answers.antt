use Rattle.typing_accepted.proofs.Same.{initializers_are_typed}
use Rattle.typing_accepted.proofs.laws.initializers_are_typed.Goals as goal

pub returns : goal.returns
returns c = initializers_are_typed
