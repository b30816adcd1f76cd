use Rattle.typing_accepted.proofs.Same.{arguments_are_typed}
use Rattle.typing_accepted.proofs.laws.arguments_are_typed.Goals as goal

pub returns : goal.returns
returns c = arguments_are_typed
