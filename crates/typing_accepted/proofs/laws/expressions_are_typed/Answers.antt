use Rattle.typing_accepted.proofs.Same.{expressions_are_typed}
use Rattle.typing_accepted.proofs.laws.expressions_are_typed.Goals as goal

pub returns : goal.returns
returns c = expressions_are_typed
