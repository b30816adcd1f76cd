use Rattle.typing_accepted.proofs.Same.{statements_are_typed}
use Rattle.typing_accepted.proofs.laws.statements_are_typed.Goals as goal

pub returns : goal.returns
returns c = statements_are_typed
