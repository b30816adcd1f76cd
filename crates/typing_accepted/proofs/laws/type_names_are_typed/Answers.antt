use Rattle.typing_accepted.proofs.Same.{type_names_are_typed}
use Rattle.typing_accepted.proofs.laws.type_names_are_typed.Goals as goal

pub returns : goal.returns
returns c = type_names_are_typed
