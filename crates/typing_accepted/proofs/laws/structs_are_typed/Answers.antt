use Rattle.typing_accepted.proofs.Same.{structs_are_typed}
use Rattle.typing_accepted.proofs.laws.structs_are_typed.Goals as goal

pub returns : goal.returns
returns c = structs_are_typed
