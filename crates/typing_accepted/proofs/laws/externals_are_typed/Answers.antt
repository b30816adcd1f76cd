use Rattle.typing_accepted.proofs.Same.{externals_are_typed}
use Rattle.typing_accepted.proofs.laws.externals_are_typed.Goals as goal

pub returns : goal.returns
returns c = externals_are_typed
