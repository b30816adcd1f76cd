use Rattle.typed_tree.proofs.Refused.{not_typed}
use Rattle.typed_tree.proofs.typed_laws.not_typed.Goals as goal

pub returns : goal.returns
returns c = not_typed
