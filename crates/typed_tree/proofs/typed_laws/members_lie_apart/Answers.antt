use Rattle.typed_tree.proofs.SizeLemmas.{members_lie_apart}
use Rattle.typed_tree.proofs.typed_laws.members_lie_apart.Goals as goal

pub returns : goal.returns
returns c = members_lie_apart
