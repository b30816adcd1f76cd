use Rattle.typed_tree.proofs.SizeLemmas.{members_lie_within}
use Rattle.typed_tree.proofs.typed_laws.members_lie_within.Goals as goal

pub returns : goal.returns
returns c = members_lie_within
