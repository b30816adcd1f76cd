use Rattle.typed_tree.proofs.SizeLemmas.{none_in_itself}
use Rattle.typed_tree.proofs.typed_laws.none_in_itself.Goals as goal

pub returns : goal.returns
returns c = none_in_itself
