use Rattle.typed_tree.proofs.SizeLemmas.{complete_lies_aligned}
use Rattle.typed_tree.proofs.typed_laws.complete_lies_aligned.Goals as goal

pub returns : goal.returns
returns c = complete_lies_aligned
