use Rattle.typed_tree.proofs.SizeLemmas.{array_is_elements}
use Rattle.typed_tree.proofs.typed_laws.array_is_elements.Goals as goal

pub returns : goal.returns
returns c = array_is_elements
