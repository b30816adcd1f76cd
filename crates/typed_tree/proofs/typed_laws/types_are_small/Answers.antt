use Rattle.typed_tree.proofs.TypedLemmas.{types_are_small}
use Rattle.typed_tree.proofs.typed_laws.types_are_small.Goals as goal

pub returns : goal.returns
returns c = types_are_small
