use Rattle.typed_tree.proofs.TypedPrograms.{mixed_is_right}
use Rattle.typed_tree.proofs.typed_laws.mixed.Goals as goal

pub returns : goal.returns
returns c = mixed_is_right
