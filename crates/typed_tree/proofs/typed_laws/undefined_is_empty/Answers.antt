use Rattle.typed_tree.proofs.TypedLemmas.{undefined_is_empty}
use Rattle.typed_tree.proofs.typed_laws.undefined_is_empty.Goals as goal

pub returns : goal.returns
returns c = undefined_is_empty
