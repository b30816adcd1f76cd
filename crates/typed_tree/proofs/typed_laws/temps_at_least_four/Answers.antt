use Rattle.typed_tree.proofs.TypedLemmas.{temps_at_least_four}
use Rattle.typed_tree.proofs.typed_laws.temps_at_least_four.Goals as goal

pub returns : goal.returns
returns c = temps_at_least_four
