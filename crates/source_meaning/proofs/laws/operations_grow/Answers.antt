use Rattle.source_meaning.proofs.Operations.{operations_grow as lemma}
use Rattle.source_meaning.proofs.laws.operations_grow.Goals as goal

pub returns : goal.returns
returns c = lemma
