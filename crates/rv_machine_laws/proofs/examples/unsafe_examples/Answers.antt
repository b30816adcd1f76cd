use Rattle.rv_machine_laws.proofs.ExampleRuns.{unsafe_examples}
use Rattle.rv_machine_laws.proofs.examples.unsafe_examples.Goals as goal

pub returns : goal.returns
returns c = unsafe_examples c.clauses_refuse.ensures
