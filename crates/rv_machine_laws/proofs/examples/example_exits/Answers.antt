use Rattle.rv_machine_laws.proofs.ExampleRuns.{example_exits}
use Rattle.rv_machine_laws.proofs.examples.example_exits.Goals as goal

pub returns : goal.returns
returns c = example_exits c.reads_back.ensures
