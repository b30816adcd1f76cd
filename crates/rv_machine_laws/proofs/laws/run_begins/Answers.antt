use Rattle.rv_machine_laws.proofs.RunTells.{run_begins}
use Rattle.rv_machine_laws.proofs.laws.run_begins.Goals as goal

pub returns : goal.returns
returns c = run_begins
