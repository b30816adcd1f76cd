use Rattle.rv_machine_laws.proofs.RunTells.{run_goes_on}
use Rattle.rv_machine_laws.proofs.laws.run_goes_on.Goals as goal

pub returns : goal.returns
returns c = run_goes_on
