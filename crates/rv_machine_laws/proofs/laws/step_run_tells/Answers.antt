use Rattle.rv_machine_laws.proofs.RunTells.{step_run_tells}
use Rattle.rv_machine_laws.proofs.laws.step_run_tells.Goals as goal

pub returns : goal.returns
returns c = step_run_tells
