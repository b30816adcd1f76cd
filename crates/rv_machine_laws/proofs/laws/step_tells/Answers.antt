use Rattle.rv_machine_laws.proofs.Tells.{step_told}
use Rattle.rv_machine_laws.proofs.laws.step_tells.Goals as goal

pub returns : goal.returns
returns c = step_told
