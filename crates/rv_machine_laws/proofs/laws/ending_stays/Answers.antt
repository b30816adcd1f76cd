use Rattle.rv_machine.proofs.Steps.{steps_stay}
use Rattle.rv_machine_laws.proofs.laws.ending_stays.Goals as goal

pub returns : goal.returns
returns c = steps_stay
