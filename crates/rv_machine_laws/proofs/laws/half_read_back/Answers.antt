use Rattle.rv_machine_laws.proofs.Programs.{half_back}
use Rattle.rv_machine_laws.proofs.laws.half_read_back.Goals as goal

pub returns : goal.returns
returns c = half_back
