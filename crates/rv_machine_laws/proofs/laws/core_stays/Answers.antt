use Rattle.rv_machine_laws.proofs.Cores.{step_core}
use Rattle.rv_machine_laws.proofs.laws.core_stays.Goals as goal

pub returns : goal.returns
returns c = step_core c.reads_only.ensures
