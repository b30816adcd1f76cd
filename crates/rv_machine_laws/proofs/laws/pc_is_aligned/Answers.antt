use Rattle.rv_machine_laws.proofs.Aligned.{runs_aligned}
use Rattle.rv_machine_laws.proofs.laws.pc_is_aligned.Goals as goal

pub returns : goal.returns
returns c = runs_aligned
