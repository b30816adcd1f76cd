use Rattle.rv_machine_laws.proofs.Answering.{calls_keep}
use Rattle.rv_machine_laws.proofs.laws.calls_keep.Goals as goal

pub returns : goal.returns
returns c = calls_keep
