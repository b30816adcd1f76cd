use Rattle.rv_machine.proofs.Tables.{written_other}
use Rattle.rv_machine_laws.proofs.laws.others_stay.Goals as goal

pub returns : goal.returns
returns c = written_other
