use Rattle.rv_machine_laws.proofs.Programs.{byte_back}
use Rattle.rv_machine_laws.proofs.laws.byte_read_back.Goals as goal

pub returns : goal.returns
returns c = byte_back
