use Rattle.rv_code.proofs.RoundTrip.{read_back}
use Rattle.rv_code.proofs.laws.reads_back.Goals as goal

pub returns : goal.returns
returns c = read_back
