use Rattle.flat_code_laws.proofs.Straight as straight
use Rattle.flat_code_laws.proofs.laws.straight_takes.Goals as goal

pub returns : goal.returns
returns c = straight.straight_takes
