use Rattle.flat_discipline.proofs.Accepts as accepts
use Rattle.flat_discipline.proofs.laws.derivations_are_accepted.Goals as goal

pub returns : goal.returns
returns c = accepts.derivations_are_accepted
