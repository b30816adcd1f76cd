use Rattle.flat_discipline.proofs.Breaks as breaks
use Rattle.flat_discipline.proofs.laws.first_is_one.Goals as goal

pub returns : goal.returns
returns c = breaks.first_is_one
