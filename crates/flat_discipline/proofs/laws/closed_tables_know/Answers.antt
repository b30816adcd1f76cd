use Rattle.flat_discipline.proofs.Breaks as breaks
use Rattle.flat_discipline.proofs.laws.closed_tables_know.Goals as goal

pub returns : goal.returns
returns c = breaks.closed_tables_know
