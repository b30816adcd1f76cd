use Rattle.flat_discipline.proofs.Breaks as breaks
use Rattle.flat_discipline.proofs.laws.exact_tables_tell.Goals as goal

pub returns : goal.returns
returns c = breaks.exact_tables_tell
