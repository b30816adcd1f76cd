use Rattle.flat_discipline.proofs.Worked as worked
use Rattle.flat_discipline.proofs.laws.examples_break.Goals as goal

pub returns : goal.returns
returns c = worked.examples_break
