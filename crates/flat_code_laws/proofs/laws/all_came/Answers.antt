use Rattle.flat_code_laws.proofs.Advance as advance
use Rattle.flat_code_laws.proofs.laws.all_came.Goals as goal

pub returns : goal.returns
returns c = advance.all_came
