use Rattle.flat_code_laws.proofs.Advance as advance
use Rattle.flat_code_laws.proofs.laws.steps_advance.Goals as goal

pub returns : goal.returns
returns c = advance.steps_advance
