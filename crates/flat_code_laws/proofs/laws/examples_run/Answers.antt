use Rattle.flat_code_laws.proofs.Worked as proofs
use Rattle.flat_code_laws.proofs.laws.examples_run.Goals as goal

pub returns : goal.returns
returns c = proofs.examples_run
