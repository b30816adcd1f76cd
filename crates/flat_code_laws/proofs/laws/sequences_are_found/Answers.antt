use Rattle.flat_code_laws.proofs.Found as found
use Rattle.flat_code_laws.proofs.laws.sequences_are_found.Goals as goal

pub returns : goal.returns
returns c = found.sequences_are_found
