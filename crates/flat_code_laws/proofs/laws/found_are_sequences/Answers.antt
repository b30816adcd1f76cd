use Rattle.flat_code_laws.proofs.Found as found
use Rattle.flat_code_laws.proofs.laws.found_are_sequences.Goals as goal

pub returns : goal.returns
returns c = found.found_are_sequences
