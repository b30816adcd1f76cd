use Rattle.flat_code_laws.proofs.Load as proofs
use Rattle.flat_code_laws.proofs.laws.load_sequence_stops.Goals as goal

pub returns : goal.returns
returns c = proofs.load_sequence_stops
