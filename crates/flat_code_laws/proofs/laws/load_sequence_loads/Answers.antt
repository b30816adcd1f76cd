use Rattle.flat_code_laws.proofs.Load as load
use Rattle.flat_code_laws.proofs.laws.load_sequence_loads.Goals as goal

pub returns : goal.returns
returns c = load.load_sequence_loads
