use Rattle.flat_code_laws.proofs.Traps as traps
use Rattle.flat_code_laws.proofs.laws.traps_are_of_accesses.Goals as goal

pub returns : goal.returns
returns c = traps.traps_are_of_accesses
