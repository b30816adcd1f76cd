use Rattle.rv_machine_laws.proofs.SafeRuns.{accesses_are_high}
use Rattle.rv_machine_laws.proofs.laws.safe_accesses_are_high.Goals as goal

pub returns : goal.returns
returns c = accesses_are_high (record { place = c.place_is_least.ensures; exponent = c.exponent_is_least.ensures })
