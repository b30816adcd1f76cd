use Rattle.rv_machine_laws.proofs.MemoryLaws.{only_told_change}
use Rattle.rv_machine_laws.proofs.laws.only_told_change.Goals as goal

pub returns : goal.returns
returns c = only_told_change (record { place = c.place_is_least.ensures; exponent = c.exponent_is_least.ensures })
