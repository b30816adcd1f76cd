use Rattle.rv_machine_laws.proofs.MadeLaws.{made_is_zero}
use Rattle.rv_machine_laws.proofs.laws.made_is_zero.Goals as goal

pub returns : goal.returns
returns c = made_is_zero (record { place = c.place_is_least.ensures; exponent = c.exponent_is_least.ensures })
