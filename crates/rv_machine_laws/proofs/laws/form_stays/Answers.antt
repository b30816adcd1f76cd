use Rattle.rv_machine_laws.proofs.Forms.{step_formed}
use Rattle.rv_machine_laws.proofs.laws.form_stays.Goals as goal

pub returns : goal.returns
returns c = step_formed c.reads_only.ensures (record { place = c.place_is_least.ensures; exponent = c.exponent_is_least.ensures })
