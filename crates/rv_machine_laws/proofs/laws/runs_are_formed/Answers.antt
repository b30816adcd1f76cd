use Rattle.rv_machine_laws.proofs.Forms.{steps_formed}
use Rattle.rv_machine_laws.proofs.Starts.{start_formed}
use Rattle.rv_machine_laws.proofs.laws.runs_are_formed.Goals as goal

pub returns : goal.returns
returns c = λ image input n h initial bytes. steps_formed c.reads_only.ensures (record { place = c.place_is_least.ensures; exponent = c.exponent_is_least.ensures }) n image _ h (start_formed image input h initial bytes)
