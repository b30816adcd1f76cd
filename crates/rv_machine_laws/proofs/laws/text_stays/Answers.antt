use Rattle.std.proofs.Common.{◌∙◌}
use Rattle.rv_machine_laws.proofs.TextLaws.{steps_text}
use Rattle.rv_machine_laws.proofs.Starts.{start_formed, start_byte}
use Rattle.rv_machine_laws.proofs.laws.text_stays.Goals as goal

pub returns : goal.returns
returns c = λ image input n at h initial bytes low. steps_text c.reads_only.ensures (record { place = c.place_is_least.ensures; exponent = c.exponent_is_least.ensures }) n image _ at h (start_formed image input h initial bytes) low ∙ start_byte image at
