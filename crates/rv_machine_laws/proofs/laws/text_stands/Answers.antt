use Rattle.std.proofs.Common.{◌∙◌, arith}
use Rattle.rv_machine_laws.proofs.TextLaws.{steps_text}
use Rattle.rv_machine_laws.proofs.Starts.{start_formed, start_byte, start_stands, stand_same}
use Rattle.rv_machine.specs.Start.{start_memory}
use Rattle.rv_machine_laws.proofs.laws.text_stands.Goals as goal

pub returns : goal.returns
returns c = λ image input n h initial bytes words.
    let fits = h.text_fits in
    stand_same image.text (start_memory image) _ 4096
    (λ i l. steps_text c.reads_only.ensures (record { place = c.place_is_least.ensures; exponent = c.exponent_is_least.ensures }) n image _ i h (start_formed image input h initial bytes) (omega (arith, l, fits)) ∙ start_byte image i)
    (start_stands image h words)
