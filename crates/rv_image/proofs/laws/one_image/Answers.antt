use Rattle.std.proofs.Common.{sym, ap, ◌∙◌}
use Rattle.rv_image.specs.Reading.{image_of}
use Rattle.rv_image.proofs.Fields.{ok_is}
use Rattle.rv_image.proofs.Again.{image_again}
use Rattle.rv_image.proofs.laws.one_image.Goals as goal

pub returns : goal.returns
returns c = λ a b first second words words' e. ok_is a b (sym (image_again a first words) ∙ ap image_of e ∙ image_again b second words')
