use Rattle.std.proofs.Common.{ap, subst, ◌∙◌, arith}
use Rattle.rv_image.specs.Reading.{Gives, image_of}
use Rattle.rv_image.proofs.Found.{is_found}
use Rattle.rv_image.proofs.Again.{image_again}
use Rattle.rv_image.proofs.reading.read.Goals as goal

pub returns-clause-found : goal.returns-clause-found
returns-clause-found c = is_found c.args.bytes.now c.image.result (λ i. omega (arith, c.type_inv.bytes i)) c.image.ensures

pub returns-clause-only : goal.returns-clause-only
returns-clause-only c = λ found rules words e. subst (λ read. Gives c.image.result read) (ap image_of e ∙ image_again found rules words) c.image.ensures
