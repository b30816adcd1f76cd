use Rattle.rv_image.proofs.Again.{image_again}
use Rattle.rv_image.proofs.laws.spelled_is_read.Goals as goal

pub returns : goal.returns
returns c = image_again
