use Rattle.rv_image.proofs.Again.{image_goes_on}
use Rattle.rv_image.proofs.laws.goes_on.Goals as goal

pub returns : goal.returns
returns c = image_goes_on
