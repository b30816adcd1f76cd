use Rattle.rv_image.proofs.Found.{image_takes}
use Rattle.rv_image.proofs.laws.read_is_spelled.Goals as goal

pub returns : goal.returns
returns c = λ bytes image fits e. let found = image_takes bytes image fits e in (found.rules, found.words, found.spelled)
