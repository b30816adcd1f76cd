use Rattle.injection.proofs.Regions.{frees_alike}
use Rattle.injection.proofs.laws.frees_are_of_blocks.Goals as goal

pub returns : goal.returns
returns c = frees_alike c.words_are_not_null.ensures
