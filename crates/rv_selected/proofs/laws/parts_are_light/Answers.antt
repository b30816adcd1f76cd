use Rattle.rv_selected.proofs.Sizes.{light}
use Rattle.rv_selected.proofs.laws.parts_are_light.Goals as goal

pub returns : goal.returns
returns c = light
