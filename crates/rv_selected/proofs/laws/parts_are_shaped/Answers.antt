use Rattle.rv_selected.proofs.Shaped.{shaped}
use Rattle.rv_selected.proofs.laws.parts_are_shaped.Goals as goal

pub returns : goal.returns
returns c = shaped
