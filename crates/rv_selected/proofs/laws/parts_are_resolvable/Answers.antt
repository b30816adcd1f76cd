use Rattle.rv_selected.proofs.Resolvable.{resolvable}
use Rattle.rv_selected.proofs.laws.parts_are_resolvable.Goals as goal

pub returns : goal.returns
returns c = resolvable
