use Rattle.rv_selected.proofs.Labels.{once}
use Rattle.rv_selected.proofs.laws.labels_stand_once.Goals as goal

pub returns : goal.returns
returns c = once
