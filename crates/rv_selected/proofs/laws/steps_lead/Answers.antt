use Rattle.rv_selected.proofs.Leading.{steps_lead}
use Rattle.rv_selected.proofs.laws.steps_lead.Goals as goal

pub returns : goal.returns
returns c = steps_lead
