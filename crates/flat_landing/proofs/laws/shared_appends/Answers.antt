use Rattle.flat_landing.proofs.Fronts as fronts
use Rattle.flat_landing.proofs.laws.shared_appends.Goals as goal

pub returns : goal.returns
returns c = fronts.shared_append
