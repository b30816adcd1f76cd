use Rattle.flat_code_laws.proofs.Fronts as fronts
use Rattle.flat_code_laws.proofs.laws.ever_appends.Goals as goal

pub returns : goal.returns
returns c = fronts.ever_appends
