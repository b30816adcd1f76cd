use Rattle.flat_code_laws.proofs.Fronts as fronts
use Rattle.flat_code_laws.proofs.laws.all_by_later.Goals as goal

pub returns : goal.returns
returns c = fronts.all_by_later
