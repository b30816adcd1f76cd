use Rattle.flat_code_laws.proofs.Fronts as fronts
use Rattle.flat_code_laws.proofs.laws.fronts_compare.Goals as goal

pub returns : goal.returns
returns c = fronts.fronts_compare
