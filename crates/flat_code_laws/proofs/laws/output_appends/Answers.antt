use Rattle.flat_code_laws.proofs.Fronts as fronts
use Rattle.flat_code_laws.proofs.laws.output_appends.Goals as goal

pub returns : goal.returns
returns c = fronts.output_appends
