use Rattle.flat_code_laws.proofs.Fronts as fronts
use Rattle.flat_code_laws.proofs.laws.tells_append.Goals as goal

pub returns : goal.returns
returns c = fronts.tells_append
