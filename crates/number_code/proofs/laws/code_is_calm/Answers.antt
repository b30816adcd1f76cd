use Rattle.number_code.proofs.CalmCode.{code_calm}
use Rattle.number_code.proofs.laws.code_is_calm.Goals as goal

pub returns : goal.returns
returns c = code_calm
