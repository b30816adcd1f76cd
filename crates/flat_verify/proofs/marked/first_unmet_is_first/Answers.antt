use Rattle.flat_verify.proofs.Firsts.{function_first}
use Rattle.flat_verify.proofs.marked.first_unmet_is_first.Goals as goal

pub returns : goal.returns
returns c = λ g globals code T f fn at. function_first g globals code T f fn at
