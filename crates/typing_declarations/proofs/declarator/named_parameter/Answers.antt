use Rattle.std.proofs.Common.{arith}
use Rattle.std.proofs.lemmas.Grind.{common_steps}
use Rattle.typing_expressions.proofs.Pushed.{params_pushed}
use Rattle.typing_declarations.proofs.declarator.named_parameter.Goals as goal

pub returns : goal.returns
returns c = grind (arith, common_steps, params_pushed)
