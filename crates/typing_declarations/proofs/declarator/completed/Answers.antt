use Rattle.std.proofs.Common.{arith}
use Rattle.typing_expressions.proofs.Steps.{parts_pushed}
use Rattle.typing_declarations.proofs.declarator.completed.Goals as goal

pub returns-in_ok-insert-in-None-2 : goal.returns-in_ok-insert-in-None-2
returns-in_ok-insert-in-None-2 c = grind (arith, parts_pushed)

pub returns-in_ok-insert-in-Some : goal.returns-in_ok-insert-in-Some
returns-in_ok-insert-in-Some c = grind (arith, parts_pushed)
