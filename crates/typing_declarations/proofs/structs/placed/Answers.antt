use Rattle.std.proofs.Common.{arith}
use Rattle.std.proofs.lemmas.Grind.{common_steps}
use Rattle.typing_expressions.proofs.Pushed.{members_pushed}
use Rattle.typing_declarations.proofs.structs.placed.Goals as goal

pub loop-member-preserved : goal.loop-member-preserved
loop-member-preserved c = grind (arith, common_steps, members_pushed)
