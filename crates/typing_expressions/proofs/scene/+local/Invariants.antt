use Rattle.std.proofs.Common.{length}
use Rattle.typing_expressions.proofs.scene.+local.Given as goal

abbrev pub decreases-local : goal.decreases-local
decreases-local l = length l.scopes.now
