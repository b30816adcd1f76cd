use Rattle.std.proofs.Common.{refl}
use Rattle.typed_tree.proofs.TypedPrograms.{forty_two_is_typed}
use Rattle.typed_tree.proofs.typed_laws.forty_two.Goals as goal

pub returns : goal.returns
returns c = (forty_two_is_typed, refl)
