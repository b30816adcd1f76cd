use Rattle.typing_unit_keeps.proofs.UnitTyped.{files_are_typed}
use Rattle.typing_unit_keeps.proofs.laws.files_are_typed.Goals as goal

pub returns : goal.returns
returns c = files_are_typed (record { operators = c.operators_are_sound.ensures; within = c.members_lie_within.ensures; apart = c.members_lie_apart.ensures })
