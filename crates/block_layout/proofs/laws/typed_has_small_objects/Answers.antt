use Rattle.block_layout.proofs.Small.{typed_has_small_objects}
use Rattle.block_layout.proofs.laws.typed_has_small_objects.Goals as goal

pub returns : goal.returns
returns c = typed_has_small_objects c.types_are_small.ensures
