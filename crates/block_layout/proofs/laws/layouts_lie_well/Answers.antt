use Rattle.block_layout.proofs.Places.{layouts_lie_well}
use Rattle.block_layout.proofs.laws.layouts_lie_well.Goals as goal

pub returns : goal.returns
returns c = layouts_lie_well c.exponent_is_least.ensures
