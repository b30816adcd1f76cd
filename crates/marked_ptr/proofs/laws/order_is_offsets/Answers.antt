use Rattle.marked_ptr.proofs.Moves as moves
use Rattle.marked_ptr.proofs.laws.order_is_offsets.Goals as goal

pub returns : goal.returns
returns c = moves.order_is_offsets
