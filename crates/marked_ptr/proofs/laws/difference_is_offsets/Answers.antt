use Rattle.marked_ptr.proofs.Moves as moves
use Rattle.marked_ptr.proofs.laws.difference_is_offsets.Goals as goal

pub returns : goal.returns
returns c = moves.difference_is_offsets
