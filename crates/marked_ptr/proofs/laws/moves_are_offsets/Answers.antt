use Rattle.marked_ptr.proofs.Moves as moves
use Rattle.marked_ptr.proofs.laws.moves_are_offsets.Goals as goal

pub returns : goal.returns
returns c = moves.moves_are_offsets
