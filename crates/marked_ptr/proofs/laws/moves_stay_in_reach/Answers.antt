use Rattle.marked_ptr.proofs.Moves as moves
use Rattle.marked_ptr.proofs.laws.moves_stay_in_reach.Goals as goal

pub returns : goal.returns
returns c = moves.moves_stay_in_reach
