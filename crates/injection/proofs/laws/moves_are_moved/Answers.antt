use Rattle.injection.proofs.Owners.{moves_alike}
use Rattle.injection.proofs.laws.moves_are_moved.Goals as goal

pub returns : goal.returns
returns c = λ g site line d slot q w out f small own. moves_alike c.owner_is_block.ensures c.moves_are_offsets.ensures g site line d slot w out small q f own
