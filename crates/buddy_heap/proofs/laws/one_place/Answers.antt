use Rattle.buddy_heap.proofs.Places.{one_place}
use Rattle.buddy_heap.proofs.laws.one_place.Goals as goal

pub returns : goal.returns
returns c = one_place
