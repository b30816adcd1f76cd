use Rattle.buddy_heap.proofs.Places.{place_least}
use Rattle.buddy_heap.proofs.laws.place_is_least.Goals as goal

pub returns : goal.returns
returns c = place_least
