use Rattle.std.proofs.Common.{◌≡◌, length}
use Rattle.buddy_heap.specs.Places.{blocks_of}
use Rattle.source_meaning.specs.Places.{starts_at}
use Rattle.source_meaning.proofs.places.is_live.Given as goal

abbrev pub invariant-loop-list : goal.invariant-loop-list
invariant-loop-list l = starts_at l.at (blocks_of l.list) ≡ starts_at l.at (blocks_of l.initial.list)

abbrev pub decreases-loop-list : goal.decreases-loop-list
decreases-loop-list l = length l.list
