use Rattle.std.proofs.Common.{◌-◌}
use Rattle.buddy_heap.specs.Places.{blocks_of}
use Rattle.buddy_heap.proofs.Lists.{HasLeft}
use Rattle.buddy_heap.proofs.heap.place_in.Given as goal

abbrev pub invariant-loop-at : goal.invariant-loop-at
invariant-loop-at l = HasLeft (blocks_of l.list) l.e l.at

abbrev pub decreases-loop-at : goal.decreases-loop-at
decreases-loop-at l = 33554432 - l.at
