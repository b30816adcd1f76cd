use Rattle.std.proofs.Common.{◌≡◌, ◌+◌, length}
use Rattle.buddy_heap.specs.Places.{count_to}
use Rattle.buddy_heap.proofs.heap.count_to.Given as goal

abbrev pub invariant-loop-list : goal.invariant-loop-list
invariant-loop-list l = record {
  same : l.count + count_to l.at l.list ≡ count_to l.at l.initial.list;
  few : l.count + length l.list ≡ length l.initial.list;
}

abbrev pub decreases-loop-list : goal.decreases-loop-list
decreases-loop-list l = length l.list
