use Rattle.std.proofs.Common.{◌≡◌, ◌+◌, length}
use Rattle.buddy_heap.specs.Places.{index_of, plus}
use Rattle.buddy_heap.proofs.heap.index_of.Given as goal

abbrev pub invariant-loop-list : goal.invariant-loop-list
invariant-loop-list l = record {
  same : plus l.index (index_of l.at l.list) ≡ index_of l.at l.initial.list;
  few : l.index + length l.list ≡ length l.initial.list;
}

abbrev pub decreases-loop-list : goal.decreases-loop-list
decreases-loop-list l = length l.list
