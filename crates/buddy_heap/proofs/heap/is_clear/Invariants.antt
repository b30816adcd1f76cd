use Rattle.std.proofs.Common.{◌≡◌, length}
use Rattle.size_table.specs.Blocks.{block_at}
use Rattle.buddy_heap.specs.Places.{is_clear, blocks_of, HaveExponents}
use Rattle.buddy_heap.proofs.heap.is_clear.Given as goal

abbrev pub invariant-loop-list : goal.invariant-loop-list
invariant-loop-list l = record {
  same : is_clear (block_at l.base l.e) (blocks_of l.list) ≡ is_clear (block_at l.base l.e) (blocks_of l.initial.list);
  exponents : HaveExponents l.list;
}

abbrev pub decreases-loop-list : goal.decreases-loop-list
decreases-loop-list l = length l.list
