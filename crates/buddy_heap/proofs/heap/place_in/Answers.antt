use Rattle.std.proofs.Common.{sym}
use Rattle.buddy_heap.specs.Places.{blocks_of}
use Rattle.buddy_heap.proofs.Lists.{left_first, left_room, left_found, left_next, left_none}
use Rattle.buddy_heap.proofs.heap.place_in.Goals as goal

pub loop-at-init : goal.loop-at-init
loop-at-init c = left_first (blocks_of c.args.list.now) c.args.e c.requires.most

pub is_clear-requires-clause-within : goal.is_clear-requires-clause-within
is_clear-requires-clause-within c = left_room (blocks_of c.args.list.now) c.args.e c.loop-at.at c.loop-at-test.true c.loop-at.invariant

pub returns-then-is_clear : goal.returns-then-is_clear
returns-then-is_clear c = left_found (blocks_of c.args.list.now) c.args.e c.loop-at.at c.loop-at-test.true (sym c.if-is_clear.ensures) c.loop-at.invariant

pub loop-at-preserved : goal.loop-at-preserved
loop-at-preserved c = left_next (blocks_of c.args.list.now) c.args.e c.loop-at.at c.requires.most c.loop-at-test.true (sym c.if-is_clear.ensures) c.loop-at.invariant

pub returns : goal.returns
returns c = left_none (blocks_of c.args.list.now) c.args.e c.loop-at.at c.loop-at-test.false c.loop-at.invariant
