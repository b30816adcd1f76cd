use Rattle.std.proofs.Common.{sym, subst}
use Rattle.buddy_heap.specs.Places.{HaveExponents}
use Rattle.buddy_heap.proofs.Lists.{have_exponents}
use Rattle.buddy_heap.proofs.heap.Heap.place.Goals as goal

pub place_in-requires-clause-exponents : goal.place_in-requires-clause-exponents
place_in-requires-clause-exponents c =
    subst HaveExponents (sym c.deref.ensures.value) (have_exponents c.self.inside.blocks.items c.self.invariant.0)
