use Rattle.rv_asm.proofs.Growing.{AreNextTo}
use Rattle.rv_asm.proofs.places.place_parts.Given as goal

abbrev pub invariant-loop-k : goal.invariant-loop-k
invariant-loop-k l = AreNextTo l.parts l.places l.next l.k
