use Rattle.std.proofs.Common.{arith}
use Rattle.rv_asm.proofs.Settled.{place_is, emit_more}
use Rattle.rv_asm.proofs.resolve.words_of.Goals as goal

pub push_part-requires-clause-places : goal.push_part-requires-clause-places
push_part-requires-clause-places c =
    let at = place_is c.args.parts.now c.args.places.now c.requires.parts c.requires.stay in
    (at c.loop-k.k (omega (arith, c.loop-k-test.true)), at _ (c.requires.targets.within c.loop-k.k c.loop-k-test.true))

pub loop-k-preserved : goal.loop-k-preserved
loop-k-preserved c = (
  emit_more c.args.parts.now c.args.places.now c.requires.parts c.requires.stay c.loop-k.k c.loop-k-test.true c.args.targets.now (c.requires.targets.each c.loop-k.k c.loop-k-test.true) c.loop-k.text.items c.push_part.new.text.items _ c.in_ok-push_part.ensures.text c.loop-k.invariant.0,
  c.push_part.ensures.words c.loop-k.invariant.1,
)
