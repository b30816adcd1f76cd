use Rattle.std.proofs.Common.{arith}
use Rattle.flat_verify.proofs.Outlined.{placed_in, placed_end}
use Rattle.flat_verify.proofs.outline.places_in.Goals as goal

pub loop-link-init : goal.loop-link-init
loop-link-init c = record { some = omega arith; placed = λ m le rest. rest }

pub loop-link-preserved : goal.loop-link-preserved
loop-link-preserved c = record {
  some = omega (arith, c.loop-link.invariant.some, c.place_past-places.ensures.more);
  placed = placed_in _ _ c.args.links.now c.loop-link.link-index _ c.args.links.now c.loop-link-test.true c.link-item.is c.place_past-places.ensures.more c.place_past-places.ensures.placed c.loop-link.invariant.placed;
}

pub returns : goal.returns
returns c = record {
  some = c.loop-link.invariant.some;
  placed = placed_end _ c.args.links.now c.loop-link.link-index c.args.links.now c.loop-link-test.false c.loop-link.invariant.placed;
}
