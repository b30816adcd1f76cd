use Rattle.flat_verify.proofs.Outlined.{ranged_in, ranged_end}
use Rattle.flat_verify.proofs.outline.ranges_in.Goals as goal

pub loop-link-init : goal.loop-link-init
loop-link-init c = λ rs grow rest. rest

pub loop-link-preserved : goal.loop-link-preserved
loop-link-preserved c =
    ranged_in c.loop-link.ranges.items _ c.args.links.now c.loop-link.link-index _ c.args.links.now c.loop-link-test.true c.link-item.is c.in_ok-push_range_in.ensures.kept c.in_ok-push_range_in.ensures.there c.loop-link.invariant

pub returns : goal.returns
returns c = ranged_end _ c.args.links.now c.loop-link.link-index c.args.links.now c.loop-link-test.false c.loop-link.invariant
