use Rattle.flat_verify.proofs.Outlined.{pushed_there, pushed_kept}
use Rattle.flat_verify.proofs.outline.push_range.Goals as goal

pub returns-in_ok-push-in-None-clause-there : goal.returns-in_ok-push-in-None-clause-there
returns-in_ok-push-in-None-clause-there c = pushed_there c.args.ranges.now.items _ c.args.range c.in_ok-push-in-None.ensures.items

pub returns-in_ok-push-in-None-clause-kept : goal.returns-in_ok-push-in-None-clause-kept
returns-in_ok-push-in-None-clause-kept c = pushed_kept c.args.ranges.now.items _ c.args.range c.in_ok-push-in-None.ensures.items
