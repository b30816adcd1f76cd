use Rattle.std.specs.Prelude.{drop}
use Rattle.flat_verify.proofs.Outlined.{RangedBehind}
use Rattle.flat_verify.proofs.outline.ranges_in.Given as goal

abbrev pub invariant-loop-link : goal.invariant-loop-link
invariant-loop-link l = RangedBehind l.ranges.items (drop l.link-index l.links) l.links
