use Rattle.std.proofs.Common.{◌<◌}
use Rattle.std.specs.Prelude.{drop}
use Rattle.flat_verify.proofs.Outlined.{PlacedBehind}
use Rattle.flat_verify.proofs.outline.places_in.Given as goal

abbrev pub invariant-loop-link : goal.invariant-loop-link
invariant-loop-link l = record {
  some : 0 < l.places;
  placed : PlacedBehind l.places (drop l.link-index l.links) l.links;
}
