use Rattle.std.proofs.Common.{◌≡◌, ◌++◌, drop, map}
use Rattle.block_layout.specs.Views.{block_of_spot}
use Rattle.block_layout.proofs.frame.blocks.Given as goal

abbrev pub invariant-loop-spot : goal.invariant-loop-spot
invariant-loop-spot l = l.blocks ++ map block_of_spot (drop l.spot-index l.spots) ≡ map block_of_spot l.spots
