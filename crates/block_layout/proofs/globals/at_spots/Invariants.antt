use Rattle.std.proofs.Common.{◌≡◌, ◌++◌, drop, map}
use Rattle.block_layout.specs.Views.{global_of_spot}
use Rattle.block_layout.proofs.globals.at_spots.Given as goal

abbrev pub invariant-loop-spot : goal.invariant-loop-spot
invariant-loop-spot l = l.placed ++ map (global_of_spot l.named) (drop l.spot-index l.spots) ≡ map (global_of_spot l.named) l.spots
