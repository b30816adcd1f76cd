use Rattle.injection.proofs.Heap.{allocates_alike}
use Rattle.injection.proofs.Regions.{places_free}
use Rattle.injection.proofs.laws.allocations_are_of_blocks.Goals as goal

pub returns : goal.returns
returns c = allocates_alike (places_free c.place_is_least.ensures c.one_place.ensures c.exponent_is_least.ensures)
