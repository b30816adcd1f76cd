use Rattle.injection.proofs.Regions.{heights_made, heights_since, heap_made, other_made, regions_ended}
use Rattle.injection.proofs.laws.places_keep.Goals as goal

pub returns : goal.returns
returns c = record { heights_made = heights_made; heights_since = heights_since; heap_made = heap_made; other_made = other_made; regions_ended = regions_ended }
