use Rattle.injection.proofs.Regions.{places_free}
use Rattle.injection.proofs.laws.places_are_free.Goals as goal

pub returns : goal.returns
returns c = places_free c.place_is_least.ensures c.one_place.ensures c.exponent_is_least.ensures
