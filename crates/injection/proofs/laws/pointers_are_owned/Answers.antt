use Rattle.injection.proofs.Owners.{owned}
use Rattle.injection.proofs.laws.pointers_are_owned.Goals as goal

pub returns : goal.returns
returns c = owned c.owner_is_block.ensures
