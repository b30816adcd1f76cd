use Rattle.injection.proofs.Owners.{owner_has_exponent}
use Rattle.injection.proofs.laws.owners_have_exponents.Goals as goal

pub returns : goal.returns
returns c = owner_has_exponent c.owner_is_block.ensures
