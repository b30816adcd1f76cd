use Rattle.injection.proofs.Values.{stores_alike}
use Rattle.injection.proofs.laws.stores_are_writes.Goals as goal

pub returns : goal.returns
returns c = stores_alike
