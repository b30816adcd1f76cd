use Rattle.injection.proofs.Values.{initializes_alike}
use Rattle.injection.proofs.laws.initializers_are_writes.Goals as goal

pub returns : goal.returns
returns c = initializes_alike
