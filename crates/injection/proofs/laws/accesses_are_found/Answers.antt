use Rattle.injection.proofs.Access.{accesses_alike}
use Rattle.injection.proofs.laws.accesses_are_found.Goals as goal

pub returns : goal.returns
returns c = accesses_alike
