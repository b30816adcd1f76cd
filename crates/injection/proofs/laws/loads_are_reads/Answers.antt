use Rattle.injection.proofs.Values.{loads_alike}
use Rattle.injection.proofs.laws.loads_are_reads.Goals as goal

pub returns : goal.returns
returns c = λ g wide q memory w two h. loads_alike c.owner_is_block.ensures g memory w h wide q two
