use Rattle.lowering_keeps.proofs.FortyTwo.{forty_two_exits}
use Rattle.lowering_keeps.proofs.laws.forty_two_exits.Goals as goal

pub returns : goal.returns
returns c = forty_two_exits
