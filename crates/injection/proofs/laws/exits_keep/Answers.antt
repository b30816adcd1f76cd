use Rattle.injection.proofs.Frames.{exits}
use Rattle.injection.proofs.laws.exits_keep.Goals as goal

pub returns : goal.returns
returns c = exits
