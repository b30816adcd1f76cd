use Rattle.flat_landing.proofs.Landed as landed
use Rattle.flat_landing.proofs.laws.kept_more.Goals as goal

pub returns : goal.returns
returns c = landed.kept_more c.told_grows.ensures
