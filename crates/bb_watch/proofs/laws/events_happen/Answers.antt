use Rattle.bb_watch.proofs.Appends.{events_happen}
use Rattle.bb_watch.proofs.laws.events_happen.Goals as goal

pub returns : goal.returns
returns c = events_happen
