use Rattle.bb_watch.proofs.Appends.{events_append}
use Rattle.bb_watch.proofs.laws.events_append.Goals as goal

pub returns : goal.returns
returns c = events_append
