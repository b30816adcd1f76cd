use Rattle.bb_watch.proofs.Appends.{live_append}
use Rattle.bb_watch.proofs.laws.live_appends.Goals as goal

pub returns : goal.returns
returns c = live_append
