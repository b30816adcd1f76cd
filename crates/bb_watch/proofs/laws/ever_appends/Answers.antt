use Rattle.bb_watch.proofs.Appends.{ever_append}
use Rattle.bb_watch.proofs.laws.ever_appends.Goals as goal

pub returns : goal.returns
returns c = ever_append
