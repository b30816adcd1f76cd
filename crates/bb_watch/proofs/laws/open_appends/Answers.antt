use Rattle.bb_watch.proofs.Appends.{open_append}
use Rattle.bb_watch.proofs.laws.open_appends.Goals as goal

pub returns : goal.returns
returns c = open_append
