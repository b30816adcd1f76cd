use Rattle.bb_watch.proofs.Appends.{output_append}
use Rattle.bb_watch.proofs.laws.output_appends.Goals as goal

pub returns : goal.returns
returns c = output_append
