use Rattle.size_table.proofs.Fills.{is_filled}
use Rattle.size_table.proofs.laws.filling.Goals as goal

pub returns : goal.returns
returns c = is_filled
