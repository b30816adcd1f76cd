use Rattle.size_table.proofs.Tables.{adds}
use Rattle.size_table.proofs.laws.marking_adds.Goals as goal

pub returns : goal.returns
returns c = adds
