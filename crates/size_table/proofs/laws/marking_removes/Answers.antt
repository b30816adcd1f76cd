use Rattle.size_table.proofs.Tables.{removes}
use Rattle.size_table.proofs.laws.marking_removes.Goals as goal

pub returns : goal.returns
returns c = removes
