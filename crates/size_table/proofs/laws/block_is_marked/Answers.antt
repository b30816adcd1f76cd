use Rattle.size_table.proofs.Fills.{block_is_marked_so}
use Rattle.size_table.proofs.laws.block_is_marked.Goals as goal

pub returns : goal.returns
returns c = block_is_marked_so
