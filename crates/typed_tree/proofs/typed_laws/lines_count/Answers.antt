use Rattle.typed_tree.proofs.Refused.{lines_count}
use Rattle.typed_tree.proofs.typed_laws.lines_count.Goals as goal

pub returns : goal.returns
returns c = lines_count
