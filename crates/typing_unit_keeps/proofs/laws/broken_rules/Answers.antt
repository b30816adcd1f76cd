use Rattle.typing_unit_keeps.proofs.SmallFiles.{broken_rules}
use Rattle.typing_unit_keeps.proofs.laws.broken_rules.Goals as goal

pub returns : goal.returns
returns c = broken_rules
