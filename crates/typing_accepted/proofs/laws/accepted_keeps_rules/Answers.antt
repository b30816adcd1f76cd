use Rattle.typing_accepted.proofs.Same.{accepted_keeps_rules}
use Rattle.typing_accepted.proofs.laws.accepted_keeps_rules.Goals as goal

pub returns : goal.returns
returns c = accepted_keeps_rules c.files_are_typed.ensures
