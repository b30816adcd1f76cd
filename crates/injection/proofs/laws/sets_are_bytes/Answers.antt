use Rattle.injection.proofs.Copies.{set_keeps}
use Rattle.injection.proofs.laws.sets_are_bytes.Goals as goal

pub returns : goal.returns
returns c = set_keeps
