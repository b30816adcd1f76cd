use Rattle.injection.proofs.Copies.{copied_keeps}
use Rattle.injection.proofs.laws.copies_are_bytes.Goals as goal

pub returns : goal.returns
returns c = copied_keeps
