use Rattle.injection.proofs.Frames.{enters}
use Rattle.injection.proofs.laws.entries_keep.Goals as goal

pub returns : goal.returns
returns c = enters
