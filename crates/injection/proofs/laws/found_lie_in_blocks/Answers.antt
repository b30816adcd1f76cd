use Rattle.injection.proofs.Spans.{found_lie_in}
use Rattle.injection.proofs.laws.found_lie_in_blocks.Goals as goal

pub returns : goal.returns
returns c = found_lie_in
