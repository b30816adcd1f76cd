use Rattle.mid_code.proofs.Examples as small
use Rattle.mid_code.proofs.laws.examples.Goals as goal

pub returns : goal.returns
returns c = small.examples
