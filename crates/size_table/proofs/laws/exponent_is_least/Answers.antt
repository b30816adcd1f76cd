use Rattle.size_table.proofs.Pads as pads
use Rattle.size_table.proofs.laws.exponent_is_least.Goals as goal

pub returns : goal.returns
returns c = pads.exponent_is_least
