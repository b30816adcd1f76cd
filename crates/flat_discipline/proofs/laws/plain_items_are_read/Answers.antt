use Rattle.flat_discipline.proofs.ReadBack as read_back
use Rattle.flat_discipline.proofs.laws.plain_items_are_read.Goals as goal

pub returns : goal.returns
returns c = read_back.plain_items_are_read c.sequences_are_found.ensures
