use Rattle.flat_discipline.proofs.Recognized as recognized
use Rattle.flat_discipline.proofs.laws.sequences_are_items.Goals as goal

pub returns : goal.returns
returns c = recognized.sequences_are_items c.sequences_are_found.ensures
