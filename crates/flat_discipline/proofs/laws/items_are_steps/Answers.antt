use Rattle.flat_discipline.proofs.Recognized as recognized
use Rattle.flat_discipline.proofs.laws.items_are_steps.Goals as goal

pub returns : goal.returns
returns c = recognized.items_are_steps
