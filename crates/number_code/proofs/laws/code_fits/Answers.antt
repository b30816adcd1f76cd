use Rattle.number_code.proofs.Whole.{code_fit}
use Rattle.number_code.proofs.laws.code_fits.Goals as goal

pub returns : goal.returns
returns c = code_fit c.plain_items_are_read.ensures
