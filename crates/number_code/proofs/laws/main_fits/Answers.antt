use Rattle.number_code.proofs.Whole.{main_fit}
use Rattle.number_code.proofs.laws.main_fits.Goals as goal

pub returns : goal.returns
returns c = main_fit
