use Rattle.rv_machine_laws.proofs.Forms.{formed_laid_out}
use Rattle.rv_machine_laws.proofs.laws.live_are_laid_out.Goals as goal

pub returns : goal.returns
returns c = formed_laid_out
