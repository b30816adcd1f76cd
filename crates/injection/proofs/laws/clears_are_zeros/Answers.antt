use Rattle.injection.proofs.Stores.{clear_keeps}
use Rattle.injection.proofs.laws.clears_are_zeros.Goals as goal

pub returns : goal.returns
returns c = λ g k n o os cs memory. clear_keeps g os cs memory k o n
