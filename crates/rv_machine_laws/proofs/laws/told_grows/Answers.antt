use Rattle.rv_machine_laws.proofs.Tells.{steps_told}
use Rattle.rv_machine_laws.proofs.laws.told_grows.Goals as goal

pub returns : goal.returns
returns c = λ k d w. steps_told d k w
