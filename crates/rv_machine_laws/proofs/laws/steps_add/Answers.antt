use Rattle.std.proofs.Common.{sym}
use Rattle.rv_machine.proofs.Steps.{steps_add}
use Rattle.rv_machine_laws.proofs.laws.steps_add.Goals as goal

pub returns : goal.returns
returns c = λ k d w. sym (steps_add d k w)
