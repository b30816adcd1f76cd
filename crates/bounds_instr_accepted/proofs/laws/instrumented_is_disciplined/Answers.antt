use Rattle.bounds_instr_code.specs.Code.{global_blocks}
use Rattle.bounds_instr_accepted.proofs.Accepted.{accepted}
use Rattle.bounds_instr_accepted.proofs.laws.instrumented_is_disciplined.Goals as goal

pub returns : goal.returns
returns c = λ g p formed built. accepted c.plain_items_are_read.ensures c.derivations_are_accepted.ensures g (global_blocks g p) p formed built
