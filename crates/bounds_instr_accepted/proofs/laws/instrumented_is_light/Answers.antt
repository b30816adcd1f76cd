use Rattle.bounds_instr_accepted.proofs.Light.{program_light}
use Rattle.bounds_instr_accepted.proofs.laws.instrumented_is_light.Goals as goal

pub returns : goal.returns
returns c = λ g p formed built. program_light c.plain_items_are_read.ensures g p formed built
