use Rattle.rv_machine_laws.proofs.Programs.{does_instr, tells_instr}
use Rattle.rv_machine_laws.proofs.laws.instruction_done.Goals as goal

pub returns : goal.returns
returns c = λ core i low high fits is. let back = c.reads_back.ensures in (does_instr back core i low high fits is, tells_instr back core i fits is)
