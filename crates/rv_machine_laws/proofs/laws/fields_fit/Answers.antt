use Rattle.size_table.specs.Memory.{word_at}
use Rattle.rv_machine_laws.proofs.laws.fields_fit.Goals as goal

pub returns : goal.returns
returns c = λ core i small is. (c.reads_only.ensures (word_at core.memory core.pc) i small is).0
