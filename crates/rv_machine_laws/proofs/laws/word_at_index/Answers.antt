use Rattle.rv_machine_laws.proofs.Programs.{word_at_index}
use Rattle.rv_machine_laws.proofs.laws.word_at_index.Goals as goal

pub returns : goal.returns
returns c = λ memory at words i stand l. word_at_index words memory at i stand l
