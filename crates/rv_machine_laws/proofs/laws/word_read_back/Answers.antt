use Rattle.std.proofs.Common.{[], ◌∷◌, arith}
use Rattle.rv_machine_laws.proofs.Programs.{words_stand}
use Rattle.rv_machine_laws.proofs.laws.word_read_back.Goals as goal

pub returns : goal.returns
returns c = λ memory at word within small. (words_stand (word ∷ []) memory at (small, tt) (omega arith)).0
