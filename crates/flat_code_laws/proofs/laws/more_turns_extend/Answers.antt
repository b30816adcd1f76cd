use Rattle.flat_code_laws.proofs.More as more
use Rattle.flat_code_laws.proofs.laws.more_turns_extend.Goals as goal

pub returns : goal.returns
returns c = more.more_turns_extend
