use Rattle.source_meaning.proofs.MoreTurns.{more_turns_keep as lemma}
use Rattle.source_meaning.proofs.laws.more_turns_keep.Goals as goal

pub returns : goal.returns
returns c = lemma
