use Rattle.meaning_kinds.proofs.Untyped.{untyped_come_there as lemma}
use Rattle.meaning_kinds.proofs.laws.untyped_come_there.Goals as goal

pub returns : goal.returns
returns c = lemma
