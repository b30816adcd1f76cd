use Rattle.meaning_kinds.proofs.Calls.{typed_keeps_kinds}
use Rattle.meaning_kinds.proofs.laws.typed_keeps_kinds.Goals as goal

pub returns : goal.returns
returns c = typed_keeps_kinds c.aggregates_have_objects.ensures
