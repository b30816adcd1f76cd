use Rattle.lowering_keeps.proofs.FormedCode.{code_formed}
use Rattle.lowering_keeps.proofs.laws.code_is_formed.Goals as goal

pub returns : goal.returns
returns c = λ p typed lines built room. code_formed p c.types_are_small.ensures c.aggregates_have_objects.ensures c.temps_at_least_four.ensures typed lines built room
