use Rattle.lowering_keeps.proofs.FromTyped.{from_typed}
use Rattle.lowering_keeps.proofs.Light.{light_program}
use Rattle.lowering_keeps.proofs.laws.code_is_light.Goals as goal

pub returns : goal.returns
returns c = λ p typed built. light_program p (from_typed p c.types_are_small.ensures c.aggregates_have_objects.ensures typed built)
