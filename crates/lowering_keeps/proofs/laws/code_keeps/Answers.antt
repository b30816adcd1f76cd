use Rattle.std.proofs.Common.{◌≤◌}
use Rattle.typed_tree.specs.Counts.{values_of}
use Rattle.lowering_keeps.proofs.FromTyped.{all_get, from_typed}
use Rattle.lowering_keeps.proofs.Calls.{keeps}
use Rattle.lowering_keeps.proofs.laws.code_keeps.Goals as goal

pub returns : goal.returns
returns c = λ p typed built room.
    keeps p (from_typed p c.types_are_small.ensures c.aggregates_have_objects.ensures typed built) (λ i f found. all_get (λ f. values_of f ≤ 250) p.functions i f room found)
