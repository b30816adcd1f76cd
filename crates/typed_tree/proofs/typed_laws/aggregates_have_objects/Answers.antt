use Rattle.typed_tree.proofs.Objects.{aggregates_have_objects}
use Rattle.typed_tree.proofs.typed_laws.aggregates_have_objects.Goals as goal

pub returns : goal.returns
returns c = aggregates_have_objects
