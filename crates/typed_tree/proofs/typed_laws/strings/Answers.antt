use Rattle.typed_tree.proofs.TypedPrograms.{strings_are}
use Rattle.typed_tree.proofs.typed_laws.strings.Goals as goal

pub returns : goal.returns
returns c = strings_are
