use Rattle.syntax_tree.specs.SyntaxViews.{unit_tree}
use Rattle.typed_tree.specs.Typed.{Typed, HasLines}
use Rattle.typing_unit.proofs.Answered.{answered}
use Rattle.typing_unit.proofs.unit.type_unit.Goals as goal

pub returns-clause-typed : goal.returns-clause-typed
returns-clause-typed c = answered Typed c.files_are_typed.ensures (unit_tree c.args.unit.now) c.program_or_refusal.result c.program_or_refusal.ensures

pub returns-clause-lines : goal.returns-clause-lines
returns-clause-lines c = answered HasLines c.files_have_lines.ensures (unit_tree c.args.unit.now) c.program_or_refusal.result c.program_or_refusal.ensures
