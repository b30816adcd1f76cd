use Rattle.std.proofs.Common.{◌≡◌, drop, []}
use Rattle.std.specs.Prelude.{map}
use Rattle.syntax_tree.specs.SyntaxViews.{expression_trees}
use Rattle.typed_tree.specs.TypedViews.{expr_of}
use Rattle.typing_expressions.specs.Scene.{scene_of}
use Rattle.typing_expressions.specs.Parts.{parts_of}
use Rattle.typing_expressions.specs.Expressions as spec
use Rattle.typing_expressions.proofs.expression.+expressions.Given as goal

abbrev pub invariant-arguments-loop-e : goal.invariant-arguments-loop-e
invariant-arguments-loop-e l =
    spec.typed_all (map expr_of l.values.items) (scene_of l.scene) (expression_trees (drop l.e-index l.es)) ≡ spec.typed_all [] (scene_of l.fn.scene) (expression_trees l.fn.es)

abbrev pub invariant-sized-loop-e : goal.invariant-sized-loop-e
invariant-sized-loop-e l =
    spec.sized (parts_of l.parts.items) (scene_of l.scene) (expression_trees (drop l.e-index l.sizes)) ≡ spec.sized (parts_of l.fn.parts.items) (scene_of l.fn.scene) (expression_trees l.fn.sizes)
