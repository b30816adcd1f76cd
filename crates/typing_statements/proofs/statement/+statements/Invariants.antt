use Rattle.std.proofs.Common.{◌≡◌, [], drop}
use Rattle.std.specs.Prelude.{map}
use Rattle.syntax_tree.specs.SyntaxViews.{block_item_trees}
use Rattle.typed_tree.specs.TypesViewed.{ty_of}
use Rattle.typed_tree.specs.TypedViews.{stmt_of}
use Rattle.typing_expressions.specs.Scene.{scene_of}
use Rattle.typing_statements.specs.Statements.{items}
use Rattle.typing_statements.specs.StatementSteps.{around}
use Rattle.typing_statements.proofs.statement.+statements.Given as goal

abbrev pub invariant-items-loop-tree : goal.invariant-items-loop-tree
invariant-items-loop-tree l = items (around (ty_of l.returned) l.in_loop) (map stmt_of l.done.items) (scene_of l.scene) (block_item_trees (drop l.tree-index l.trees)) ≡ items (around (ty_of l.fn.returned) l.fn.in_loop) [] (scene_of l.fn.scene) (block_item_trees l.fn.trees)
