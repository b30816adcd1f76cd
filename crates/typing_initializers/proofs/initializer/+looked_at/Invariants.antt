use Rattle.std.proofs.Common.{◌≡◌, drop}
use Rattle.syntax_tree.specs.SyntaxViews.{initializer_trees}
use Rattle.typing_expressions.specs.Scene.{scene_of}
use Rattle.typing_expressions.specs.Initializers.{all_looked_at}
use Rattle.typing_initializers.proofs.initializer.+looked_at.Given as goal

abbrev pub invariant-all_looked_at-loop-part : goal.invariant-all_looked_at-loop-part
invariant-all_looked_at-loop-part l = all_looked_at (scene_of l.scene) l.line (initializer_trees (drop l.part-index l.parts)) ≡ all_looked_at (scene_of l.fn.scene) l.fn.line (initializer_trees l.fn.parts)
