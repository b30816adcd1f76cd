use Rattle.std.proofs.Common.{◌≡◌, [], drop}
use Rattle.std.specs.Prelude.{map}
use Rattle.syntax_tree.specs.SyntaxViews.{initializer_trees}
use Rattle.typed_tree.specs.TypesViewed.{ty_of}
use Rattle.typed_tree.specs.TypedViews.{initial_of}
use Rattle.typing_expressions.specs.Scene.{scene_of}
use Rattle.typing_expressions.specs.Initializers.{initials}
use Rattle.typing_initializers.proofs.initializer.+initializers.Given as goal

abbrev pub invariant-initials-loop-i : goal.invariant-initials-loop-i
invariant-initials-loop-i l = initials l.is_global (map initial_of l.done.items) (scene_of l.scene) l.line (ty_of l.ty) l.i (initializer_trees (drop l.i l.parts)) ≡ initials l.fn.is_global [] (scene_of l.fn.scene) l.fn.line (ty_of l.fn.ty) 0 (initializer_trees l.fn.parts)
