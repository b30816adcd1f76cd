use Rattle.std.proofs.Common.{◌≡◌, drop}
use Rattle.std.specs.Prelude.{map}
use Rattle.syntax_tree.specs.SyntaxViews.{declarator_tree}
use Rattle.typed_tree.specs.TypesViewed.{ty_of}
use Rattle.typing_expressions.specs.Scene.{scene_of, draft_of}
use Rattle.typing_declarations.specs.Structs.{members}
use Rattle.typing_declarations.proofs.structs.members_of.Given as goal

abbrev pub invariant-loop-declarator : goal.invariant-loop-declarator
invariant-loop-declarator l = members (map draft_of l.members.items) (scene_of l.scene) (ty_of l.base) (map declarator_tree (drop l.declarator-index l.declarators)) ≡ members (map draft_of l.fn.members.items) (scene_of l.fn.scene) (ty_of l.fn.base) (map declarator_tree l.fn.declarators)
