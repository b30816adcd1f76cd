use Rattle.std.proofs.Common.{◌≡◌, drop}
use Rattle.std.specs.Prelude.{map}
use Rattle.syntax_tree.specs.SyntaxViews.{member_declaration_tree}
use Rattle.typing_expressions.specs.Scene.{scene_of, draft_of}
use Rattle.typing_declarations.specs.Structs.{member_lists}
use Rattle.typing_declarations.proofs.structs.member_lists.Given as goal

abbrev pub invariant-loop-declaration : goal.invariant-loop-declaration
invariant-loop-declaration l = member_lists (map draft_of l.members.items) (scene_of l.scene) (map member_declaration_tree (drop l.declaration-index l.declarations)) ≡ member_lists (map draft_of l.fn.members.items) (scene_of l.fn.scene) (map member_declaration_tree l.fn.declarations)
