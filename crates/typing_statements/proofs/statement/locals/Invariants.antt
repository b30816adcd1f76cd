use Rattle.std.proofs.Common.{◌≡◌, [], drop}
use Rattle.std.specs.Prelude.{map}
use Rattle.syntax_tree.specs.SyntaxViews.{init_declarator_tree}
use Rattle.typed_tree.specs.TypesViewed.{ty_of}
use Rattle.typed_tree.specs.TypedViews.{declaration_of}
use Rattle.typing_expressions.specs.Scene.{scene_of}
use Rattle.typing_statements.specs.Statements.{locals}
use Rattle.typing_statements.proofs.statement.locals.Given as goal

abbrev pub invariant-loop-declarator : goal.invariant-loop-declarator
invariant-loop-declarator l = locals (map declaration_of l.done.items) (scene_of l.scene) (ty_of l.base) (map init_declarator_tree (drop l.declarator-index l.declarators)) ≡ locals [] (scene_of l.fn.scene) (ty_of l.fn.base) (map init_declarator_tree l.fn.declarators)
