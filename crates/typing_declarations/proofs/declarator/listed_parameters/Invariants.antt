use Rattle.std.proofs.Common.{◌≡◌, drop}
use Rattle.std.specs.Prelude.{map}
use Rattle.syntax_tree.specs.SyntaxViews.{parameter_tree}
use Rattle.typing_expressions.specs.Scene.{scene_of}
use Rattle.typing_expressions.specs.Parts.{param_of}
use Rattle.typing_declarations.specs.Declarators.{parameters}
use Rattle.typing_declarations.proofs.declarator.listed_parameters.Given as goal

abbrev pub invariant-loop-one : goal.invariant-loop-one
invariant-loop-one l = parameters (map param_of l.params.items) (scene_of l.scene) (map parameter_tree (drop l.one-index l.listed)) ≡ parameters (map param_of l.fn.params.items) (scene_of l.fn.scene) (map parameter_tree l.fn.listed)
