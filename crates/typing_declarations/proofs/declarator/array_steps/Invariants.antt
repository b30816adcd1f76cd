use Rattle.std.proofs.Common.{◌≡◌, drop}
use Rattle.std.specs.Prelude.{map}
use Rattle.syntax_tree.specs.SyntaxViews.{array_tree}
use Rattle.typing_expressions.specs.Scene.{scene_of}
use Rattle.typing_expressions.specs.Parts.{parts_of}
use Rattle.typing_declarations.specs.Declarators.{array_steps}
use Rattle.typing_declarations.proofs.declarator.array_steps.Given as goal

abbrev pub invariant-loop-array : goal.invariant-loop-array
invariant-loop-array l = array_steps (parts_of l.parts.items) (scene_of l.scene) (map array_tree (drop l.array-index l.arrays)) ≡ array_steps (parts_of l.fn.parts.items) (scene_of l.fn.scene) (map array_tree l.fn.arrays)
