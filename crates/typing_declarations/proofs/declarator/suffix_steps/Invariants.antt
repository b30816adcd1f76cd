use Rattle.std.proofs.Common.{◌≡◌, drop}
use Rattle.std.specs.Prelude.{map}
use Rattle.syntax_tree.specs.SyntaxViews.{suffix_tree}
use Rattle.typing_expressions.specs.Scene.{scene_of}
use Rattle.typing_expressions.specs.Parts.{parts_of}
use Rattle.typing_declarations.specs.Declarators.{suffix_steps}
use Rattle.typing_declarations.proofs.declarator.suffix_steps.Given as goal

abbrev pub invariant-loop-suffix : goal.invariant-loop-suffix
invariant-loop-suffix l = suffix_steps (parts_of l.parts.items) (scene_of l.scene) (map suffix_tree (drop l.suffix-index l.suffixes)) ≡ suffix_steps (parts_of l.fn.parts.items) (scene_of l.fn.scene) (map suffix_tree l.fn.suffixes)
