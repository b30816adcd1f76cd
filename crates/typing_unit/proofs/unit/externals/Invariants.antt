use Rattle.std.proofs.Common.{◌≡◌, drop}
use Rattle.std.specs.Prelude.{map}
use Rattle.syntax_tree.specs.SyntaxViews.{external_tree}
use Rattle.typing_unit_keeps.specs.Units.{externals}
use Rattle.typing_unit.specs.UnitSteps.{file_of}
use Rattle.typing_unit.proofs.unit.externals.Given as goal

abbrev pub invariant-loop-tree : goal.invariant-loop-tree
invariant-loop-tree l = externals l.numbers (file_of l.file) (map external_tree (drop l.tree-index l.trees)) ≡ externals l.fn.numbers (file_of l.fn.file) (map external_tree l.fn.trees)
