use Rattle.std.proofs.Common.{◌≡◌, [], drop}
use Rattle.std.specs.Prelude.{map}
use Rattle.syntax_tree.specs.SyntaxViews.{external_tree}
use Rattle.typing_unit_keeps.specs.Units.{definitions}
use Rattle.typing_unit.proofs.file.definitions.Given as goal

abbrev pub invariant-loop-external : goal.invariant-loop-external
invariant-loop-external l = definitions l.names (map external_tree (drop l.external-index l.externals)) ≡ definitions [] (map external_tree l.externals)
