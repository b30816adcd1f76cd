use Rattle.std.proofs.Common.{◌≡◌, ◌++◌, drop}
use Rattle.std.specs.Prelude.{map}
use Rattle.typed_tree.specs.TypesViewed.{ty_of}
use Rattle.typing_expressions.specs.Parts.{param_of}
use Rattle.typing_unit_keeps.specs.Units.{param_types}
use Rattle.typing_unit.proofs.functions.param_types.Given as goal

abbrev pub invariant-loop-param : goal.invariant-loop-param
invariant-loop-param l = map ty_of l.types.items ++ param_types (map param_of (drop l.param-index l.params)) ≡ param_types (map param_of l.params)
