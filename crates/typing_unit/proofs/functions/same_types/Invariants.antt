use Rattle.std.proofs.Common.{◌≡◌, drop}
use Rattle.std.specs.Prelude.{map}
use Rattle.typed_tree.specs.TypesViewed.{ty_of}
use Rattle.typing_expressions.specs.Parts.{param_of}
use Rattle.typing_unit_keeps.specs.Units.{same_types, param_types}
use Rattle.typing_unit.proofs.functions.same_types.Given as goal

abbrev pub invariant-loop-i : goal.invariant-loop-i
invariant-loop-i l = same_types (map ty_of (drop l.i l.types)) (param_types (map param_of (drop l.i l.params))) ≡ same_types (map ty_of l.types) (param_types (map param_of l.params))
