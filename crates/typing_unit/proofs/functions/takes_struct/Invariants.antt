use Rattle.std.proofs.Common.{◌≡◌, drop}
use Rattle.std.specs.Prelude.{map}
use Rattle.typing_expressions.specs.Parts.{param_of}
use Rattle.typing_unit_keeps.specs.Units.{takes_struct}
use Rattle.typing_unit.proofs.functions.takes_struct.Given as goal

abbrev pub invariant-loop-param : goal.invariant-loop-param
invariant-loop-param l = takes_struct (map param_of (drop l.param-index l.params)) ≡ takes_struct (map param_of l.params)
