use Rattle.std.proofs.Common.{◌≡◌, drop}
use Rattle.std.specs.Prelude.{map}
use Rattle.typing_expressions.specs.Parts.{param_of}
use Rattle.typing_unit_keeps.specs.Units.{unnamed}
use Rattle.typing_unit.proofs.functions.unnamed.Given as goal

abbrev pub invariant-loop-param : goal.invariant-loop-param
invariant-loop-param l = unnamed (map param_of (drop l.param-index l.params)) ≡ unnamed (map param_of l.params)
