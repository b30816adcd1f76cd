use Rattle.std.proofs.Common.{◌≡◌, drop}
use Rattle.std.specs.Prelude.{map}
use Rattle.typing_expressions.specs.Scene.{declared_of}
use Rattle.typing_unit_keeps.specs.Units.{undefined}
use Rattle.typing_unit.proofs.unit.undefined.Given as goal

abbrev pub invariant-loop-i : goal.invariant-loop-i
invariant-loop-i l = undefined (map declared_of (drop l.i l.functions)) (drop l.i l.called) ≡ undefined (map declared_of l.functions) l.called
