use Rattle.std.proofs.Common.{◌≡◌, drop}
use Rattle.std.specs.Prelude.{map}
use Rattle.typing_expressions.specs.Scene.{scene_of}
use Rattle.typing_expressions.specs.Parts.{param_of}
use Rattle.typing_unit_keeps.specs.Units.{with_params}
use Rattle.typing_unit.proofs.bodies.add_params.Given as goal

abbrev pub invariant-loop-param : goal.invariant-loop-param
invariant-loop-param l = with_params (scene_of l.scene) (map param_of (drop l.param-index l.params)) ≡ with_params (scene_of l.fn.scene) (map param_of l.fn.params)
