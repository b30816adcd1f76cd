use Rattle.std.proofs.Common.{◌≡◌, ◌++◌}
use Rattle.std.specs.Prelude.{map, drop}
use Rattle.flat_code.specs.CodeViews.{function_of}
use Rattle.flat_verify.specs.ItemViews.{as_bodies, bodies_of}
use Rattle.flat_verify.proofs.items.bodies_of.Given as goal

abbrev pub invariant-loop-function : goal.invariant-loop-function
invariant-loop-function l = as_bodies l.bodies.items ++ bodies_of l.g (map function_of (drop l.function-index l.functions)) ≡ bodies_of l.g (map function_of l.functions)
