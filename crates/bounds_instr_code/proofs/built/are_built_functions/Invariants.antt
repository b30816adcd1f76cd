use Rattle.std.proofs.Common.{◌≡◌}
use Rattle.std.specs.Prelude.{drop, map}
use Rattle.mid_code.specs.Views.{function_of}
use Rattle.bounds_instr_code.specs.Built as built
use Rattle.bounds_instr_code.proofs.built.are_built_functions.Given as goal

abbrev pub invariant-loop-f : goal.invariant-loop-f
invariant-loop-f l = built.are_built_functions (map function_of (drop l.f-index l.functions)) ≡ built.are_built_functions (map function_of l.functions)
