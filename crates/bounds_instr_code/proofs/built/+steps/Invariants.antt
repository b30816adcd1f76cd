use Rattle.std.proofs.Common.{◌≡◌}
use Rattle.std.specs.Prelude.{drop}
use Rattle.mid_code.specs.Views.{steps_of}
use Rattle.bounds_instr_code.specs.Built.{are_built_steps}
use Rattle.bounds_instr_code.proofs.built.+steps.Given as goal

abbrev pub invariant-are_built_steps-loop-x : goal.invariant-are_built_steps-loop-x
invariant-are_built_steps-loop-x l = are_built_steps (steps_of (drop l.x-index l.xs)) ≡ are_built_steps (steps_of l.xs)
