use Rattle.std.proofs.Common.{◌≡◌}
use Rattle.std.specs.Prelude.{drop}
use Rattle.flat_code.specs.Code.{◌+++◌}
use Rattle.flat_code.specs.CodeViews.{steps_of}
use Rattle.mid_code.specs.Views as mid
use Rattle.bounds_instr_code.specs.Code as instr
use Rattle.bounds_instr_code.proofs.code_steps.+code.Given as goal

abbrev pub invariant-code_steps-loop-x : goal.invariant-code_steps-loop-x
invariant-code_steps-loop-x l =
    steps_of l.code.items +++ instr.code l.g l.values (mid.steps_of (drop l.x-index l.xs)) ≡ steps_of l.initial.code.items +++ instr.code l.g l.values (mid.steps_of l.xs)
