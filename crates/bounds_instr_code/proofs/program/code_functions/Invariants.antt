use Rattle.std.proofs.Common.{◌≡◌}
use Rattle.std.specs.Prelude.{take, map}
use Rattle.mid_code.specs.Views as mid
use Rattle.flat_code.specs.CodeViews as flat
use Rattle.bounds_instr_code.specs.Code.{frameless_code}
use Rattle.bounds_instr_code.proofs.program.code_functions.Given as goal

abbrev pub invariant-loop-f : goal.invariant-loop-f
invariant-loop-f l = map flat.function_of l.code ≡ map (frameless_code l.g) (map mid.function_of (take l.f-index l.functions))
