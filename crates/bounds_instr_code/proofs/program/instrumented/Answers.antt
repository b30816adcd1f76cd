use Rattle.std.specs.Prelude.{All}
use Rattle.std.proofs.Common.{◌≡◌, map, sym, ap, ◌∙◌, subst}
use Rattle.mid_code.specs.Views.{program_of}
use Rattle.mid_code.specs.Views as mid
use Rattle.flat_code.specs.CodeViews as flat
use Rattle.bounds_instr_code.specs.Code.{HasRoom, frameless_code, instrumented}
use Rattle.bounds_instr_code.proofs.Coded.{coded}
use Rattle.bounds_instr_code.proofs.program.instrumented.Goals as goal

pub code_functions-requires-clause-room : goal.code_functions-requires-clause-room
code_functions-requires-clause-room c = subst (λ z. All HasRoom (map mid.function_of z)) (sym c.as_slice.ensures) c.requires.room

pub returns : goal.returns
returns c =
    subst (λ z. record { functions = map flat.function_of c.in_ok-functions.functions; main = c.args.mid.now.main; initial = z } ≡ instrumented c.args.g (program_of c.args.mid.now)) (sym c.new.ensures)
    (coded c.frames_are_alike.ensures c.args.g (program_of c.args.mid.now) c.requires.least c.requires.most c.requires.built (map flat.function_of c.in_ok-functions.functions)
    (c.in_ok-functions.ensures ∙ ap (λ z. map (frameless_code c.args.g) (map mid.function_of z)) c.as_slice.ensures))
