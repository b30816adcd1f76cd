use Rattle.mid_code.specs.Views as mid
use Rattle.bounds_instr_code.specs.Code.{HasRoom}
use Rattle.bounds_instr_code.proofs.Coded.{all_at}
use Rattle.bounds_instr_code.proofs.program.code_functions.Goals as goal

pub code_function-requires-clause-room : goal.code_function-requires-clause-room
code_function-requires-clause-room c = all_at HasRoom mid.function_of c.args.functions.now c.loop-f.f-index c.f-item.result c.requires.room c.loop-f-test.true c.f-item.is
