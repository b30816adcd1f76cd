use Rattle.rv_select.proofs.Read.{function_read, functions_read}
use Rattle.rv_select.proofs.words.read_functions.Goals as goal

pub loop-function-init : goal.loop-function-init
loop-function-init c = λ rest. rest

pub loop-function-preserved : goal.loop-function-preserved
loop-function-preserved c = function_read c.args.functions.now c.args.functions.now c.loop-function.function-index c.function-item.result c.loop-function-test.true c.function-item.is c.read_function.ensures c.loop-function.invariant

pub returns : goal.returns
returns c = functions_read c.args.functions.now c.args.functions.now c.loop-function.function-index c.loop-function-test.false c.loop-function.invariant
