use Rattle.rv_select.proofs.Emitted.{functions_in, functions_end}
use Rattle.rv_select.proofs.functions.put_functions.Goals as goal

pub loop-function-preserved : goal.loop-function-preserved
loop-function-preserved c =
    functions_in c.args.g c.loop-function.k _ c.loop-function.next _ c.args.functions.now c.loop-function.function-index c.function-item.result _ _ _
    c.loop-function-test.true c.function-item.is c.in_ok-next.ensures.parts c.in_ok-next.ensures.next c.in_ok-k.ensures c.loop-function.invariant

pub returns : goal.returns
returns c = functions_end c.args.g c.loop-function.k c.loop-function.next c.args.functions.now c.loop-function.function-index _ _ c.loop-function-test.false c.loop-function.invariant
