use Rattle.rv_select.proofs.Emitted.{zeros_in, zeros_end}
use Rattle.rv_select.proofs.functions.put_zeros.Goals as goal

pub loop-v-preserved : goal.loop-v-preserved
loop-v-preserved c = zeros_in _ _ _ c.args.count c.loop-v.v _ c.loop-v-test.true c.store.ensures c.in_ok-put.ensures c.loop-v.invariant

pub returns : goal.returns
returns c = zeros_end _ _ c.args.count c.loop-v.v c.loop-v-test.false c.loop-v.invariant
