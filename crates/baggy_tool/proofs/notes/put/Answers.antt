use Rattle.std.proofs.Common.{arith}
use Rattle.baggy_tool.proofs.Noting.{partly_none, partly_more}
use Rattle.baggy_tool.proofs.notes.put.Goals as goal

pub loop-rest-init : goal.loop-rest-init
loop-rest-init g c = record { partly = partly_none _ _; faults = omega arith }

pub loop-rest-preserved : goal.loop-rest-preserved
loop-rest-preserved g c =
    let i = c.loop-rest.invariant in
    record {
      partly = rw c.split_at.ensures.back (partly_more _ _ c.in_ok-count.count _ _ _ i.partly c.in_ok-count.ensures.bytes);
      faults = omega (arith, i.faults, c.in_ok-count.ensures.cause.later);
    }
