use Rattle.std.proofs.Common.{◌≤◌, length}
use Rattle.baggy_tool.proofs.Noting.{IsPartly}
use Rattle.baggy_tool.proofs.notes.put.Given as goal

abbrev pub invariant-loop-rest : goal.invariant-loop-rest
invariant-loop-rest g l = record {
  partly : IsPartly l.text l.rest (g.E.Sink.written l.fn.notes) (g.E.Sink.written l.notes);
  faults : g.E.Sink.faults l.fn.notes ≤ g.E.Sink.faults l.notes;
}

abbrev pub decreases-loop-rest : goal.decreases-loop-rest
decreases-loop-rest g l = length l.rest
