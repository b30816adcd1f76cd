use Rattle.std.proofs.Common.{◌-◌, ◌≤◌}
use Rattle.rv_machine.specs.Machine.{steps}
use Rattle.rv_machine.specs.Runs.{Ran}
use Rattle.rv_machine.proofs.machine.Machine.run.Given as goal

abbrev pub invariant-loop-done : goal.invariant-loop-done
invariant-loop-done g l = record {
  within : l.done ≤ l.n;
  ran : Ran (steps l.done)
      l.fn.self (record { left = g.I.Source.left l.fn.input; is_over = g.I.Source.is_over l.fn.input; written = g.O.Sink.written l.fn.output })
      l.self (record { left = g.I.Source.left l.input; is_over = g.I.Source.is_over l.input; written = g.O.Sink.written l.output });
  read : g.I.Source.faults l.fn.input ≤ g.I.Source.faults l.input;
  write : g.O.Sink.faults l.fn.output ≤ g.O.Sink.faults l.output;
}

abbrev pub decreases-loop-done : goal.decreases-loop-done
decreases-loop-done g l = l.n - l.done
