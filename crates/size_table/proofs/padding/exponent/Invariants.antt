use Rattle.std.proofs.Common.{◌≡◌, ◌-◌, ◌≤◌}
use Rattle.size_table.specs.Pads.{exponent_from, exponent_of}
use Rattle.size_table.proofs.padding.exponent.Given as goal

abbrev pub invariant-loop-e : goal.invariant-loop-e
invariant-loop-e l = record {
  same : exponent_from (24 - l.e) l.e l.size ≡ exponent_of 4 l.size;
  low : 4 ≤ l.e;
  high : l.e ≤ 24;
}

abbrev pub decreases-loop-e : goal.decreases-loop-e
decreases-loop-e l = 24 - l.e
