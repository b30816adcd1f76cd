use Rattle.std.proofs.Common.{◌≡◌, ◌+◌, ◌-◌}
use Rattle.std.specs.Prelude.{replicate}
use Rattle.size_table.specs.Memory.{written_at}
use Rattle.rv_machine.proofs.memory.write_copies.Given as goal

abbrev pub invariant-loop-i : goal.invariant-loop-i
invariant-loop-i l = written_at l.memory (l.at + l.i) (replicate (l.count - l.i) l.byte) ≡ written_at l.fn.memory l.at (replicate l.count l.byte)
