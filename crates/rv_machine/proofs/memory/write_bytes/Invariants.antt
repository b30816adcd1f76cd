use Rattle.std.proofs.Common.{◌≡◌, ◌+◌, drop}
use Rattle.size_table.specs.Memory.{written_at}
use Rattle.rv_machine.proofs.memory.write_bytes.Given as goal

abbrev pub invariant-loop-i : goal.invariant-loop-i
invariant-loop-i l = written_at l.memory (l.at + l.i) (drop l.i l.bytes) ≡ written_at l.fn.memory l.at l.bytes
