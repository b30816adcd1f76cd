use Rattle.std.proofs.Common.{◌≡◌, ◌+◌, ◌*◌, drop}
use Rattle.size_table.specs.Memory.{written_at, bytes_of_words}
use Rattle.rv_machine.proofs.memory.write_words.Given as goal

abbrev pub invariant-loop-i : goal.invariant-loop-i
invariant-loop-i l = written_at l.memory (l.at + 4 * l.i) (bytes_of_words (drop l.i l.words)) ≡ written_at l.fn.memory l.at (bytes_of_words l.words)
