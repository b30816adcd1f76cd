use Rattle.std.proofs.Common.{◌≡◌, ◌+◌, ◌≤◌, length, drop}
use Rattle.size_table.specs.Memory.{written_at, table_bytes}
use Rattle.rv_machine.proofs.memory.write_table.Given as goal

abbrev pub invariant-loop-exponent : goal.invariant-loop-exponent
invariant-loop-exponent l = record {
  written : written_at l.memory l.slot (table_bytes (drop l.exponent-index l.exponents)) ≡ written_at l.fn.memory l.at (table_bytes l.exponents);
  room : l.slot + length (table_bytes (drop l.exponent-index l.exponents)) ≤ length l.memory;
}
