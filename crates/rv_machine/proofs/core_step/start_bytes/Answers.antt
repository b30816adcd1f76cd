use Rattle.std.proofs.Common.{ℕ, List, length, ap, arith, lit<}
use Rattle.size_table.specs.Memory.{table_bytes}
use Rattle.rv_machine.proofs.Tables.{table_length, exponents_decline}
use Rattle.rv_machine.proofs.core_step.start_bytes.Goals as goal

pub write_table-requires-clause-exponents : goal.write_table-requires-clause-exponents
write_table-requires-clause-exponents c =
    rw c.as_slice-2.ensures (exponents_decline 20 c.args.image.now.globals (lit< tt) c.requires.globals_decline)

pub write_table-requires-clause-room : goal.write_table-requires-clause-room
write_table-requires-clause-room c =
    let whole = table_length 20 c.args.image.now.globals c.requires.globals_decline in
    let same = ap (λ (es : List ℕ). length (table_bytes es)) c.as_slice-2.ensures in
    omega (arith, whole, same, c.requires.globals_fit, c.deref_mut-2.ensures.len, c.in_ok-memory.ensures.len)
