use Rattle.std.proofs.Common.{arith}
use Rattle.rv_machine.proofs.Tables.{table_step, table_room, shift_fits}
use Rattle.rv_machine.proofs.memory.write_table.Goals as goal

pub overflow_sub-count : goal.overflow_sub-count
overflow_sub-count c =
    let fits = c.requires.exponents c.loop-exponent.exponent-index 0 c.loop-exponent-test.true in
    fits.0

pub write_copies-requires : goal.write_copies-requires
write_copies-requires c =
    let i = c.loop-exponent.exponent-index in
    let fits = c.requires.exponents i 0 c.loop-exponent-test.true in
    omega (arith, shift_fits _ fits.1, table_room i c.args.exponents.now c.loop-exponent-test.true, c.loop-exponent.invariant.room)

pub loop-exponent-preserved : goal.loop-exponent-preserved
loop-exponent-preserved c =
    let i = c.loop-exponent.exponent-index in
    let fits = c.requires.exponents i 0 c.loop-exponent-test.true in
    record {
      written = table_step c.loop-exponent.memory _ _ c.loop-exponent.slot i c.args.exponents.now c.loop-exponent-test.true fits.1 c.write_copies.ensures c.loop-exponent.invariant.written;
      room = omega (arith, shift_fits _ fits.1, table_room i c.args.exponents.now c.loop-exponent-test.true, c.loop-exponent.invariant.room, c.write_copies.auto.memory);
    }
