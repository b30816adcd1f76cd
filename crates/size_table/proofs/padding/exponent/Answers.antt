use Rattle.std.proofs.Common.{refl, arith}
use Rattle.size_table.specs.Pads.{exponent_of}
use Rattle.size_table.proofs.Exponents.{exponent_more, exponent_found, exponent_last, least_at, size_is}
use Rattle.size_table.proofs.padding.exponent.Goals as goal

pub loop-e-init : goal.loop-e-init
unfolding exponent_of
loop-e-init c = record { same = refl; low = omega arith; high = omega arith }

pub loop-e-preserved : goal.loop-e-preserved
loop-e-preserved c =
    let high = c.loop-e.invariant.high in
    let low = c.loop-e.invariant.low in
    let size = size_is c.loop-e.e high in
    let above = c.if-size-e.false in
    let below = c.loop-e-test.true in
    record {
      same = exponent_more c.loop-e.e c.args.size _ below (omega (arith, size, above)) c.loop-e.invariant.same;
      low = omega (arith, low);
      high = omega (arith, below);
    }

pub returns-then-size-e-clause-least : goal.returns-then-size-e-clause-least
returns-then-size-e-clause-least c =
    let i = c.loop-e.invariant in
    let size = size_is c.loop-e.e i.high in
    let room = c.if-size-e.true in
    least_at c.loop-e.e c.args.size c.requires (exponent_found c.loop-e.e c.args.size _ c.loop-e-test.true (omega (arith, size, room)) i.same)

pub returns-clause-least : goal.returns-clause-least
returns-clause-least c =
    let i = c.loop-e.invariant in
    let last = c.loop-e-test.false in
    least_at c.loop-e.e c.args.size c.requires (exponent_last c.loop-e.e c.args.size _ (omega (arith, last)) i.high i.same)
