use Rattle.std.proofs.Common.{arith, sym}
use Rattle.flat_verify.proofs.ItemWalk.{first_left, none_left}
use Rattle.flat_verify.proofs.items.first_place.Goals as goal

pub returns-then-i-count : goal.returns-then-i-count
returns-then-i-count c = sym (first_left c.args.items.now c.args.i c.args.place c.args.after (omega (arith, c.if-i-count.true)))

pub returns-else-i-count : goal.returns-else-i-count
returns-else-i-count c = sym (none_left c.args.items.now c.args.i c.args.place c.args.after (omega (arith, c.if-i-count.false)))
