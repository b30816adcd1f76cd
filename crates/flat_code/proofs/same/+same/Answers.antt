use Rattle.flat_code.proofs.Emitted.{short_long}
use Rattle.flat_code.proofs.same.+same.Goals as goal

pub are_same_steps-returns-in_default : goal.are_same_steps-returns-in_default
are_same_steps-returns-in_default t c = short_long c.args.a.now c.args.b.now c.in-empty.len_below c.in_default.len_at_least
