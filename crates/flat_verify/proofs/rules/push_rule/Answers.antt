use Rattle.std.proofs.Common.{◌∙◌, ap, ◌+◌, ◌-◌, arith, rules, subst, sym}
use Rattle.flat_verify.specs.Reach.{rules_of, AreBelow}
use Rattle.flat_verify.proofs.Pushed.{longer, below_set, below_push, one_pushed, last_below}
use Rattle.flat_verify.proofs.rules.push_rule.Goals as goal

pub overflow_add-last : goal.overflow_add-last
overflow_add-last c =
    omega (arith, (last_below c.args.size c.args.stretches.now.items (c.len-count.result - 1) c.index-last.result.now c.requires (search rules) c.index-last.ensures).0, c.ranges.size.fits)

pub overflow_add-last-then-last-from : goal.overflow_add-last-then-last-from
overflow_add-last-then-last-from c =
    omega (arith, (last_below c.args.size c.args.stretches.now.items (c.len-count.result - 1) c.index-last.result.now c.requires (search rules) c.index-last.ensures).1, c.ranges.size.fits)

pub returns-then-last-to-clause-rules : goal.returns-then-last-to-clause-rules
returns-then-last-to-clause-rules c =
    longer c.args.stretches.now.items (c.len-count.result - 1) c.args.from c.args.to c.index-last.result.now (search rules) c.index-last.ensures c.if-last-from.true c.if-last-to.true

pub returns-then-last-to-clause-below : goal.returns-then-last-to-clause-below
returns-then-last-to-clause-below c =
    below_set c.args.size c.args.stretches.now.items (c.len-count.result - 1) record { from = c.index-last.result.now.from; to = c.index-last.result.now.to; count = c.index-last.result.now.count + 1 } c.requires (
      omega (arith, c.if-last-from.true, c.if-from-size.false),
      omega (arith, c.if-last-to.true, c.if-to-size.false),
    )

pub returns-clause-rules : goal.returns-clause-rules
returns-clause-rules c = ap rules_of c.in_ok-push.ensures.items ∙ one_pushed c.args.stretches.now.items c.args.from c.args.to

pub returns-clause-below : goal.returns-clause-below
returns-clause-below c =
    subst (AreBelow c.args.size) (sym c.in_ok-push.ensures.items) (below_push c.args.size c.args.stretches.now.items record { from = c.args.from; to = c.args.to; count = 1 } c.requires (omega (arith, c.if-from-size.false), omega (arith, c.if-to-size.false)))
