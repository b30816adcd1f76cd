use Rattle.std.proofs.Common.{subst, sym, rules}
use Rattle.flat_verify.specs.Reach.{AreBelow}
use Rattle.flat_verify.proofs.Marks.{settled, passed}
use Rattle.flat_verify.proofs.reach.settle.Goals as goal

pub returns-then-not-led_by_all-clause-marked : goal.returns-then-not-led_by_all-clause-marked
returns-then-not-led_by_all-clause-marked c =
    settled c.args.stretches.now c.pass.marks c.led_by_all.new.marks (subst (λ n. AreBelow n c.args.stretches.now) (sym c.pass.invariant.0) c.requires.below) c.pass.invariant.1 c.led_by_all.ensures.led (search rules)

pub pass-preserved : goal.pass-preserved
pass-preserved c = passed c.args.stretches.now c.pass.marks c.led_by_all.new.marks c.led_by_all.ensures.led _ c.pass.invariant.0 c.pass.invariant.1 c.pass.invariant.2
