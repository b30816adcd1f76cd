use Rattle.std.proofs.Common.{rules, ap, ◌∙◌, sym, subst, ◌≡◌, cond, length, arith}
use Rattle.std.specs.Prelude.{◌==◌}
use Rattle.flat_verify.specs.Hints.{origin_at, origin_written}
use Rattle.flat_verify.proofs.Origins.{Unset, set_found, set_pushed, unset_more, unequal}
use Rattle.flat_verify.proofs.hints.set_now.Goals as goal

pub returns-then-index-value : goal.returns-then-index-value
returns-then-index-value c = λ v.
    set_found c.args.value c.args.by c.loop-k.origins.items c.loop-k.k c.index.result.now v c.loop-k.invariant.1 (search rules) (ap (λ s. s.value) (sym c.index.ensures) ∙ c.if-index-value.true)
    ∙ ap (λ xs. cond (v == c.args.value) (origin_written c.args.by) (origin_at xs v)) c.loop-k.invariant.0

pub loop-k-preserved : goal.loop-k-preserved
loop-k-preserved c = (c.loop-k.invariant.0, unset_more c.args.value c.loop-k.origins.items c.loop-k.k c.index.result.now c.loop-k.invariant.1 (search rules) (ap (λ s. s.value == c.args.value) (sym c.index.ensures) ∙ unequal c.index.result.now.value c.args.value c.if-index-value.false))

pub returns : goal.returns
returns c = λ v.
    let e : c.loop-k.k ≡ length c.loop-k.origins.items = omega (arith, c.loop-k-test.false, c.loop-k.auto.k-end, ap length c.loop-k.invariant.0, c.len-k-end.ensures) in
    ap (λ xs. origin_at xs v) c.in_ok-push.ensures.items
    ∙ (set_pushed c.args.value c.args.by c.loop-k.origins.items v (subst (Unset c.args.value c.loop-k.origins.items) e c.loop-k.invariant.1)
    ∙ ap (λ xs. cond (v == c.args.value) (origin_written c.args.by) (origin_at xs v)) c.loop-k.invariant.0)
