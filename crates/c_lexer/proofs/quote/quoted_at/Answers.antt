use Rattle.std.proofs.Common.{◌<◌, ◌≤◌, Ok, length, length-drop, sym, ap, subst, arith, ◌∙◌}
use Rattle.std.proofs.lemmas.List.{take_rest}
use Rattle.std.specs.Prelude.{IfSome}
use Rattle.c_lexer.specs.Reading.{Step}
use Rattle.std.proofs.lemmas.Result.{err_from_is_err_and}
use Rattle.c_lexer.proofs.QuoteLemmas.{loop_goes, loop_closes, loop_fails, none_moves}
use Rattle.c_lexer.proofs.quote.quoted_at.Goals as goal

pub returns-in_err-value-clause-value : goal.returns-in_err-value-clause-value
returns-in_err-value-clause-value c =
    let p = err_from_is_err_and c.from_residual.result c.from_residual.ensures.1 in
    rw (p.1, p.2) (loop_fails c.args.quote c.args.text.now c.loop-values.values c.loop-values.rest.now c.in_err-value.field-0.0 c.loop-values.invariant.0 (sym c.in_err-value.ensures.value))

pub loop-values-preserved : goal.loop-values-preserved
loop-values-preserved c =
    let rest = c.loop-values.rest.now in
    let bounds = subst (λ o. IfSome o (λ item. (0 < item.1) × (item.1 ≤ length rest))) c.in-Some.is c.in_ok-value.ensures.len in
    let read = sym c.in_ok-value.ensures.value ∙ ap {B = Step} (λ o. Ok o) c.in-Some.is in (
      loop_goes c.args.quote _ c.loop-values.values _ rest _ c.in-Some.value c.in-Some.len read bounds.0 bounds.1 c.loop-values.invariant.0 c.in_ok-push.ensures.ok (take_rest rest c.in-Some.len),
      rw (take_rest rest c.in-Some.len) (omega (arith, bounds.0, c.loop-values.invariant.1, length-drop c.in-Some.len rest)),
    )

pub returns-clause-value : goal.returns-clause-value
returns-clause-value c =
    let read = sym c.in_ok-value.ensures.value ∙ ap {B = Step} (λ o. Ok o) c.in_default.is in
    loop_closes c.args.quote c.args.text.now c.loop-values.values c.loop-values.rest.now c.loop-values.invariant.0 read

pub returns-clause-within : goal.returns-clause-within
returns-clause-within c =
    let read = sym c.in_ok-value.ensures.value ∙ ap {B = Step} (λ o. Ok o) c.in_default.is in
    let some = none_moves c.args.quote c.loop-values.rest.now read in
    omega (arith, c.loop-values.invariant.1)
