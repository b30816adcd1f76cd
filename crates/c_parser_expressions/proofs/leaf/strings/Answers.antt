use Rattle.std.proofs.Common.{sym, ◌∙◌}
use Rattle.std.proofs.lemmas.Result.{err_from_is_err_and}
use Rattle.c_parser_expressions.proofs.CodeSteps.{next_shorter}
use Rattle.c_parser_expressions.proofs.ListSteps.{strings_more, strings_end}
use Rattle.c_parser_expressions.proofs.Next.{text_is, no_text}
use Rattle.c_parser_expressions.proofs.leaf.strings.Goals as goal

pub loop-pieces-init : goal.loop-pieces-init
loop-pieces-init c = λ res new g. g

pub loop-pieces-smaller : goal.loop-pieces-smaller
loop-pieces-smaller c = next_shorter c.in_ok-take_next.ensures

pub loop-pieces-preserved : goal.loop-pieces-preserved
loop-pieces-preserved c = λ res new g. c.loop-pieces.invariant res new
    (strings_more _ _ _ _ _ _ _ _ res (text_is _ _ (sym c.in_ok-bytes.ensures ∙ c.in-Some.is)) c.in_ok-take_next.ensures c.in_ok-push.ensures.items g)

pub returns-in_err-bytes : goal.returns-in_err-bytes
returns-in_err-bytes c =
    let p = err_from_is_err_and c.from_residual.result c.from_residual.ensures.1 in
    rw (p.1, p.2) (record { answer = tt })

pub returns-in_err-push : goal.returns-in_err-push
returns-in_err-push c =
    let p = err_from_is_err_and c.from_residual-in_err-push.result c.from_residual-in_err-push.ensures.1 in
    rw (p.1, p.2) (record { answer = tt })

pub returns : goal.returns
returns c = c.loop-pieces.invariant _ _ (strings_end (λ v. v.items) c.loop-pieces.pieces c.loop-pieces.cursor (no_text _ (sym c.in_ok-bytes.ensures ∙ c.in_default.is)))
