use Rattle.std.proofs.Common.{ap}
use Rattle.std.proofs.lemmas.Result.{err_from_is_err_and}
use Rattle.c_parser_rules.specs.Tests.{is_comma}
use Rattle.c_parser_expressions.proofs.CodeSteps.{saw_yes, saw_no}
use Rattle.c_parser_expressions.proofs.Choices.{no_comma}
use Rattle.c_parser_expressions.proofs.Fewer.{comma_shorter}
use Rattle.c_parser_expressions.proofs.Lists.{commas_more, commas_end, commas_failed}
use Rattle.c_parser.proofs.declaration.init_declarators.Goals as goal

pub declarators-init : goal.declarators-init
declarators-init c = λ res new g. g

pub declarators-smaller : goal.declarators-smaller
declarators-smaller c = comma_shorter c.in_ok-declarator.ensures c.in_ok-take_mark.ensures

pub declarators-preserved : goal.declarators-preserved
declarators-preserved c = λ res new g. c.declarators.invariant res new
    (commas_more c.in_ok-declarator.ensures (ap is_comma (saw_yes c.sees.ensures c.if-not-sees.false)) c.in_ok-take_mark.ensures c.in_ok-push.ensures.items g)

pub returns-in_err-declarator : goal.returns-in_err-declarator
returns-in_err-declarator c =
    let p = err_from_is_err_and c.from_residual.result c.from_residual.ensures.1 in
    rw (p.1, p.2) (c.declarators.invariant _ _ (commas_failed c.in_err-declarator.ensures))

pub returns-in_err-push : goal.returns-in_err-push
returns-in_err-push c =
    let p = err_from_is_err_and c.from_residual-in_err-push.result c.from_residual-in_err-push.ensures.1 in
    rw (p.1, p.2) (record { answer = tt })

pub returns-then-not-sees : goal.returns-then-not-sees
returns-then-not-sees c = c.declarators.invariant _ _ (commas_end c.in_ok-declarator.ensures (no_comma _ (saw_no c.sees.ensures c.if-not-sees.true)) c.in_ok-push.ensures.items)
