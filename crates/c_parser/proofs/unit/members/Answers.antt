use Rattle.std.proofs.Common.{ap}
use Rattle.std.proofs.lemmas.Result.{err_from_is_err_and}
use Rattle.c_parser_rules.specs.Tests.{goes_on}
use Rattle.c_parser_expressions.proofs.CodeSteps.{saw_yes, saw_no}
use Rattle.c_parser_expressions.proofs.Fewer.{shorter_by, member_moves}
use Rattle.c_parser_expressions.proofs.Lists.{repeat_more, repeat_failed, repeat_end}
use Rattle.c_parser_expressions.proofs.Further.{no_end}
use Rattle.c_parser.proofs.unit.members.Goals as goal

pub members-init : goal.members-init
members-init c = λ res new g. g

pub members-smaller : goal.members-smaller
members-smaller c = shorter_by (member_moves c.args.depth) c.in_ok-member.ensures

pub members-preserved : goal.members-preserved
members-preserved c = λ res new g. c.members.invariant res new
    (repeat_more goes_on _ (no_end _ (saw_no c.sees.ensures c.members-test.true)) c.in_ok-member.ensures c.in_ok-push.ensures.items g)

pub returns-in_err-member : goal.returns-in_err-member
returns-in_err-member c =
    let p = err_from_is_err_and c.from_residual.result c.from_residual.ensures.1 in
    rw (p.1, p.2) (c.members.invariant _ _ (repeat_failed goes_on _ (no_end _ (saw_no c.sees.ensures c.members-test.true)) c.in_err-member.ensures))

pub returns-in_err-push : goal.returns-in_err-push
returns-in_err-push c =
    let p = err_from_is_err_and c.from_residual-in_err-push.result c.from_residual-in_err-push.ensures.1 in
    rw (p.1, p.2) (record { answer = tt })

pub returns : goal.returns
returns c = c.members.invariant _ _ (repeat_end goes_on _ (ap goes_on (saw_yes c.sees.ensures c.members-test.false)))
