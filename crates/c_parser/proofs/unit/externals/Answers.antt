use Rattle.std.proofs.Common.{sym, ◌∙◌}
use Rattle.std.proofs.lemmas.Result.{err_from_is_err_and}
use Rattle.c_parser_rules.specs.Tests.{is_some}
use Rattle.c_parser_expressions.proofs.Fewer.{shorter_by, external_moves}
use Rattle.c_parser_expressions.proofs.Lists.{repeat_more, repeat_failed, repeat_end}
use Rattle.c_parser_expressions.proofs.Further.{none_left, not_at_end, ended}
use Rattle.c_parser.proofs.unit.externals.Goals as goal

pub externals-init : goal.externals-init
externals-init c = λ res new g. g

pub externals-smaller : goal.externals-smaller
externals-smaller c = shorter_by (external_moves 0) c.in_ok-external.ensures

pub externals-preserved : goal.externals-preserved
externals-preserved c = λ res new g. c.externals.invariant res new
    (repeat_more is_some _ (not_at_end _ (sym c.is_at_end.ensures ∙ c.externals-test.true)) c.in_ok-external.ensures c.in_ok-push.ensures.items g)

pub returns-in_err-external-clause-reads : goal.returns-in_err-external-clause-reads
returns-in_err-external-clause-reads c =
    let p = err_from_is_err_and c.from_residual.result c.from_residual.ensures.1 in
    rw (p.1, p.2) (c.externals.invariant _ _ (repeat_failed is_some _ (not_at_end _ (sym c.is_at_end.ensures ∙ c.externals-test.true)) c.in_err-external.ensures))

pub returns-in_err-push-clause-reads : goal.returns-in_err-push-clause-reads
returns-in_err-push-clause-reads c =
    let p = err_from_is_err_and c.from_residual-in_err-push.result c.from_residual-in_err-push.ensures.1 in
    rw (p.1, p.2) (record { answer = tt })

pub returns-clause-reads : goal.returns-clause-reads
returns-clause-reads c = c.externals.invariant _ _ (repeat_end is_some _ (ended _ (sym c.is_at_end.ensures ∙ c.externals-test.false)))

pub returns-clause-all : goal.returns-clause-all
returns-clause-all c = none_left _ (sym c.is_at_end.ensures ∙ c.externals-test.false)
