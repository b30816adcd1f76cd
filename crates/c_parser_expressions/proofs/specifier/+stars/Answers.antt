use Rattle.std.proofs.Common.{add-one, arith, refl, sym, ◌∙◌}
use Rattle.std.proofs.lemmas.Result.{err_from_is_err_and}
use Rattle.c_parser_rules.specs.Tests.{is_star}
use Rattle.c_parser_expressions.proofs.CodeSteps.{when_yes, when_no, took, take_failed, called, call_failed, gave}
use Rattle.c_parser_expressions.proofs.specifier.+stars.Goals as goal

pub returns-in_err-more-clause-reads : goal.returns-in_err-more-clause-reads
returns-in_err-more-clause-reads t c =
    let p = err_from_is_err_and c.from_residual-in_err-more.result c.from_residual-in_err-more.ensures.1 in
    rw (p.1, p.2) (when_yes is_star _ _ (sym c.sees_star.ensures ∙ c.if-not-sees_star.false) (took c.in_ok-take_mark.ensures (call_failed (rw add-one at c.in_err-more.ensures.reads))))

pub returns-in_err-take_mark-clause-reads : goal.returns-in_err-take_mark-clause-reads
returns-in_err-take_mark-clause-reads t c =
    let p = err_from_is_err_and c.from_residual.result c.from_residual.ensures.1 in
    rw (p.1, p.2) (when_yes is_star _ _ (sym c.sees_star.ensures ∙ c.if-not-sees_star.false) (take_failed c.in_err-take_mark.ensures))

pub returns-then-not-sees_star-clause-reads : goal.returns-then-not-sees_star-clause-reads
returns-then-not-sees_star-clause-reads t c = when_no is_star _ _ (sym c.sees_star.ensures ∙ c.if-not-sees_star.true) (gave refl)

pub returns-clause-reads : goal.returns-clause-reads
returns-clause-reads t c = when_yes is_star _ _ (sym c.sees_star.ensures ∙ c.if-not-sees_star.false) (took c.in_ok-take_mark.ensures (called (rw add-one at c.in_ok-more.ensures.reads) (gave (omega arith))))
