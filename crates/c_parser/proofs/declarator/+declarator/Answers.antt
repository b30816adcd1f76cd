use Rattle.std.proofs.Common.{add-one, sym, ◌∙◌, ◌+◌}
use Rattle.std.proofs.lemmas.Result.{err_from_is_err_and}
use Rattle.c_parser_rules.specs.Bodies.{declarator_by}
use Rattle.c_parser_expressions.proofs.CodeSteps.{called, call_failed, took, take_failed, gave, looked, seen_as, refused, took_next, saw_yes, saw_no}
use Rattle.c_parser_expressions.proofs.Next.{name_is}
use Rattle.c_parser_expressions.proofs.Further.{no_declared_name}
use Rattle.c_parser.proofs.declarator.+declarator.Goals as goal

pub declarator-returns-in_err-stars : goal.declarator-returns-in_err-stars
declarator-returns-in_err-stars t c =
    let p = err_from_is_err_and c.from_residual.result c.from_residual.ensures.1 in
    rw (p.1, p.2) (call_failed c.in_err-stars.ensures.reads)

pub declarator-returns-in_err-suffixes : goal.declarator-returns-in_err-suffixes
declarator-returns-in_err-suffixes t c =
    let p = err_from_is_err_and c.from_residual-in_err-suffixes.result c.from_residual-in_err-suffixes.ensures.1 in
    let h = name_is _ _ (sym c.in_ok-name.ensures ∙ c.in-Some.is) in
    rw (p.1, p.2) (called c.in_ok-stars.ensures.reads (seen_as (declarator_by (c.args.depth + c.in_ok-stars.stars) c.in_ok-stars.stars) _ h (took_next h c.in_ok-at.ensures (call_failed c.in_err-suffixes.ensures))))

pub declarator-returns-in-Some : goal.declarator-returns-in-Some
declarator-returns-in-Some t c =
    let h = name_is _ _ (sym c.in_ok-name.ensures ∙ c.in-Some.is) in
    called c.in_ok-stars.ensures.reads (seen_as (declarator_by (c.args.depth + c.in_ok-stars.stars) c.in_ok-stars.stars) _ h (took_next h c.in_ok-at.ensures (called c.in_ok-suffixes.ensures (gave c.named.ensures))))

pub declarator-returns-then-sees : goal.declarator-returns-then-sees
declarator-returns-then-sees t c =
    let h = saw_yes c.sees.ensures c.if-sees.true in
    called c.in_ok-stars.ensures.reads (seen_as (declarator_by (c.args.depth + c.in_ok-stars.stars) c.in_ok-stars.stars) _ h c.nested.ensures)

pub declarator-returns : goal.declarator-returns
declarator-returns t c = called c.in_ok-stars.ensures.reads (looked (declarator_by (c.args.depth + c.in_ok-stars.stars) c.in_ok-stars.stars) _ (no_declared_name _ _ _ (sym c.in_ok-name.ensures ∙ c.in_default.is) (saw_no c.sees.ensures c.if-sees.false)) refused)

pub nested-returns-in_err-take_mark : goal.nested-returns-in_err-take_mark
nested-returns-in_err-take_mark t c =
    let p = err_from_is_err_and c.from_residual.result c.from_residual.ensures.1 in
    rw (p.1, p.2) (take_failed c.in_err-take_mark.ensures)

pub nested-returns-in_err-inner : goal.nested-returns-in_err-inner
nested-returns-in_err-inner t c =
    let p = err_from_is_err_and c.from_residual-in_err-inner.result c.from_residual-in_err-inner.ensures.1 in
    rw (p.1, p.2) (took c.in_ok-take_mark.ensures (call_failed (rw add-one at c.in_err-inner.ensures)))

pub nested-returns-in_err-take_mark-2 : goal.nested-returns-in_err-take_mark-2
nested-returns-in_err-take_mark-2 t c =
    let p = err_from_is_err_and c.from_residual-in_err-take_mark-2.result c.from_residual-in_err-take_mark-2.ensures.1 in
    rw (p.1, p.2) (took c.in_ok-take_mark.ensures (called (rw add-one at c.in_ok-inner.ensures) (take_failed c.in_err-take_mark-2.ensures)))

pub nested-returns-in_err-suffixes : goal.nested-returns-in_err-suffixes
nested-returns-in_err-suffixes t c =
    let p = err_from_is_err_and c.from_residual-in_err-suffixes.result c.from_residual-in_err-suffixes.ensures.1 in
    rw (p.1, p.2) (took c.in_ok-take_mark.ensures (called (rw add-one at c.in_ok-inner.ensures) (took c.in_ok-take_mark-2.ensures (call_failed c.in_err-suffixes.ensures))))

pub nested-returns : goal.nested-returns
nested-returns t c = took c.in_ok-take_mark.ensures (called (rw add-one at c.in_ok-inner.ensures) (took c.in_ok-take_mark-2.ensures (called c.in_ok-suffixes.ensures (gave c.in_ok-nested.ensures))))
