use Rattle.std.proofs.Common.{add-one, sym, ◌∙◌, ◌+◌}
use Rattle.std.proofs.lemmas.Result.{err_from_is_err_and}
use Rattle.c_parser_rules.specs.Bodies.{parameter_declarator_by}
use Rattle.c_parser_expressions.proofs.CodeSteps.{called, call_failed, took, take_failed, gave, looked, seen_as, refused, took_next, saw_yes, saw_no}
use Rattle.c_parser_expressions.proofs.Next.{name_is}
use Rattle.c_parser_expressions.proofs.Further.{no_parameter_name}
use Rattle.c_parser.proofs.parameter.+parameter.Goals as goal

pub parameter_declarator-returns-in_err-stars : goal.parameter_declarator-returns-in_err-stars
parameter_declarator-returns-in_err-stars t c =
    let p = err_from_is_err_and c.from_residual.result c.from_residual.ensures.1 in
    rw (p.1, p.2) (call_failed c.in_err-stars.ensures.reads)

pub parameter_declarator-returns-in_err-arrays : goal.parameter_declarator-returns-in_err-arrays
parameter_declarator-returns-in_err-arrays t c =
    let p = err_from_is_err_and c.from_residual-in_err-arrays.result c.from_residual-in_err-arrays.ensures.1 in
    let h = name_is _ _ (sym c.in_ok-name.ensures ∙ c.in-Some.is) in
    rw (p.1, p.2) (called c.in_ok-stars.ensures.reads (seen_as (parameter_declarator_by (c.args.depth + c.in_ok-stars.stars) c.args.at c.in_ok-stars.stars) _ h (took_next h c.in_ok-own.ensures (call_failed c.in_err-arrays.ensures))))

pub parameter_declarator-returns-in-Some : goal.parameter_declarator-returns-in-Some
parameter_declarator-returns-in-Some t c =
    let h = name_is _ _ (sym c.in_ok-name.ensures ∙ c.in-Some.is) in
    called c.in_ok-stars.ensures.reads (seen_as (parameter_declarator_by (c.args.depth + c.in_ok-stars.stars) c.args.at c.in_ok-stars.stars) _ h (took_next h c.in_ok-own.ensures (called c.in_ok-arrays.ensures (gave c.named_parameter.ensures))))

pub parameter_declarator-returns-then-sees : goal.parameter_declarator-returns-then-sees
parameter_declarator-returns-then-sees t c =
    let h = saw_yes c.sees.ensures c.if-sees.true in
    called c.in_ok-stars.ensures.reads (seen_as (parameter_declarator_by (c.args.depth + c.in_ok-stars.stars) c.args.at c.in_ok-stars.stars) _ h c.nested.ensures)

pub parameter_declarator-returns-in_err-arrays-2 : goal.parameter_declarator-returns-in_err-arrays-2
parameter_declarator-returns-in_err-arrays-2 t c =
    let p = err_from_is_err_and c.from_residual-in_err-arrays-2.result c.from_residual-in_err-arrays-2.ensures.1 in
    rw (p.1, p.2) (called c.in_ok-stars.ensures.reads (looked (parameter_declarator_by (c.args.depth + c.in_ok-stars.stars) c.args.at c.in_ok-stars.stars) _ (no_parameter_name _ _ _ _ (sym c.in_ok-name.ensures ∙ c.in_default.is) (saw_no c.sees.ensures c.if-sees.false)) (call_failed c.in_err-arrays-2.ensures)))

pub parameter_declarator-returns : goal.parameter_declarator-returns
parameter_declarator-returns t c = called c.in_ok-stars.ensures.reads (looked (parameter_declarator_by (c.args.depth + c.in_ok-stars.stars) c.args.at c.in_ok-stars.stars) _ (no_parameter_name _ _ _ _ (sym c.in_ok-name.ensures ∙ c.in_default.is) (saw_no c.sees.ensures c.if-sees.false)) (called c.in_ok-arrays-2.ensures (gave c.unnamed_parameter.ensures)))

pub nested-returns-in_err-take_mark : goal.nested-returns-in_err-take_mark
nested-returns-in_err-take_mark t c =
    let p = err_from_is_err_and c.from_residual.result c.from_residual.ensures.1 in
    rw (p.1, p.2) (take_failed c.in_err-take_mark.ensures)

pub nested-returns-in_err-inner : goal.nested-returns-in_err-inner
nested-returns-in_err-inner t c =
    let p = err_from_is_err_and c.from_residual-in_err-inner.result c.from_residual-in_err-inner.ensures.1 in
    rw (p.1, p.2) (took c.in_ok-take_mark.ensures (call_failed (rw add-one at c.in_err-inner.ensures)))

pub nested-returns-then-is_no_declarator : goal.nested-returns-then-is_no_declarator
nested-returns-then-is_no_declarator t c = took c.in_ok-take_mark.ensures (called (rw add-one at c.in_ok-inner.ensures) (rw (sym c.is_no_declarator.ensures ∙ c.if-is_no_declarator.true) refused))

pub nested-returns-in_err-take_mark-2 : goal.nested-returns-in_err-take_mark-2
nested-returns-in_err-take_mark-2 t c =
    let p = err_from_is_err_and c.from_residual-in_err-take_mark-2.result c.from_residual-in_err-take_mark-2.ensures.1 in
    rw (p.1, p.2) (took c.in_ok-take_mark.ensures (called (rw add-one at c.in_ok-inner.ensures) (rw (sym c.is_no_declarator.ensures ∙ c.if-is_no_declarator.false) (take_failed c.in_err-take_mark-2.ensures))))

pub nested-returns-in_err-arrays : goal.nested-returns-in_err-arrays
nested-returns-in_err-arrays t c =
    let p = err_from_is_err_and c.from_residual-in_err-arrays.result c.from_residual-in_err-arrays.ensures.1 in
    rw (p.1, p.2) (took c.in_ok-take_mark.ensures (called (rw add-one at c.in_ok-inner.ensures) (rw (sym c.is_no_declarator.ensures ∙ c.if-is_no_declarator.false) (took c.in_ok-take_mark-2.ensures (call_failed c.in_err-arrays.ensures)))))

pub nested-returns : goal.nested-returns
nested-returns t c = took c.in_ok-take_mark.ensures (called (rw add-one at c.in_ok-inner.ensures) (rw (sym c.is_no_declarator.ensures ∙ c.if-is_no_declarator.false) (took c.in_ok-take_mark-2.ensures (called c.in_ok-arrays.ensures (gave c.in_ok-nested.ensures)))))
