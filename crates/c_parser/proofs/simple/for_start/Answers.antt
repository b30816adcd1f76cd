use Rattle.std.proofs.Common.{refl, sym, ◌∙◌}
use Rattle.std.proofs.lemmas.Result.{err_from_is_err_and}
use Rattle.c_parser_rules.specs.Tests.{begins_specifier}
use Rattle.c_parser_expressions.proofs.CodeSteps.{called, call_failed, took, take_failed, gave, when_yes, when_no}
use Rattle.c_parser.proofs.simple.for_start.Goals as goal

pub returns-in_err-declaration : goal.returns-in_err-declaration
returns-in_err-declaration c =
    let p = err_from_is_err_and c.from_residual.result c.from_residual.ensures.1 in
    rw (p.1, p.2) (when_yes begins_specifier _ _ (sym c.sees_type.ensures ∙ c.if-sees_type.true) (call_failed c.in_err-declaration.ensures))

pub returns-then-sees_type : goal.returns-then-sees_type
returns-then-sees_type c = when_yes begins_specifier _ _ (sym c.sees_type.ensures ∙ c.if-sees_type.true) (called c.in_ok-declaration.ensures (gave refl))

pub returns-in_err-value : goal.returns-in_err-value
returns-in_err-value c =
    let p = err_from_is_err_and c.from_residual-in_err-value.result c.from_residual-in_err-value.ensures.1 in
    rw (p.1, p.2) (when_no begins_specifier _ _ (sym c.sees_type.ensures ∙ c.if-sees_type.false) (call_failed c.in_err-value.ensures))

pub returns-in_err-take_mark : goal.returns-in_err-take_mark
returns-in_err-take_mark c =
    let p = err_from_is_err_and c.from_residual-in_err-take_mark.result c.from_residual-in_err-take_mark.ensures.1 in
    rw (p.1, p.2) (when_no begins_specifier _ _ (sym c.sees_type.ensures ∙ c.if-sees_type.false) (called c.in_ok-value.ensures (take_failed c.in_err-take_mark.ensures)))

pub returns : goal.returns
returns c = when_no begins_specifier _ _ (sym c.sees_type.ensures ∙ c.if-sees_type.false) (called c.in_ok-value.ensures (took c.in_ok-take_mark.ensures (gave refl)))
