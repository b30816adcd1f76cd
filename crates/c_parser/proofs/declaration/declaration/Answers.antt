use Rattle.std.proofs.Common.{refl, ap}
use Rattle.std.proofs.lemmas.Result.{err_from_is_err_and}
use Rattle.c_parser_rules.specs.Tests.{is_semicolon}
use Rattle.c_parser_expressions.proofs.CodeSteps.{called, call_failed, took, take_failed, gave, when_yes, when_no, saw_yes, saw_no}
use Rattle.c_parser_expressions.proofs.Lists.{collected, goes_failed}
use Rattle.c_parser_expressions.proofs.Further.{no_semicolon}
use Rattle.c_parser.proofs.declaration.declaration.Goals as goal

pub returns-in_err-specifier : goal.returns-in_err-specifier
returns-in_err-specifier c =
    let p = err_from_is_err_and c.from_residual.result c.from_residual.ensures.1 in
    rw (p.1, p.2) (call_failed c.in_err-specifier.ensures)

pub returns-in_err-take_mark : goal.returns-in_err-take_mark
returns-in_err-take_mark c =
    let p = err_from_is_err_and c.from_residual-in_err-take_mark.result c.from_residual-in_err-take_mark.ensures.1 in
    rw (p.1, p.2) (called c.in_ok-specifier.ensures (when_yes is_semicolon _ _ (ap is_semicolon (saw_yes c.sees.ensures c.if-sees.true)) (take_failed c.in_err-take_mark.ensures)))

pub returns-then-sees : goal.returns-then-sees
returns-then-sees c = called c.in_ok-specifier.ensures (when_yes is_semicolon _ _ (ap is_semicolon (saw_yes c.sees.ensures c.if-sees.true)) (took c.in_ok-take_mark.ensures (gave (rw (c.at-at.ensures, c.new-declarators.ensures.items) refl))))

pub returns-in_err-declarators : goal.returns-in_err-declarators
returns-in_err-declarators c =
    let p = err_from_is_err_and c.from_residual-in_err-declarators.result c.from_residual-in_err-declarators.ensures.1 in
    rw (p.1, p.2) (called c.in_ok-specifier.ensures (when_no is_semicolon _ _ (no_semicolon _ (saw_no c.sees.ensures c.if-sees.false)) (goes_failed c.in_err-declarators.ensures)))

pub returns-in_err-take_mark-2 : goal.returns-in_err-take_mark-2
returns-in_err-take_mark-2 c =
    let p = err_from_is_err_and c.from_residual-in_err-take_mark-2.result c.from_residual-in_err-take_mark-2.ensures.1 in
    rw (p.1, p.2) (called c.in_ok-specifier.ensures (when_no is_semicolon _ _ (no_semicolon _ (saw_no c.sees.ensures c.if-sees.false)) (called (collected c.new-declarators.ensures.items c.in_ok-declarators.ensures) (take_failed c.in_err-take_mark-2.ensures))))

pub returns : goal.returns
returns c = called c.in_ok-specifier.ensures (when_no is_semicolon _ _ (no_semicolon _ (saw_no c.sees.ensures c.if-sees.false)) (called (collected c.new-declarators.ensures.items c.in_ok-declarators.ensures) (took c.in_ok-take_mark-2.ensures (gave (rw c.at-at.ensures refl)))))
