use Rattle.std.proofs.Common.{refl}
use Rattle.std.proofs.lemmas.Result.{err_from_is_err_and}
use Rattle.c_parser_expressions.proofs.CodeSteps.{called, call_failed, gave}
use Rattle.c_parser.proofs.parameter.parameter.Goals as goal

pub returns-in_err-specifier : goal.returns-in_err-specifier
returns-in_err-specifier c =
    let p = err_from_is_err_and c.from_residual.result c.from_residual.ensures.1 in
    rw (p.1, p.2) (call_failed c.in_err-specifier.ensures)

pub returns-in_err-declarator : goal.returns-in_err-declarator
returns-in_err-declarator c =
    let p = err_from_is_err_and c.from_residual-in_err-declarator.result c.from_residual-in_err-declarator.ensures.1 in
    rw (p.1, p.2) (called c.in_ok-specifier.ensures (call_failed (rw c.at-at.ensures at c.in_err-declarator.ensures)))

pub returns : goal.returns
returns c = called c.in_ok-specifier.ensures (called (rw c.at-at.ensures at c.in_ok-declarator.ensures) (gave (rw c.at-at.ensures refl)))
