use Rattle.std.proofs.Common.{refl}
use Rattle.std.proofs.lemmas.Result.{err_from_is_err_and}
use Rattle.c_parser_expressions.proofs.CodeSteps.{called, call_failed, took, take_failed, gave}
use Rattle.c_parser.proofs.declaration.member.Goals as goal

pub returns-in_err-specifier : goal.returns-in_err-specifier
returns-in_err-specifier c =
    let p = err_from_is_err_and c.from_residual.result c.from_residual.ensures.1 in
    rw (p.1, p.2) (call_failed c.in_err-specifier.ensures)

pub returns-in_err-declarators : goal.returns-in_err-declarators
returns-in_err-declarators c =
    let p = err_from_is_err_and c.from_residual-in_err-declarators.result c.from_residual-in_err-declarators.ensures.1 in
    rw (p.1, p.2) (called c.in_ok-specifier.ensures (call_failed c.in_err-declarators.ensures))

pub returns-in_err-take_mark : goal.returns-in_err-take_mark
returns-in_err-take_mark c =
    let p = err_from_is_err_and c.from_residual-in_err-take_mark.result c.from_residual-in_err-take_mark.ensures.1 in
    rw (p.1, p.2) (called c.in_ok-specifier.ensures (called c.in_ok-declarators.ensures (take_failed c.in_err-take_mark.ensures)))

pub returns : goal.returns
returns c = called c.in_ok-specifier.ensures (called c.in_ok-declarators.ensures (took c.in_ok-take_mark.ensures (gave (rw c.at-at.ensures refl))))
