use Rattle.std.proofs.Common.{add-one, refl}
use Rattle.std.proofs.lemmas.Result.{err_from_is_err_and}
use Rattle.c_parser_expressions.proofs.CodeSteps.{called, call_failed, took, take_failed, gave}
use Rattle.c_parser.proofs.array.array.Goals as goal

pub returns-in_err-at : goal.returns-in_err-at
returns-in_err-at c =
    let p = err_from_is_err_and c.from_residual.result c.from_residual.ensures.1 in
    rw (p.1, p.2) (take_failed c.in_err-at.ensures)

pub returns-in_err-size : goal.returns-in_err-size
returns-in_err-size c =
    let p = err_from_is_err_and c.from_residual-in_err-size.result c.from_residual-in_err-size.ensures.1 in
    rw (p.1, p.2) (took c.in_ok-at.ensures (call_failed (rw add-one at c.in_err-size.ensures)))

pub returns-in_err-take_mark : goal.returns-in_err-take_mark
returns-in_err-take_mark c =
    let p = err_from_is_err_and c.from_residual-in_err-take_mark.result c.from_residual-in_err-take_mark.ensures.1 in
    rw (p.1, p.2) (took c.in_ok-at.ensures (called (rw add-one at c.in_ok-size.ensures) (take_failed c.in_err-take_mark.ensures)))

pub returns : goal.returns
returns c = took c.in_ok-at.ensures (called (rw add-one at c.in_ok-size.ensures) (took c.in_ok-take_mark.ensures (gave refl)))
