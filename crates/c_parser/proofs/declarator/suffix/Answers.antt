use Rattle.std.proofs.Common.{add-one, refl, ap}
use Rattle.std.proofs.lemmas.Result.{err_from_is_err_and}
use Rattle.c_parser_rules.specs.Tests.{is_open_bracket}
use Rattle.c_parser_expressions.proofs.CodeSteps.{called, call_failed, took, take_failed, gave, when_yes, when_no, saw_yes, saw_no}
use Rattle.c_parser_expressions.proofs.Choices.{no_open_bracket}
use Rattle.c_parser.proofs.declarator.suffix.Goals as goal

pub returns-in_err-array : goal.returns-in_err-array
returns-in_err-array c =
    let p = err_from_is_err_and c.from_residual.result c.from_residual.ensures.1 in
    rw (p.1, p.2) (when_yes is_open_bracket _ _ (ap is_open_bracket (saw_yes c.sees.ensures c.if-sees.true)) (call_failed c.in_err-array.ensures))

pub returns-then-sees : goal.returns-then-sees
returns-then-sees c = when_yes is_open_bracket _ _ (ap is_open_bracket (saw_yes c.sees.ensures c.if-sees.true)) (called c.in_ok-array.ensures (gave refl))

pub returns-in_err-at : goal.returns-in_err-at
returns-in_err-at c =
    let p = err_from_is_err_and c.from_residual-in_err-at.result c.from_residual-in_err-at.ensures.1 in
    rw (p.1, p.2) (when_no is_open_bracket _ _ (no_open_bracket _ (saw_no c.sees.ensures c.if-sees.false)) (take_failed c.in_err-at.ensures))

pub returns-in_err-parameters : goal.returns-in_err-parameters
returns-in_err-parameters c =
    let p = err_from_is_err_and c.from_residual-in_err-parameters.result c.from_residual-in_err-parameters.ensures.1 in
    rw (p.1, p.2) (when_no is_open_bracket _ _ (no_open_bracket _ (saw_no c.sees.ensures c.if-sees.false)) (took c.in_ok-at.ensures (call_failed (rw add-one at c.in_err-parameters.ensures))))

pub returns-in_err-take_mark : goal.returns-in_err-take_mark
returns-in_err-take_mark c =
    let p = err_from_is_err_and c.from_residual-in_err-take_mark.result c.from_residual-in_err-take_mark.ensures.1 in
    rw (p.1, p.2) (when_no is_open_bracket _ _ (no_open_bracket _ (saw_no c.sees.ensures c.if-sees.false)) (took c.in_ok-at.ensures (called (rw add-one at c.in_ok-parameters.ensures) (take_failed c.in_err-take_mark.ensures))))

pub returns : goal.returns
returns c = when_no is_open_bracket _ _ (no_open_bracket _ (saw_no c.sees.ensures c.if-sees.false)) (took c.in_ok-at.ensures (called (rw add-one at c.in_ok-parameters.ensures) (took c.in_ok-take_mark.ensures (gave refl))))
