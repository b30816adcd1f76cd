use Rattle.std.proofs.Common.{refl, ap}
use Rattle.std.proofs.lemmas.Result.{err_from_is_err_and}
use Rattle.c_parser_rules.specs.Tests.{is_equal}
use Rattle.c_parser_expressions.proofs.CodeSteps.{called, call_failed, took, take_failed, gave, when_yes, when_no, saw_yes, saw_no}
use Rattle.c_parser_expressions.proofs.Further.{no_equal}
use Rattle.c_parser.proofs.declaration.init_rest.Goals as goal

pub returns-then-not-sees : goal.returns-then-not-sees
returns-then-not-sees c = when_no is_equal _ _ (no_equal _ (saw_no c.sees.ensures c.if-not-sees.true)) (gave (rw c.at.ensures refl))

pub returns-in_err-at : goal.returns-in_err-at
returns-in_err-at c =
    let p = err_from_is_err_and c.from_residual.result c.from_residual.ensures.1 in
    rw (p.1, p.2) (when_yes is_equal _ _ (ap is_equal (saw_yes c.sees.ensures c.if-not-sees.false)) (take_failed c.in_err-at.ensures))

pub returns-in_err-initializer : goal.returns-in_err-initializer
returns-in_err-initializer c =
    let p = err_from_is_err_and c.from_residual-in_err-initializer.result c.from_residual-in_err-initializer.ensures.1 in
    rw (p.1, p.2) (when_yes is_equal _ _ (ap is_equal (saw_yes c.sees.ensures c.if-not-sees.false)) (took c.in_ok-at.ensures (call_failed c.in_err-initializer.ensures)))

pub returns : goal.returns
returns c = when_yes is_equal _ _ (ap is_equal (saw_yes c.sees.ensures c.if-not-sees.false)) (took c.in_ok-at.ensures (called c.in_ok-initializer.ensures (gave refl)))
