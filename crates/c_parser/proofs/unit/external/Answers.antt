use Rattle.std.proofs.Common.{refl, ap}
use Rattle.std.proofs.lemmas.Result.{err_from_is_err_and}
use Rattle.c_parser_rules.specs.Tests.{is_semicolon, is_open_brace}
use Rattle.c_parser_expressions.proofs.CodeSteps.{called, call_failed, took, take_failed, gave, when_yes, when_no, saw_yes, saw_no}
use Rattle.c_parser_expressions.proofs.Further.{no_semicolon, no_open_brace}
use Rattle.c_parser.proofs.unit.external.Goals as goal

pub returns-in_err-head : goal.returns-in_err-head
returns-in_err-head c =
    let p = err_from_is_err_and c.from_residual.result c.from_residual.ensures.1 in
    rw (p.1, p.2) (call_failed c.in_err-head.ensures)

pub returns-in_err-take_mark : goal.returns-in_err-take_mark
returns-in_err-take_mark c =
    let p = err_from_is_err_and c.from_residual-in_err-take_mark.result c.from_residual-in_err-take_mark.ensures.1 in
    rw (p.1, p.2) (called c.in_ok-head.ensures (when_yes is_semicolon _ _ (ap is_semicolon (saw_yes c.sees.ensures c.if-sees.true)) (take_failed c.in_err-take_mark.ensures)))

pub returns-then-sees : goal.returns-then-sees
returns-then-sees c = called c.in_ok-head.ensures (when_yes is_semicolon _ _ (ap is_semicolon (saw_yes c.sees.ensures c.if-sees.true)) (took c.in_ok-take_mark.ensures (gave (rw c.new.ensures.items refl))))

pub returns-in_err-declarator : goal.returns-in_err-declarator
returns-in_err-declarator c =
    let p = err_from_is_err_and c.from_residual-in_err-declarator.result c.from_residual-in_err-declarator.ensures.1 in
    rw (p.1, p.2) (called c.in_ok-head.ensures (when_no is_semicolon _ _ (no_semicolon _ (saw_no c.sees.ensures c.if-sees.false)) (call_failed c.in_err-declarator.ensures)))

pub returns-in_err-body : goal.returns-in_err-body
returns-in_err-body c =
    let p = err_from_is_err_and c.from_residual-in_err-body.result c.from_residual-in_err-body.ensures.1 in
    rw (p.1, p.2) (called c.in_ok-head.ensures (when_no is_semicolon _ _ (no_semicolon _ (saw_no c.sees.ensures c.if-sees.false)) (called c.in_ok-declarator.ensures (when_yes is_open_brace _ _ (ap is_open_brace (saw_yes c.sees-2.ensures c.if-sees-2.true)) (call_failed c.in_err-body.ensures)))))

pub returns-then-sees-2 : goal.returns-then-sees-2
returns-then-sees-2 c = called c.in_ok-head.ensures (when_no is_semicolon _ _ (no_semicolon _ (saw_no c.sees.ensures c.if-sees.false)) (called c.in_ok-declarator.ensures (when_yes is_open_brace _ _ (ap is_open_brace (saw_yes c.sees-2.ensures c.if-sees-2.true)) (called c.in_ok-body.ensures (gave refl)))))

pub returns-in_err-first : goal.returns-in_err-first
returns-in_err-first c =
    let p = err_from_is_err_and c.from_residual-in_err-first.result c.from_residual-in_err-first.ensures.1 in
    rw (p.1, p.2) (called c.in_ok-head.ensures (when_no is_semicolon _ _ (no_semicolon _ (saw_no c.sees.ensures c.if-sees.false)) (called c.in_ok-declarator.ensures (when_no is_open_brace _ _ (no_open_brace _ (saw_no c.sees-2.ensures c.if-sees-2.false)) (call_failed c.in_err-first.ensures)))))

pub returns-in_err-declarators : goal.returns-in_err-declarators
returns-in_err-declarators c =
    let p = err_from_is_err_and c.from_residual-in_err-declarators.result c.from_residual-in_err-declarators.ensures.1 in
    rw (p.1, p.2) (called c.in_ok-head.ensures (when_no is_semicolon _ _ (no_semicolon _ (saw_no c.sees.ensures c.if-sees.false)) (called c.in_ok-declarator.ensures (when_no is_open_brace _ _ (no_open_brace _ (saw_no c.sees-2.ensures c.if-sees-2.false)) (called c.in_ok-first.ensures (call_failed c.in_err-declarators.ensures))))))

pub returns-in_err-take_mark-2 : goal.returns-in_err-take_mark-2
returns-in_err-take_mark-2 c =
    let p = err_from_is_err_and c.from_residual-in_err-take_mark-2.result c.from_residual-in_err-take_mark-2.ensures.1 in
    rw (p.1, p.2) (called c.in_ok-head.ensures (when_no is_semicolon _ _ (no_semicolon _ (saw_no c.sees.ensures c.if-sees.false)) (called c.in_ok-declarator.ensures (when_no is_open_brace _ _ (no_open_brace _ (saw_no c.sees-2.ensures c.if-sees-2.false)) (called c.in_ok-first.ensures (called c.in_ok-declarators.ensures (take_failed c.in_err-take_mark-2.ensures)))))))

pub returns : goal.returns
returns c = called c.in_ok-head.ensures (when_no is_semicolon _ _ (no_semicolon _ (saw_no c.sees.ensures c.if-sees.false)) (called c.in_ok-declarator.ensures (when_no is_open_brace _ _ (no_open_brace _ (saw_no c.sees-2.ensures c.if-sees-2.false)) (called c.in_ok-first.ensures (called c.in_ok-declarators.ensures (took c.in_ok-take_mark-2.ensures (gave refl)))))))
