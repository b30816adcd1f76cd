use Rattle.std.proofs.Common.{ap, false}
use Rattle.std.proofs.lemmas.Result.{err_from_is_err_and}
use Rattle.c_parser_rules.specs.Bodies.{statement_by}
use Rattle.c_parser_expressions.proofs.CodeSteps.{called, call_failed, took, take_failed, gave, looked, seen_as, took_next, saw_yes, saw_no}
use Rattle.c_parser_expressions.proofs.Further.{no_jump}
use Rattle.c_parser.proofs.simple.simple.Goals as goal

pub returns-then-sees : goal.returns-then-sees
returns-then-sees c =
    let h = saw_yes c.sees.ensures c.if-sees.true in
    seen_as (statement_by c.args.depth) _ h (took_next h c.in_ok-at.ensures (gave (ap (λ z. (z, false)) c.empty.ensures)))

pub returns-in_err-take_mark : goal.returns-in_err-take_mark
returns-in_err-take_mark c =
    let p = err_from_is_err_and c.from_residual-in_err-take_mark.result c.from_residual-in_err-take_mark.ensures.1 in
    let h = saw_yes c.sees_word.ensures c.if-sees_word.true in
    rw (p.1, p.2) (seen_as (statement_by c.args.depth) _ h (took_next h c.in_ok-at-2.ensures (take_failed c.in_err-take_mark.ensures)))

pub returns-then-sees_word : goal.returns-then-sees_word
returns-then-sees_word c =
    let h = saw_yes c.sees_word.ensures c.if-sees_word.true in
    seen_as (statement_by c.args.depth) _ h (took_next h c.in_ok-at-2.ensures (took c.in_ok-take_mark.ensures (gave (ap (λ z. (z, false)) c.break_statement.ensures))))

pub returns-in_err-take_mark-2 : goal.returns-in_err-take_mark-2
returns-in_err-take_mark-2 c =
    let p = err_from_is_err_and c.from_residual-in_err-take_mark-2.result c.from_residual-in_err-take_mark-2.ensures.1 in
    let h = saw_yes c.sees_word-2.ensures c.if-sees_word-2.true in
    rw (p.1, p.2) (seen_as (statement_by c.args.depth) _ h (took_next h c.in_ok-at-3.ensures (take_failed c.in_err-take_mark-2.ensures)))

pub returns-then-sees_word-2 : goal.returns-then-sees_word-2
returns-then-sees_word-2 c =
    let h = saw_yes c.sees_word-2.ensures c.if-sees_word-2.true in
    seen_as (statement_by c.args.depth) _ h (took_next h c.in_ok-at-3.ensures (took c.in_ok-take_mark-2.ensures (gave (ap (λ z. (z, false)) c.continue_statement.ensures))))

pub returns-in_err-value : goal.returns-in_err-value
returns-in_err-value c =
    let p = err_from_is_err_and c.from_residual-in_err-value.result c.from_residual-in_err-value.ensures.1 in
    let h = saw_yes c.sees_word-3.ensures c.if-sees_word-3.true in
    rw (p.1, p.2) (seen_as (statement_by c.args.depth) _ h (took_next h c.in_ok-at-4.ensures (call_failed c.in_err-value.ensures)))

pub returns-in_err-take_mark-3 : goal.returns-in_err-take_mark-3
returns-in_err-take_mark-3 c =
    let p = err_from_is_err_and c.from_residual-in_err-take_mark-3.result c.from_residual-in_err-take_mark-3.ensures.1 in
    let h = saw_yes c.sees_word-3.ensures c.if-sees_word-3.true in
    rw (p.1, p.2) (seen_as (statement_by c.args.depth) _ h (took_next h c.in_ok-at-4.ensures (called c.in_ok-value.ensures (take_failed c.in_err-take_mark-3.ensures))))

pub returns-then-sees_word-3 : goal.returns-then-sees_word-3
returns-then-sees_word-3 c =
    let h = saw_yes c.sees_word-3.ensures c.if-sees_word-3.true in
    seen_as (statement_by c.args.depth) _ h (took_next h c.in_ok-at-4.ensures (called c.in_ok-value.ensures (took c.in_ok-take_mark-3.ensures (gave (ap (λ z. (z, false)) c.return_statement.ensures)))))

pub returns : goal.returns
returns c = looked (statement_by c.args.depth) _ (no_jump c.args.depth _ c.requires.simple (saw_no c.sees.ensures c.if-sees.false) (saw_no c.sees_word.ensures c.if-sees_word.false)
    (saw_no c.sees_word-2.ensures c.if-sees_word-2.false) (saw_no c.sees_word-3.ensures c.if-sees_word-3.false)) c.value.ensures
