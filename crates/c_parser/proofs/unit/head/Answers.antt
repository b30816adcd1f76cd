use Rattle.std.proofs.Common.{refl}
use Rattle.std.proofs.lemmas.Result.{err_from_is_err_and}
use Rattle.c_parser_rules.specs.Bodies.{head_by}
use Rattle.c_parser_expressions.proofs.CodeSteps.{called, call_failed, gave, looked, seen_as, took_next, saw_yes, saw_no}
use Rattle.c_parser_expressions.proofs.Further.{no_struct}
use Rattle.c_parser.proofs.unit.head.Goals as goal

pub returns-in_err-tag : goal.returns-in_err-tag
returns-in_err-tag c =
    let p = err_from_is_err_and c.from_residual-in_err-tag.result c.from_residual-in_err-tag.ensures.1 in
    let h = saw_yes c.sees_word.ensures c.if-sees_word.true in
    rw (p.1, p.2) (seen_as (head_by c.args.depth) _ h (took_next h c.in_ok-at.ensures (call_failed c.in_err-tag.ensures)))

pub returns-then-sees_word : goal.returns-then-sees_word
returns-then-sees_word c =
    let h = saw_yes c.sees_word.ensures c.if-sees_word.true in
    seen_as (head_by c.args.depth) _ h (took_next h c.in_ok-at.ensures (called c.in_ok-tag.ensures c.structure.ensures))

pub returns-in_err-specifier : goal.returns-in_err-specifier
returns-in_err-specifier c =
    let p = err_from_is_err_and c.from_residual-in_err-specifier.result c.from_residual-in_err-specifier.ensures.1 in
    rw (p.1, p.2) (looked (head_by c.args.depth) _ (no_struct _ _ (saw_no c.sees_word.ensures c.if-sees_word.false)) (call_failed c.in_err-specifier.ensures))

pub returns : goal.returns
returns c = looked (head_by c.args.depth) _ (no_struct _ _ (saw_no c.sees_word.ensures c.if-sees_word.false)) (called c.in_ok-specifier.ensures (gave (rw c.at-at.ensures refl)))
