use Rattle.std.proofs.Common.{refl, ap}
use Rattle.std.proofs.lemmas.Result.{err_from_is_err_and}
use Rattle.c_parser_rules.specs.Programs.{Program}
use Rattle.c_parser_rules.specs.Tests.{is_int}
use Rattle.c_parser_rules.specs.Bodies.{specifier_by}
use Rattle.c_parser_expressions.proofs.CodeSteps.{looked, seen_as, refused, took_next, gave, called, call_failed, when_yes, when_no, saw_yes, saw_no}
use Rattle.c_parser_expressions.proofs.Next.{no_word, no_int}
use Rattle.c_parser_expressions.proofs.specifier.specifier.Goals as goal

pub returns-then-sees_word : goal.returns-then-sees_word
returns-then-sees_word c =
    let h = saw_yes c.sees_word.ensures c.if-sees_word.true in
    seen_as specifier_by _ h (took_next h c.in_ok-at.ensures (gave refl))

pub returns-then-sees_word-2 : goal.returns-then-sees_word-2
returns-then-sees_word-2 c =
    let h = saw_yes c.sees_word-2.ensures c.if-sees_word-2.true in
    seen_as specifier_by _ h (took_next h c.in_ok-at-2.ensures (gave refl))

pub returns-then-sees_word-3 : goal.returns-then-sees_word-3
returns-then-sees_word-3 c =
    let h = saw_yes c.sees_word-3.ensures c.if-sees_word-3.true in
    seen_as specifier_by _ h (took_next h c.in_ok-at-3.ensures (gave refl))

pub returns-then-sees_word-5 : goal.returns-then-sees_word-5
returns-then-sees_word-5 c =
    let h = saw_yes c.sees_word-4.ensures c.if-sees_word-4.true in
    let i = saw_yes c.sees_word-then-sees_word-4.ensures c.if-sees_word-5.true in
    seen_as specifier_by _ h (took_next h c.in_ok-at-4.ensures (when_yes is_int _ _ (ap is_int i) (took_next i c.in_ok-take_next.ensures (gave refl))))

pub returns-then-sees_word-4 : goal.returns-then-sees_word-4
returns-then-sees_word-4 c =
    let h = saw_yes c.sees_word-4.ensures c.if-sees_word-4.true in
    let i = no_int _ (saw_no c.sees_word-then-sees_word-4.ensures c.if-sees_word-5.false) in
    seen_as specifier_by _ h (took_next h c.in_ok-at-4.ensures (when_no is_int _ _ i (gave refl)))

pub returns-then-sees_word-6 : goal.returns-then-sees_word-6
returns-then-sees_word-6 c =
    let h = saw_yes c.sees_word-5.ensures c.if-sees_word-6.true in
    seen_as specifier_by _ h (took_next h c.in_ok-at-5.ensures c.unsigned.ensures)

pub returns-in_err-tag : goal.returns-in_err-tag
returns-in_err-tag c =
    let h = saw_yes c.sees_word-6.ensures c.if-sees_word-7.true in
    let p = err_from_is_err_and c.from_residual-in_err-tag.result c.from_residual-in_err-tag.ensures.1 in
    rw (p.1, p.2) (seen_as specifier_by _ h (took_next h c.in_ok-at-6.ensures (call_failed c.in_err-tag.ensures)))

pub returns-then-sees_word-7 : goal.returns-then-sees_word-7
returns-then-sees_word-7 c =
    let h = saw_yes c.sees_word-6.ensures c.if-sees_word-7.true in
    seen_as specifier_by _ h (took_next h c.in_ok-at-6.ensures (called c.in_ok-tag.ensures (gave refl)))

pub returns : goal.returns
returns c = looked specifier_by Program.refuse
    (no_word _ (saw_no c.sees_word.ensures c.if-sees_word.false) (saw_no c.sees_word-2.ensures c.if-sees_word-2.false) (saw_no c.sees_word-3.ensures c.if-sees_word-3.false)
    (saw_no c.sees_word-4.ensures c.if-sees_word-4.false) (saw_no c.sees_word-5.ensures c.if-sees_word-6.false) (saw_no c.sees_word-6.ensures c.if-sees_word-7.false)) refused
