use Rattle.std.proofs.Common.{sym, ap, ◌∙◌, [], ◌∷◌, ◌++◌}
use Rattle.syntax_tree.specs.Syntax.{ExpressionTree}
use Rattle.std.proofs.lemmas.Result.{err_from_is_err_and}
use Rattle.c_parser_rules.specs.Programs.{Program}
use Rattle.c_parser_rules.specs.Bodies.{primary_by}
use Rattle.c_parser_expressions.proofs.CodeSteps.{looked, seen_as, refused, took_next, gave, saw_yes, saw_no}
use Rattle.c_parser_expressions.proofs.ListSteps.{strings_then, strings_failed}
use Rattle.c_parser_expressions.proofs.Next.{number_is, character_is, name_is, text_is, no_primary}
use Rattle.c_parser_expressions.proofs.leaf.leaf.Goals as goal

pub returns-in-Some : goal.returns-in-Some
returns-in-Some c = λ d.
    let h = number_is _ _ (sym c.number.ensures ∙ c.in-Some.is) in
    seen_as (primary_by d) _ h (took_next h c.in_ok-at.ensures (gave c.number-in-Some.ensures))

pub returns-in-Some-character : goal.returns-in-Some-character
returns-in-Some-character c = λ d.
    let h = character_is _ _ (sym c.character.ensures ∙ c.in-Some-character.is) in
    seen_as (primary_by d) _ h (took_next h c.in_ok-at-2.ensures (gave c.character-in-Some-character.ensures))

pub returns-in-Some-2 : goal.returns-in-Some-2
returns-in-Some-2 c = λ d.
    let h = name_is _ _ (sym c.in_ok-name.ensures ∙ c.in-Some-2.is) in
    seen_as (primary_by d) _ h (took_next h c.in_ok-at-3.ensures (gave c.name-in-Some-2-2.ensures))

pub returns-in_err-pieces : goal.returns-in_err-pieces
returns-in_err-pieces c = λ d.
    let h = text_is _ _ (sym c.in_ok-bytes.ensures ∙ c.in-Some-3.is) in
    let p = err_from_is_err_and c.from_residual-in_err-pieces.result c.from_residual-in_err-pieces.ensures.1 in
    rw (p.1, p.2) (seen_as (primary_by d) _ h (took_next h c.in_ok-at-4.ensures (strings_failed c.in_err-pieces.ensures)))

pub returns-in-Some-3 : goal.returns-in-Some-3
returns-in-Some-3 c = λ d.
    let h = text_is _ _ (sym c.in_ok-bytes.ensures ∙ c.in-Some-3.is) in
    let g = c.in_ok-pieces.ensures in
    let front = c.in_ok-push.ensures.items ∙ ap (λ z. z ++ (c.in-Some-3.bytes ∷ [])) c.new-pieces.ensures.items in
    let all = g.answer.1 ∙ ap (λ z. z ++ g.answer.0) front in
    seen_as (primary_by d) _ h (took_next h c.in_ok-at-4.ensures (strings_then g (gave (c.text-in-Some-3.ensures ∙ ap (λ z. ExpressionTree.Text c.in_ok-at-4.at z) all))))

pub returns-then-sees_word : goal.returns-then-sees_word
returns-then-sees_word c = λ d.
    let h = saw_yes c.sees_word.ensures c.if-sees_word.true in
    seen_as (primary_by d) _ h (took_next h c.in_ok-at-5.ensures (gave c.null.ensures))

pub returns-then-sees_word-2 : goal.returns-then-sees_word-2
returns-then-sees_word-2 c = λ d.
    let h = saw_yes c.sees_word-2.ensures c.if-sees_word-2.true in
    seen_as (primary_by d) _ h (took_next h c.in_ok-at-6.ensures (gave c.eof.ensures))

pub returns : goal.returns
returns c = λ d. looked (primary_by d) Program.refuse
    (no_primary d _ (sym c.number.ensures ∙ c.in_default.is) (sym c.character.ensures ∙ c.in_default-character.is) (sym c.in_ok-name.ensures ∙ c.in_default-2.is)
    (sym c.in_ok-bytes.ensures ∙ c.in_default-3.is) (saw_no c.sees_word.ensures c.if-sees_word.false) (saw_no c.sees_word-2.ensures c.if-sees_word-2.false) c.requires) refused
