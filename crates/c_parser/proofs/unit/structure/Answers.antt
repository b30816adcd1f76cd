use Rattle.std.proofs.Common.{add-one, refl, ap, ◌∙◌, [], ◌∷◌, ◌++◌}
use Rattle.std.proofs.lemmas.Result.{err_from_is_err_and}
use Rattle.std.specs.Prelude.{map}
use Rattle.syntax_tree.specs.Syntax.{HeadTree}
use Rattle.syntax_tree.specs.SyntaxViews.{member_declaration_tree}
use Rattle.c_parser_rules.specs.Tests.{is_open_brace}
use Rattle.c_parser_expressions.proofs.CodeSteps.{called, call_failed, took, take_failed, gave, when_yes, when_no, saw_yes, saw_no}
use Rattle.c_parser_expressions.proofs.Lists.{goes_then, goes_failed}
use Rattle.c_parser_expressions.proofs.Further.{no_open_brace}
use Rattle.c_parser.proofs.unit.structure.Goals as goal

pub returns-then-not-sees : goal.returns-then-not-sees
returns-then-not-sees c = when_no is_open_brace _ _ (no_open_brace _ (saw_no c.sees.ensures c.if-not-sees.true)) (gave refl)

pub returns-in_err-take_mark : goal.returns-in_err-take_mark
returns-in_err-take_mark c =
    let p = err_from_is_err_and c.from_residual.result c.from_residual.ensures.1 in
    rw (p.1, p.2) (when_yes is_open_brace _ _ (ap is_open_brace (saw_yes c.sees.ensures c.if-not-sees.false)) (take_failed c.in_err-take_mark.ensures))

pub returns-in_err-first : goal.returns-in_err-first
returns-in_err-first c =
    let p = err_from_is_err_and c.from_residual-in_err-first.result c.from_residual-in_err-first.ensures.1 in
    rw (p.1, p.2) (when_yes is_open_brace _ _ (ap is_open_brace (saw_yes c.sees.ensures c.if-not-sees.false)) (took c.in_ok-take_mark.ensures (call_failed (rw add-one at c.in_err-first.ensures))))

pub returns-in_err-members : goal.returns-in_err-members
returns-in_err-members c =
    let p = err_from_is_err_and c.from_residual-in_err-members.result c.from_residual-in_err-members.ensures.1 in
    rw (p.1, p.2) (when_yes is_open_brace _ _ (ap is_open_brace (saw_yes c.sees.ensures c.if-not-sees.false)) (took c.in_ok-take_mark.ensures (called (rw add-one at c.in_ok-first.ensures) (goes_failed (rw add-one at c.in_err-members.ensures)))))

pub returns-in_err-take_mark-2 : goal.returns-in_err-take_mark-2
returns-in_err-take_mark-2 c =
    let p = err_from_is_err_and c.from_residual-in_err-take_mark-2.result c.from_residual-in_err-take_mark-2.ensures.1 in
    rw (p.1, p.2) (when_yes is_open_brace _ _ (ap is_open_brace (saw_yes c.sees.ensures c.if-not-sees.false)) (took c.in_ok-take_mark.ensures (called (rw add-one at c.in_ok-first.ensures) (goes_then (rw add-one at c.in_ok-members.ensures) (take_failed c.in_err-take_mark-2.ensures)))))

pub returns : goal.returns
returns c =
    let front = (c.in_ok-push.ensures.items ∙ ap (λ z. z ++ (c.in_ok-first.first ∷ [])) c.new-read.ensures.items) in
    let rest = rw add-one at c.in_ok-members.ensures in
    let all = rest.answer.1 ∙ ap (λ z. z ++ rest.answer.0) front in
    when_yes is_open_brace _ _ (ap is_open_brace (saw_yes c.sees.ensures c.if-not-sees.false)) (took c.in_ok-take_mark.ensures (called (rw add-one at c.in_ok-first.ensures) (goes_then rest (took c.in_ok-take_mark-2.ensures (gave (ap (λ z. (HeadTree.Struct (record { at = c.args.tag.1; tag = c.args.tag.0; members = map member_declaration_tree z }), c.args.at)) all))))))
