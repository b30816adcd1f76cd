use Rattle.std.proofs.Common.{refl, sym, ap, ◌∙◌, [], ◌∷◌, ◌++◌}
use Rattle.std.proofs.lemmas.Result.{err_from_is_err_and}
use Rattle.c_parser_rules.specs.Programs.{Rule, Program}
use Rattle.c_parser_rules.specs.Tests.{is_some}
use Rattle.c_parser_rules.specs.Bodies.{unit_by}
use Rattle.c_parser_expressions.proofs.CodeSteps.{called, call_failed, gave, looked}
use Rattle.c_parser_expressions.proofs.Lists.{goes_then, goes_failed}
use Rattle.c_parser_expressions.proofs.Further.{read_ahead, none_first, at_end}
use Rattle.c_parser.proofs.unit.unit.Goals as goal

pub returns-in-None-clause-reads : goal.returns-in-None-clause-reads
returns-in-None-clause-reads c = looked unit_by _ (ap unit_by (none_first _ (sym c.next_at.ensures ∙ c.in-None.is))) (gave (rw c.new-read.ensures.items refl))

pub returns-in-None-clause-all : goal.returns-in-None-clause-all
returns-in-None-clause-all c = at_end _ (sym c.next_at.ensures ∙ c.in-None.is)

pub returns-in_err-first-clause-reads : goal.returns-in_err-first-clause-reads
returns-in_err-first-clause-reads c =
    let p = err_from_is_err_and c.from_residual.result c.from_residual.ensures.1 in
    rw (p.1, p.2) (looked unit_by _ refl (read_ahead unit_by (λ at. Program.call (Rule.external 0) (λ x. Program.call (Rule.repeat is_some (Rule.external 0)) (λ xs. Program.give (record { at = at; externals = x ∷ xs })))) (λ t. refl) (sym c.next_at.ensures ∙ c.in-Some.is) (call_failed c.in_err-first.ensures)))

pub returns-in_err-externals-clause-reads : goal.returns-in_err-externals-clause-reads
returns-in_err-externals-clause-reads c =
    let p = err_from_is_err_and c.from_residual-in_err-externals.result c.from_residual-in_err-externals.ensures.1 in
    rw (p.1, p.2) (looked unit_by _ refl (read_ahead unit_by (λ at. Program.call (Rule.external 0) (λ x. Program.call (Rule.repeat is_some (Rule.external 0)) (λ xs. Program.give (record { at = at; externals = x ∷ xs })))) (λ t. refl) (sym c.next_at.ensures ∙ c.in-Some.is) (called c.in_ok-first.ensures (goes_failed c.in_err-externals.ensures.reads))))

pub returns-clause-reads : goal.returns-clause-reads
returns-clause-reads c =
    let g = c.in_ok-externals.ensures.reads in
    let all = g.answer.1 ∙ ap (λ z. z ++ g.answer.0) (c.in_ok-push.ensures.items ∙ ap (λ z. z ++ (c.in_ok-first.first ∷ [])) c.new-read.ensures.items) in
    looked unit_by _ refl (read_ahead unit_by (λ at. Program.call (Rule.external 0) (λ x. Program.call (Rule.repeat is_some (Rule.external 0)) (λ xs. Program.give (record { at = at; externals = x ∷ xs })))) (λ t. refl) (sym c.next_at.ensures ∙ c.in-Some.is) (called c.in_ok-first.ensures (goes_then g (gave (rw all refl)))))
