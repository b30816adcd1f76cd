use Rattle.std.proofs.Common.{refl, sym, ◌∙◌, Some, true, false, length, slice_get, ◌≡◌, ◌≤◌}
use Rattle.std.specs.Prelude.{map}
use Rattle.std.proofs.lemmas.Result.{err_from_is_err_and}
use Rattle.syntax_tree.specs.SyntaxViews.{parameter_tree}
use Rattle.c_parser_rules.specs.Bodies.{is_lone_void}
use Rattle.c_parser_expressions.proofs.CodeSteps.{called, call_failed, gave, refused}
use Rattle.c_parser_expressions.proofs.Further.{chosen_none, chosen_void, chosen_list}
use Rattle.c_parser.proofs.parameter.parameters.Goals as goal

pub returns-in_err-parameters : goal.returns-in_err-parameters
returns-in_err-parameters c =
    let p = err_from_is_err_and c.from_residual.result c.from_residual.ensures.1 in
    rw (p.1, p.2) (call_failed c.in_err-parameters.ensures)

pub returns-in-None : goal.returns-in-None
returns-in-None c =
    let h : length c.in_ok-parameters.parameters.items ≤ 0 = rw c.deref.ensures.value at c.in-None.ensures.item.3 in
    called c.in_ok-parameters.ensures (rw (chosen_none c.in_ok-parameters.parameters.items h) refused)

pub returns-then-is_lone_void : goal.returns-then-is_lone_void
returns-then-is_lone_void c =
    let e : Some c.in-Some.first.now ≡ slice_get c.in_ok-parameters.parameters.items 0 = rw c.deref.ensures.value at c.in-Some.ensures.value in
    let b : is_lone_void (map parameter_tree c.in_ok-parameters.parameters.items) ≡ true = sym (rw c.as_slice.ensures.value at c.is_lone_void.ensures) ∙ c.if-is_lone_void.true in
    called c.in_ok-parameters.ensures (rw (chosen_void c.in_ok-parameters.parameters.items c.in-Some.first.now e b) (gave refl))

pub returns : goal.returns
returns c =
    let e : Some c.in-Some.first.now ≡ slice_get c.in_ok-parameters.parameters.items 0 = rw c.deref.ensures.value at c.in-Some.ensures.value in
    let b : is_lone_void (map parameter_tree c.in_ok-parameters.parameters.items) ≡ false = sym (rw c.as_slice.ensures.value at c.is_lone_void.ensures) ∙ c.if-is_lone_void.false in
    called c.in_ok-parameters.ensures (rw (chosen_list c.in_ok-parameters.parameters.items c.in-Some.first.now e b) (gave refl))
