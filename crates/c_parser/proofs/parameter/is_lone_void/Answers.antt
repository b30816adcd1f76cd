use Rattle.std.proofs.Common.{arith, sym, ap, ◌∙◌, ◌&&◌}
use Rattle.syntax_tree.specs.SyntaxViews.{parameter_declarator_tree}
use Rattle.c_parser_rules.specs.Bodies.{is_no_declarator}
use Rattle.c_parser_expressions.proofs.Further.{not_lone, lone}
use Rattle.c_parser.proofs.parameter.is_lone_void.Goals as goal

pub returns-then-parameters-ne1 : goal.returns-then-parameters-ne1
returns-then-parameters-ne1 c = not_lone c.args.parameters.now c.if-parameters-ne1.true

pub returns-in-None : goal.returns-in-None
returns-in-None c = not_lone c.args.parameters.now (λ e. omega (arith, e, c.in-None.ensures.item.3))

pub returns-then-not-is_void : goal.returns-then-not-is_void
returns-then-not-is_void c =
    let e = c.in-Some.ensures.value in
    let k = lone c.args.parameters.now c.in-Some.only.now c.if-parameters-ne1.false e in
    sym (k ∙ ap (λ z. z && is_no_declarator (parameter_declarator_tree c.in-Some.only.now.declarator)) (sym c.is_void.ensures ∙ c.if-not-is_void.true))

pub returns-else-not-is_void : goal.returns-else-not-is_void
returns-else-not-is_void c =
    let e = c.in-Some.ensures.value in
    let k = lone c.args.parameters.now c.in-Some.only.now c.if-parameters-ne1.false e in
    c.is_no_declarator.ensures ∙ sym (k ∙ ap (λ z. z && is_no_declarator (parameter_declarator_tree c.in-Some.only.now.declarator)) (sym c.is_void.ensures ∙ c.if-not-is_void.false))
