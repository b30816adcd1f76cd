use Rattle.std.proofs.Common.{◌∙◌, ap, sym, arith}
use Rattle.syntax_tree.proofs.SyntaxViews.{expression_views}
use Rattle.std.specs.Prelude.{Option, Ok, List}
use Rattle.std.proofs.lemmas.Result.{err_from_is_err_and}
use Rattle.typed_tree.specs.TypedViews.{expr_of}
use Rattle.typing_operators.specs.Rule.{Rule}
use Rattle.typing_expressions.specs.declared.calls.Callee.{Callee}
use Rattle.typing_expressions.specs.Scene.{CScene, scene_of}
use Rattle.typing_expressions.specs.Parts.{CPart, parts_of}
use Rattle.typing_expressions.proofs.InTurn.{named, named_stops, other, other_stops, nested, nested_stops}
use Rattle.typing_expressions.proofs.expression.+expressions.Goals as goal

pub expression-returns-in_err-_values-in-None : goal.expression-returns-in_err-_values-in-None
expression-returns-in_err-_values-in-None t c =
    let p = err_from_is_err_and c.from_residual-in_err-_values-in-None.result c.from_residual-in_err-_values-in-None.ensures.1 in
    let nameless = c.in_ok-callee_of-in-Call.ensures ∙ ap (λ (o : Option Callee). let r : Rule (Option Callee) = Ok o in r) c.in-None.is in
    rw (p.1, p.2)
    (other_stops c.args.e.now c.deref-in-Call.result.now c.in-Call.at c.in-Call.function c.in-Call.es c.deref-in-None-2.result.now (scene_of c.args.scene.now)
    c.in-Call.is c.deref-in-Call.ensures c.deref-in-None-2.ensures.value c.deref-in-None.result.now c.deref-in-None.ensures
    (expr_of c.in_ok-_operand-in-None._operand) (scene_of c.expression-in-None.new.scene) nameless c.in_ok-_operand-in-None.ensures _ c.in_err-_values-in-None.ensures)

pub expression-returns-in_ok-_values-in-None : goal.expression-returns-in_ok-_values-in-None
expression-returns-in_ok-_values-in-None t c =
    let nameless = c.in_ok-callee_of-in-Call.ensures ∙ ap (λ (o : Option Callee). let r : Rule (Option Callee) = Ok o in r) c.in-None.is in
    other c.args.e.now c.deref-in-Call.result.now c.in-Call.at c.in-Call.function c.in-Call.es c.deref-in-None-2.result.now (scene_of c.args.scene.now)
    c.in-Call.is c.deref-in-Call.ensures c.deref-in-None-2.ensures.value c.deref-in-None.result.now c.deref-in-None.ensures
    (expr_of c.in_ok-_operand-in-None._operand) (scene_of c.expression-in-None.new.scene) nameless c.in_ok-_operand-in-None.ensures _ c.in_ok-_values-in-None.ensures

pub expression-returns-in_err-values-in-Some : goal.expression-returns-in_err-values-in-Some
expression-returns-in_err-values-in-Some t c =
    let p = err_from_is_err_and c.from_residual-in_err-values-in-Some.result c.from_residual-in_err-values-in-Some.ensures.1 in
    let name = c.in_ok-callee_of-in-Call.ensures ∙ ap (λ (o : Option Callee). let r : Rule (Option Callee) = Ok o in r) c.in-Some.is in
    rw (p.1, p.2)
    (named_stops c.args.e.now c.deref-in-Call.result.now c.in-Call.at c.in-Call.function c.in-Call.es c.deref-in-Some.result.now (scene_of c.args.scene.now)
    c.in-Call.is c.deref-in-Call.ensures c.deref-in-Some.ensures.value c.in-Some.callee name _ c.in_err-values-in-Some.ensures)

pub expression-returns-in_ok-values-in-Some : goal.expression-returns-in_ok-values-in-Some
expression-returns-in_ok-values-in-Some t c =
    let name = c.in_ok-callee_of-in-Call.ensures ∙ ap (λ (o : Option Callee). let r : Rule (Option Callee) = Ok o in r) c.in-Some.is in
    rw (named c.args.e.now c.deref-in-Call.result.now c.in-Call.at c.in-Call.function c.in-Call.es c.deref-in-Some.result.now (scene_of c.args.scene.now)
    c.in-Call.is c.deref-in-Call.ensures c.deref-in-Some.ensures.value c.in-Some.callee name _ c.in_ok-values-in-Some.ensures)
    c.called.ensures

pub steps_of-returns-in_err-sized-in-Nested : goal.steps_of-returns-in_err-sized-in-Nested
steps_of-returns-in_err-sized-in-Nested t c =
    let p = err_from_is_err_and c.from_residual-in_err-sized-in-Nested.result c.from_residual-in_err-sized-in-Nested.ensures.1 in
    rw (p.1, p.2)
    (nested_stops c.args.declarator.now c.deref-in-Nested.result.now c.in-Nested.at c.in-Nested.stars c.in-Nested.inner c.in-Nested.sizes c.deref-in-Nested-2.result.now
    (parts_of c.args.parts.now.items) (parts_of c.steps_of.new.parts.items) (scene_of c.args.scene.now) (scene_of c.steps_of.new.scene)
    c.in-Nested.is c.deref-in-Nested.ensures c.deref-in-Nested-2.ensures.value c.in_ok-steps_of-in-Nested.ensures _ c.in_err-sized-in-Nested.ensures)

pub steps_of-returns-in_ok-pointed-in-Nested : goal.steps_of-returns-in_ok-pointed-in-Nested
steps_of-returns-in_ok-pointed-in-Nested t c =
    nested c.args.declarator.now c.deref-in-Nested.result.now c.in-Nested.at c.in-Nested.stars c.in-Nested.inner c.in-Nested.sizes c.deref-in-Nested-2.result.now
    (parts_of c.args.parts.now.items) (parts_of c.steps_of.new.parts.items) (scene_of c.args.scene.now) (scene_of c.steps_of.new.scene)
    c.in-Nested.is c.deref-in-Nested.ensures c.deref-in-Nested-2.ensures.value c.in_ok-steps_of-in-Nested.ensures _ c.in_ok-sized-in-Nested.ensures
    ∙ ap (λ (ps : List CPart). let r : Rule (List CPart × CScene) = Ok (ps, scene_of c.sized-in-Nested.new.scene) in r) (sym c.in_ok-pointed-in-Nested.ensures)

pub expression-returns-in_err-object-in-Name : goal.expression-returns-in_err-object-in-Name
expression-returns-in_err-object-in-Name t c = grind (arith, expression_views)

pub expression-returns-in_err-bytes-in-Text : goal.expression-returns-in_err-bytes-in-Text
expression-returns-in_err-bytes-in-Text t c = grind (arith, expression_views)

pub expression-returns-in_err-pointer-in-Null : goal.expression-returns-in_err-pointer-in-Null
expression-returns-in_err-pointer-in-Null t c = grind (arith, expression_views)

pub expression-returns-in_err-x-in-Index : goal.expression-returns-in_err-x-in-Index
expression-returns-in_err-x-in-Index t c = grind (arith, expression_views)

pub expression-returns-in_err-y-in-Index : goal.expression-returns-in_err-y-in-Index
expression-returns-in_err-y-in-Index t c = grind (arith, expression_views)

pub expression-returns-in_err-index-in-Index : goal.expression-returns-in_err-index-in-Index
expression-returns-in_err-index-in-Index t c = grind (arith, expression_views)

pub expression-returns-in_err-callee_of-in-Call : goal.expression-returns-in_err-callee_of-in-Call
expression-returns-in_err-callee_of-in-Call t c = grind (arith, expression_views)

pub expression-returns-in_err-_operand-in-None : goal.expression-returns-in_err-_operand-in-None
expression-returns-in_err-_operand-in-None t c = grind (arith, expression_views)

pub expression-returns-in_err-x-in-Member : goal.expression-returns-in_err-x-in-Member
expression-returns-in_err-x-in-Member t c = grind (arith, expression_views)

pub expression-returns-in_err-member-in-Member : goal.expression-returns-in_err-member-in-Member
expression-returns-in_err-member-in-Member t c = grind (arith, expression_views)

pub expression-returns-in_err-x-in-Arrow : goal.expression-returns-in_err-x-in-Arrow
expression-returns-in_err-x-in-Arrow t c = grind (arith, expression_views)

pub expression-returns-in_err-arrow-in-Arrow : goal.expression-returns-in_err-arrow-in-Arrow
expression-returns-in_err-arrow-in-Arrow t c = grind (arith, expression_views)

pub expression-returns-in_err-x-in-StepAfter : goal.expression-returns-in_err-x-in-StepAfter
expression-returns-in_err-x-in-StepAfter t c = grind (arith, expression_views)

pub expression-returns-in_err-step_after-in-StepAfter : goal.expression-returns-in_err-step_after-in-StepAfter
expression-returns-in_err-step_after-in-StepAfter t c = grind (arith, expression_views)

pub expression-returns-in_err-x-in-StepBefore : goal.expression-returns-in_err-x-in-StepBefore
expression-returns-in_err-x-in-StepBefore t c = grind (arith, expression_views)

pub expression-returns-in_err-step_before-in-StepBefore : goal.expression-returns-in_err-step_before-in-StepBefore
expression-returns-in_err-step_before-in-StepBefore t c = grind (arith, expression_views)

pub expression-returns-in_err-x-in-Unary : goal.expression-returns-in_err-x-in-Unary
expression-returns-in_err-x-in-Unary t c = grind (arith, expression_views)

pub expression-returns-in_err-unary-in-Unary : goal.expression-returns-in_err-unary-in-Unary
expression-returns-in_err-unary-in-Unary t c = grind (arith, expression_views)

pub expression-returns-in_err-ty-in-SizeofType : goal.expression-returns-in_err-ty-in-SizeofType
expression-returns-in_err-ty-in-SizeofType t c = grind (arith, expression_views)

pub expression-returns-in_err-measured_type-in-SizeofType : goal.expression-returns-in_err-measured_type-in-SizeofType
expression-returns-in_err-measured_type-in-SizeofType t c = grind (arith, expression_views)

pub expression-returns-in_err-x-in-SizeofExpression : goal.expression-returns-in_err-x-in-SizeofExpression
expression-returns-in_err-x-in-SizeofExpression t c = grind (arith, expression_views)

pub expression-returns-in_err-measured-in-SizeofExpression : goal.expression-returns-in_err-measured-in-SizeofExpression
expression-returns-in_err-measured-in-SizeofExpression t c = grind (arith, expression_views)

pub expression-returns-in_err-ty-in-Cast : goal.expression-returns-in_err-ty-in-Cast
expression-returns-in_err-ty-in-Cast t c = grind (arith, expression_views)

pub expression-returns-in_err-x-in-Cast : goal.expression-returns-in_err-x-in-Cast
expression-returns-in_err-x-in-Cast t c = grind (arith, expression_views)

pub expression-returns-in_err-cast-in-Cast : goal.expression-returns-in_err-cast-in-Cast
expression-returns-in_err-cast-in-Cast t c = grind (arith, expression_views)

pub expression-returns-in_err-x-in-Binary : goal.expression-returns-in_err-x-in-Binary
expression-returns-in_err-x-in-Binary t c = grind (arith, expression_views)

pub expression-returns-in_err-y-in-Binary : goal.expression-returns-in_err-y-in-Binary
expression-returns-in_err-y-in-Binary t c = grind (arith, expression_views)

pub expression-returns-in_err-binary-in-Binary : goal.expression-returns-in_err-binary-in-Binary
expression-returns-in_err-binary-in-Binary t c = grind (arith, expression_views)

pub expression-returns-in_err-x-in-Conditional : goal.expression-returns-in_err-x-in-Conditional
expression-returns-in_err-x-in-Conditional t c = grind (arith, expression_views)

pub expression-returns-in_err-y-in-Conditional : goal.expression-returns-in_err-y-in-Conditional
expression-returns-in_err-y-in-Conditional t c = grind (arith, expression_views)

pub expression-returns-in_err-z-in-Conditional : goal.expression-returns-in_err-z-in-Conditional
expression-returns-in_err-z-in-Conditional t c = grind (arith, expression_views)

pub expression-returns-in_err-conditional-in-Conditional : goal.expression-returns-in_err-conditional-in-Conditional
expression-returns-in_err-conditional-in-Conditional t c = grind (arith, expression_views)

pub expression-returns-in_err-x-in-Assign : goal.expression-returns-in_err-x-in-Assign
expression-returns-in_err-x-in-Assign t c = grind (arith, expression_views)

pub expression-returns-in_err-y-in-Assign : goal.expression-returns-in_err-y-in-Assign
expression-returns-in_err-y-in-Assign t c = grind (arith, expression_views)

pub expression-returns-in_err-assign-in-Assign : goal.expression-returns-in_err-assign-in-Assign
expression-returns-in_err-assign-in-Assign t c = grind (arith, expression_views)

pub expression-returns-in_err-x-in-Comma : goal.expression-returns-in_err-x-in-Comma
expression-returns-in_err-x-in-Comma t c = grind (arith, expression_views)

pub expression-returns-in_err-y-in-Comma : goal.expression-returns-in_err-y-in-Comma
expression-returns-in_err-y-in-Comma t c = grind (arith, expression_views)

pub expression-returns-in_err-comma-in-Comma : goal.expression-returns-in_err-comma-in-Comma
expression-returns-in_err-comma-in-Comma t c = grind (arith, expression_views)

pub expression-returns-in_ok-object-in-Name : goal.expression-returns-in_ok-object-in-Name
expression-returns-in_ok-object-in-Name t c = grind (arith, expression_views)

pub expression-returns-after-is_unsigned : goal.expression-returns-after-is_unsigned
expression-returns-after-is_unsigned t c = grind (arith, expression_views)

pub expression-returns-in-Character : goal.expression-returns-in-Character
expression-returns-in-Character t c = grind (arith, expression_views)

pub expression-returns-in_ok-bytes-in-Text : goal.expression-returns-in_ok-bytes-in-Text
expression-returns-in_ok-bytes-in-Text t c = grind (arith, expression_views)

pub expression-returns-in_ok-pointer-in-Null : goal.expression-returns-in_ok-pointer-in-Null
expression-returns-in_ok-pointer-in-Null t c = grind (arith, expression_views)

pub expression-returns-in-Eof : goal.expression-returns-in-Eof
expression-returns-in-Eof t c = grind (arith, expression_views)

pub expression-returns-in-Parenthesized : goal.expression-returns-in-Parenthesized
expression-returns-in-Parenthesized t c = grind (arith, expression_views)

pub expression-returns-in_ok-index-in-Index : goal.expression-returns-in_ok-index-in-Index
expression-returns-in_ok-index-in-Index t c = grind (arith, expression_views)

pub expression-returns-in_ok-member-in-Member : goal.expression-returns-in_ok-member-in-Member
expression-returns-in_ok-member-in-Member t c = grind (arith, expression_views)

pub expression-returns-in_ok-arrow-in-Arrow : goal.expression-returns-in_ok-arrow-in-Arrow
expression-returns-in_ok-arrow-in-Arrow t c = grind (arith, expression_views)

pub expression-returns-in_ok-step_after-in-StepAfter : goal.expression-returns-in_ok-step_after-in-StepAfter
expression-returns-in_ok-step_after-in-StepAfter t c = grind (arith, expression_views)

pub expression-returns-in_ok-step_before-in-StepBefore : goal.expression-returns-in_ok-step_before-in-StepBefore
expression-returns-in_ok-step_before-in-StepBefore t c = grind (arith, expression_views)

pub expression-returns-in_ok-unary-in-Unary : goal.expression-returns-in_ok-unary-in-Unary
expression-returns-in_ok-unary-in-Unary t c = grind (arith, expression_views)

pub expression-returns-in_ok-measured_type-in-SizeofType : goal.expression-returns-in_ok-measured_type-in-SizeofType
expression-returns-in_ok-measured_type-in-SizeofType t c = grind (arith, expression_views)

pub expression-returns-in_ok-measured-in-SizeofExpression : goal.expression-returns-in_ok-measured-in-SizeofExpression
expression-returns-in_ok-measured-in-SizeofExpression t c = grind (arith, expression_views)

pub expression-returns-in_ok-cast-in-Cast : goal.expression-returns-in_ok-cast-in-Cast
expression-returns-in_ok-cast-in-Cast t c = grind (arith, expression_views)

pub expression-returns-in_ok-binary-in-Binary : goal.expression-returns-in_ok-binary-in-Binary
expression-returns-in_ok-binary-in-Binary t c = grind (arith, expression_views)

pub expression-returns-in_ok-conditional-in-Conditional : goal.expression-returns-in_ok-conditional-in-Conditional
expression-returns-in_ok-conditional-in-Conditional t c = grind (arith, expression_views)

pub expression-returns-in_ok-assign-in-Assign : goal.expression-returns-in_ok-assign-in-Assign
expression-returns-in_ok-assign-in-Assign t c = grind (arith, expression_views)

pub expression-returns-in_ok-comma-in-Comma : goal.expression-returns-in_ok-comma-in-Comma
expression-returns-in_ok-comma-in-Comma t c = grind (arith, expression_views)
