use Rattle.std.proofs.Common.{List, [], ◌∷◌, ◌++◌, ◌<◌, Some, refl, sym, ap, subst, ◌∙◌, arith, add-one}
use Rattle.std.proofs.lemmas.Result.{err_from_is_err_and}
use Rattle.c_words.specs.Tokens.{Token}
use Rattle.syntax_tree.specs.SyntaxViews.{expression_tree, expression_trees}
use Rattle.syntax_tree.specs.declared.syntax.expressions.Expression.{Expression}
use Rattle.c_parser_rules.specs.Programs.{Sort, Rule, Program}
use Rattle.c_parser_rules.specs.Tests.{assigns, is_comma, is_question, is_close_paren, is_open_paren, is_open_bracket, begins_specifier}
use Rattle.c_parser_rules.specs.Bodies.{body, reads, assign_by, cast_by, sizeof_by, unary_by, postfix_by, primary_by}
use Rattle.c_parser_expressions.proofs.CodeSteps.{looked, seen_as, refused, took, take_failed, took_next, next_failed, next_shorter, gave, called, call_failed, tail, tail_as, when_yes, when_no, saw_yes, saw_no, leads_seen, leads_took, leads_take_failed, leads_took_mark, leads_mark_failed, leads_called, leads_call_failed, leads_on}
use Rattle.c_parser_expressions.proofs.Choices.{no_comma, no_question, no_close_paren, no_open_bracket, no_cast, no_sizeof_paren, no_assign, no_unary}
use Rattle.c_parser_expressions.proofs.Next.{no_paren}
use Rattle.c_parser_expressions.proofs.Fewer.{fewer, mark_shorter, opened, opened_behind}
use Rattle.c_parser_expressions.proofs.ExpressionSteps.{either_yes, either_no, nothing_behind, last_behind, assign_seen, step_seen, unary_seen, binary_bottom, binary_above, binary_over, binary_stuck, binary_failed, binary_step, goes_on_failed, goes_on_all, MoreSizes, sizes_more, sizes_end, arguments_first, arguments_more, arguments_failed, arguments_end, add_two}
use Rattle.c_words.specs.declared.words.Punctuator.TheVariants as m
use Rattle.c_parser_expressions.proofs.expression.+expression.Goals as goal

pub expression-assignment-requires : goal.expression-assignment-requires
expression-assignment-requires t c =
    (omega (arith), omega arith)

pub expression-returns-in_err-left : goal.expression-returns-in_err-left
expression-returns-in_err-left t c =
    let p = err_from_is_err_and c.from_residual.result c.from_residual.ensures.1 in rw (p.1, p.2) (call_failed c.in_err-left.ensures)

pub expression-loop-alloc-init : goal.expression-loop-alloc-init
expression-loop-alloc-init t c =
    record { goes = λ res new g. called c.in_ok-left.ensures (tail g); few = fewer c.in_ok-left.ensures }

pub expression-assignment-requires-in-loop-alloc : goal.expression-assignment-requires-in-loop-alloc
expression-assignment-requires-in-loop-alloc t c =
    (omega (arith, c.loop-alloc.invariant.few, next_shorter c.in_ok-at.ensures), omega arith)

pub expression-loop-alloc-smaller : goal.expression-loop-alloc-smaller
expression-loop-alloc-smaller t c =
    omega (arith, next_shorter c.in_ok-at.ensures, fewer c.in_ok-right.ensures)

pub expression-loop-alloc-preserved : goal.expression-loop-alloc-preserved
expression-loop-alloc-preserved t c =
    let h = saw_yes c.sees.ensures c.loop-alloc-test.true in
    record { goes = λ res new g. c.loop-alloc.invariant.goes res new (when_yes is_comma _ _ (ap is_comma h) (took_next h (rw c.is_low.ensures at c.in_ok-at.ensures) (called c.in_ok-right.ensures (tail_as Sort.expression (λ z. Rule.comma_rest c.args.depth z) c.in_ok-left-2.ensures g)))); few = omega (arith, c.loop-alloc.invariant.few, next_shorter c.in_ok-at.ensures, fewer c.in_ok-right.ensures) }

pub expression-returns-in_err-at : goal.expression-returns-in_err-at
expression-returns-in_err-at t c =
    let h = saw_yes c.sees.ensures c.loop-alloc-test.true in
    let p = err_from_is_err_and c.from_residual-in_err-at.result c.from_residual-in_err-at.ensures.1 in rw (p.1, p.2) (c.loop-alloc.invariant.goes _ _ (when_yes is_comma _ _ (ap is_comma h) (next_failed h (rw c.is_low.ensures at c.in_err-at.ensures))))

pub expression-returns-in_err-right : goal.expression-returns-in_err-right
expression-returns-in_err-right t c =
    let h = saw_yes c.sees.ensures c.loop-alloc-test.true in
    let p = err_from_is_err_and c.from_residual-in_err-right.result c.from_residual-in_err-right.ensures.1 in rw (p.1, p.2) (c.loop-alloc.invariant.goes _ _ (when_yes is_comma _ _ (ap is_comma h) (took_next h (rw c.is_low.ensures at c.in_ok-at.ensures) (call_failed c.in_err-right.ensures))))

pub expression-returns : goal.expression-returns
expression-returns t c =
    c.loop-alloc.invariant.goes _ _ (when_no is_comma _ _ (no_comma _ (saw_no c.sees.ensures c.loop-alloc-test.false)) (gave refl))

pub assignment-conditional-requires : goal.assignment-conditional-requires
assignment-conditional-requires t c =
    (omega (arith), omega arith)

pub assignment-assignment-requires : goal.assignment-assignment-requires
assignment-assignment-requires t c =
    (omega (arith, next_shorter c.in_ok-at-in-Some.ensures, fewer c.in_ok-left.ensures), omega (arith, opened_behind _ {d = c.args.depth} (rw c.may_open.ensures at c.in_ok-at-in-Some.ensures)))

pub assignment-returns-in_err-left : goal.assignment-returns-in_err-left
assignment-returns-in_err-left t c =
    let p = err_from_is_err_and c.from_residual.result c.from_residual.ensures.1 in rw (p.1, p.2) (call_failed c.in_err-left.ensures)

pub assignment-returns-in-None : goal.assignment-returns-in-None
assignment-returns-in-None t c =
    let d = c.args.depth in let a = expression_tree c.in_ok-left.left in
    called c.in_ok-left.ensures (looked (λ z. assign_by d a (assigns z)) (Program.give a) (ap (assign_by d a) (no_assign _ (sym c.assign_operator.ensures ∙ c.in-None.is))) (gave refl))

pub assignment-returns-in_err-at-in-Some : goal.assignment-returns-in_err-at-in-Some
assignment-returns-in_err-at-in-Some t c =
    let p = err_from_is_err_and c.from_residual-in_err-at-in-Some.result c.from_residual-in_err-at-in-Some.ensures.1 in rw (p.1, p.2) (called c.in_ok-left.ensures (assign_seen (sym c.assign_operator.ensures ∙ c.in-Some.is) (λ p h. next_failed h (rw c.may_open.ensures at c.in_err-at-in-Some.ensures))))

pub assignment-returns-in_err-right-in-Some : goal.assignment-returns-in_err-right-in-Some
assignment-returns-in_err-right-in-Some t c =
    let p = err_from_is_err_and c.from_residual-in_err-right-in-Some.result c.from_residual-in_err-right-in-Some.ensures.1 in rw (p.1, p.2) (called c.in_ok-left.ensures (assign_seen (sym c.assign_operator.ensures ∙ c.in-Some.is) (λ p h. took_next h (rw c.may_open.ensures at c.in_ok-at-in-Some.ensures) (call_failed (rw add-one at c.in_err-right-in-Some.ensures)))))

pub assignment-returns-in_ok-assign-in-Some : goal.assignment-returns-in_ok-assign-in-Some
assignment-returns-in_ok-assign-in-Some t c =
    called c.in_ok-left.ensures (assign_seen (sym c.assign_operator.ensures ∙ c.in-Some.is) (λ p h. took_next h (rw c.may_open.ensures at c.in_ok-at-in-Some.ensures) (called (rw add-one at c.in_ok-right-in-Some.ensures) (gave c.in_ok-assign-in-Some.ensures))))

pub conditional-binary-requires : goal.conditional-binary-requires
conditional-binary-requires t c =
    (omega (arith), omega arith)

pub conditional-expression-requires : goal.conditional-expression-requires
conditional-expression-requires t c =
    (omega (arith, next_shorter c.in_ok-at.ensures, fewer c.in_ok-condition.ensures), omega (arith, opened_behind _ {d = c.args.depth} (rw c.may_open.ensures at c.in_ok-at.ensures)))

pub conditional-conditional-requires : goal.conditional-conditional-requires
conditional-conditional-requires t c =
    (omega (arith, next_shorter c.in_ok-at.ensures, fewer c.in_ok-condition.ensures, fewer c.in_ok-then.ensures, mark_shorter c.in_ok-take_mark.ensures), omega (arith, opened_behind _ {d = c.args.depth} (rw c.may_open.ensures at c.in_ok-at.ensures)))

pub conditional-returns-in_err-condition : goal.conditional-returns-in_err-condition
conditional-returns-in_err-condition t c =
    let p = err_from_is_err_and c.from_residual.result c.from_residual.ensures.1 in rw (p.1, p.2) (call_failed c.in_err-condition.ensures)

pub conditional-returns-then-not-sees : goal.conditional-returns-then-not-sees
conditional-returns-then-not-sees t c =
    called c.in_ok-condition.ensures (when_no is_question _ _ (no_question _ (saw_no c.sees.ensures c.if-not-sees.true)) (gave refl))

pub conditional-returns-in_err-at : goal.conditional-returns-in_err-at
conditional-returns-in_err-at t c =
    let h = saw_yes c.sees.ensures c.if-not-sees.false in
    let p = err_from_is_err_and c.from_residual-in_err-at.result c.from_residual-in_err-at.ensures.1 in rw (p.1, p.2) (called c.in_ok-condition.ensures (when_yes is_question _ _ (ap is_question h) (next_failed h (rw c.may_open.ensures at c.in_err-at.ensures))))

pub conditional-returns-in_err-then : goal.conditional-returns-in_err-then
conditional-returns-in_err-then t c =
    let h = saw_yes c.sees.ensures c.if-not-sees.false in
    let p = err_from_is_err_and c.from_residual-in_err-then.result c.from_residual-in_err-then.ensures.1 in rw (p.1, p.2) (called c.in_ok-condition.ensures (when_yes is_question _ _ (ap is_question h) (took_next h (rw c.may_open.ensures at c.in_ok-at.ensures) (call_failed (rw add-one at c.in_err-then.ensures)))))

pub conditional-returns-in_err-take_mark : goal.conditional-returns-in_err-take_mark
conditional-returns-in_err-take_mark t c =
    let h = saw_yes c.sees.ensures c.if-not-sees.false in
    let p = err_from_is_err_and c.from_residual-in_err-take_mark.result c.from_residual-in_err-take_mark.ensures.1 in rw (p.1, p.2) (called c.in_ok-condition.ensures (when_yes is_question _ _ (ap is_question h) (took_next h (rw c.may_open.ensures at c.in_ok-at.ensures) (called (rw add-one at c.in_ok-then.ensures) (take_failed c.in_err-take_mark.ensures)))))

pub conditional-returns-in_err-otherwise : goal.conditional-returns-in_err-otherwise
conditional-returns-in_err-otherwise t c =
    let h = saw_yes c.sees.ensures c.if-not-sees.false in
    let p = err_from_is_err_and c.from_residual-in_err-otherwise.result c.from_residual-in_err-otherwise.ensures.1 in rw (p.1, p.2) (called c.in_ok-condition.ensures (when_yes is_question _ _ (ap is_question h) (took_next h (rw c.may_open.ensures at c.in_ok-at.ensures) (called (rw add-one at c.in_ok-then.ensures) (took c.in_ok-take_mark.ensures (call_failed (rw add-one at c.in_err-otherwise.ensures)))))))

pub conditional-returns : goal.conditional-returns
conditional-returns t c =
    let h = saw_yes c.sees.ensures c.if-not-sees.false in
    called c.in_ok-condition.ensures (when_yes is_question _ _ (ap is_question h) (took_next h (rw c.may_open.ensures at c.in_ok-at.ensures) (called (rw add-one at c.in_ok-then.ensures) (took c.in_ok-take_mark.ensures (called (rw add-one at c.in_ok-otherwise.ensures) (gave c.in_ok-conditional.ensures))))))

pub binary-cast-requires : goal.binary-cast-requires
binary-cast-requires t c =
    (omega (arith), omega arith)

pub binary-binary-requires : goal.binary-binary-requires
binary-binary-requires t c =
    (let b : 0 < c.args.strength = omega (arith, c.if-strength-eq0.false) in omega (arith, b), omega arith)

pub binary-returns-then-strength-eq0 : goal.binary-returns-then-strength-eq0
binary-returns-then-strength-eq0 t c =
    binary_bottom c.if-strength-eq0.true c.cast.ensures

pub binary-returns-in_err-left : goal.binary-returns-in_err-left
binary-returns-in_err-left t c =
    let b : 0 < c.args.strength = omega (arith, c.if-strength-eq0.false) in
    let p = err_from_is_err_and c.from_residual.result c.from_residual.ensures.1 in rw (p.1, p.2) (binary_above b (call_failed c.in_err-left.ensures))

pub binary-loop-operator-init : goal.binary-loop-operator-init
binary-loop-operator-init t c =
    let b : 0 < c.args.strength = omega (arith, c.if-strength-eq0.false) in
    record { goes = λ res new g. binary_above b (called c.in_ok-left.ensures (tail g)); few = fewer c.in_ok-left.ensures }

pub binary-binary-requires-in-Some : goal.binary-binary-requires-in-Some
binary-binary-requires-in-Some t c =
    (omega (arith, c.loop-operator.invariant.few, next_shorter c.in_ok-at.ensures), omega arith)

pub binary-loop-operator-smaller : goal.binary-loop-operator-smaller
binary-loop-operator-smaller t c =
    omega (arith, next_shorter c.in_ok-at.ensures, fewer c.in_ok-right.ensures)

pub binary-loop-operator-preserved : goal.binary-loop-operator-preserved
binary-loop-operator-preserved t c =
    let b : 0 < c.args.strength = omega (arith, c.if-strength-eq0.false) in
    record { goes = λ res new g. c.loop-operator.invariant.goes res new (binary_step b (sym c.binary_operator.ensures ∙ c.in-Some.is) (rw c.is_low.ensures at c.in_ok-at.ensures) c.in_ok-right.ensures c.in_ok-left-2.ensures g); few = omega (arith, c.loop-operator.invariant.few, next_shorter c.in_ok-at.ensures, fewer c.in_ok-right.ensures) }

pub binary-returns-in_err-at : goal.binary-returns-in_err-at
binary-returns-in_err-at t c =
    let b : 0 < c.args.strength = omega (arith, c.if-strength-eq0.false) in
    let p = err_from_is_err_and c.from_residual-in_err-at.result c.from_residual-in_err-at.ensures.1 in rw (p.1, p.2) (c.loop-operator.invariant.goes _ _ (binary_stuck b (sym c.binary_operator.ensures ∙ c.in-Some.is) (rw c.is_low.ensures at c.in_err-at.ensures)))

pub binary-returns-in_err-right : goal.binary-returns-in_err-right
binary-returns-in_err-right t c =
    let b : 0 < c.args.strength = omega (arith, c.if-strength-eq0.false) in
    let p = err_from_is_err_and c.from_residual-in_err-right.result c.from_residual-in_err-right.ensures.1 in rw (p.1, p.2) (c.loop-operator.invariant.goes _ _ (binary_failed b (sym c.binary_operator.ensures ∙ c.in-Some.is) (rw c.is_low.ensures at c.in_ok-at.ensures) c.in_err-right.ensures))

pub binary-returns : goal.binary-returns
binary-returns t c =
    let b : 0 < c.args.strength = omega (arith, c.if-strength-eq0.false) in
    c.loop-operator.invariant.goes _ _ (binary_over b (sym c.binary_operator.ensures ∙ c.in_default.is) refl)

pub cast-unary-requires : goal.cast-unary-requires
cast-unary-requires t c =
    (omega (arith), omega arith)

pub cast-converted-requires : goal.cast-converted-requires
cast-converted-requires t c =
    (omega (arith, next_shorter c.in_ok-at.ensures), opened c.in_ok-at.ensures)

pub cast-parenthesized-requires : goal.cast-parenthesized-requires
cast-parenthesized-requires t c =
    (omega (arith, next_shorter c.in_ok-at.ensures), opened c.in_ok-at.ensures)

pub cast-postfix_rest-requires : goal.cast-postfix_rest-requires
cast-postfix_rest-requires t c =
    (omega (arith, next_shorter c.in_ok-at.ensures, fewer c.in_ok-operand.ensures), omega arith)

pub cast-returns-then-not-sees : goal.cast-returns-then-not-sees
cast-returns-then-not-sees t c =
    looked (cast_by c.args.depth) (reads (Rule.unary c.args.depth)) (no_cast c.args.depth _ (saw_no c.sees.ensures c.if-not-sees.true)) (tail c.unary.ensures)

pub cast-returns-in_err-at : goal.cast-returns-in_err-at
cast-returns-in_err-at t c =
    let h = saw_yes c.sees.ensures c.if-not-sees.false in
    let p = err_from_is_err_and c.from_residual.result c.from_residual.ensures.1 in rw (p.1, p.2) (seen_as (cast_by c.args.depth) _ h (next_failed h c.in_err-at.ensures))

pub cast-returns-then-sees_type : goal.cast-returns-then-sees_type
cast-returns-then-sees_type t c =
    let h = saw_yes c.sees.ensures c.if-not-sees.false in
    seen_as (cast_by c.args.depth) _ h (took_next h c.in_ok-at.ensures (when_yes begins_specifier _ _ (sym c.sees_type.ensures ∙ c.if-sees_type.true) c.converted.ensures))

pub cast-returns-in_err-operand : goal.cast-returns-in_err-operand
cast-returns-in_err-operand t c =
    let h = saw_yes c.sees.ensures c.if-not-sees.false in
    let p = err_from_is_err_and c.from_residual-in_err-operand.result c.from_residual-in_err-operand.ensures.1 in rw (p.1, p.2) (seen_as (cast_by c.args.depth) _ h (took_next h c.in_ok-at.ensures (when_no begins_specifier _ _ (sym c.sees_type.ensures ∙ c.if-sees_type.false) (call_failed c.in_err-operand.ensures))))

pub cast-returns : goal.cast-returns
cast-returns t c =
    let h = saw_yes c.sees.ensures c.if-not-sees.false in
    seen_as (cast_by c.args.depth) _ h (took_next h c.in_ok-at.ensures (when_no begins_specifier _ _ (sym c.sees_type.ensures ∙ c.if-sees_type.false) (called c.in_ok-operand.ensures (tail c.postfix_rest.ensures))))

pub converted-type_name-requires : goal.converted-type_name-requires
converted-type_name-requires t c =
    (omega (arith), omega arith)

pub converted-cast-requires : goal.converted-cast-requires
converted-cast-requires t c =
    (omega (arith, fewer c.in_ok-to.ensures, mark_shorter c.in_ok-take_mark.ensures), omega arith)

pub converted-returns-in_err-to : goal.converted-returns-in_err-to
converted-returns-in_err-to t c =
    let p = err_from_is_err_and c.from_residual.result c.from_residual.ensures.1 in rw (p.1, p.2) (call_failed (rw add-one at c.in_err-to.ensures))

pub converted-returns-in_err-take_mark : goal.converted-returns-in_err-take_mark
converted-returns-in_err-take_mark t c =
    let p = err_from_is_err_and c.from_residual-in_err-take_mark.result c.from_residual-in_err-take_mark.ensures.1 in rw (p.1, p.2) (called (rw add-one at c.in_ok-to.ensures) (take_failed c.in_err-take_mark.ensures))

pub converted-returns-in_err-operand : goal.converted-returns-in_err-operand
converted-returns-in_err-operand t c =
    let p = err_from_is_err_and c.from_residual-in_err-operand.result c.from_residual-in_err-operand.ensures.1 in rw (p.1, p.2) (called (rw add-one at c.in_ok-to.ensures) (took c.in_ok-take_mark.ensures (call_failed (rw add-one at c.in_err-operand.ensures))))

pub converted-returns : goal.converted-returns
converted-returns t c =
    called (rw add-one at c.in_ok-to.ensures) (took c.in_ok-take_mark.ensures (called (rw add-one at c.in_ok-operand.ensures) (gave c.in_ok-cast.ensures)))

pub unary-unary-requires : goal.unary-unary-requires
unary-unary-requires t c =
    (omega (arith, next_shorter c.in_ok-at.ensures), omega (arith, opened c.in_ok-at.ensures))

pub unary-cast-requires : goal.unary-cast-requires
unary-cast-requires t c =
    (omega (arith, next_shorter c.in_ok-at-2.ensures), omega (arith, opened c.in_ok-at-2.ensures))

pub unary-sizeof-requires : goal.unary-sizeof-requires
unary-sizeof-requires t c =
    (omega (arith, next_shorter c.in_ok-at-3.ensures), opened c.in_ok-at-3.ensures)

pub unary-postfix-requires : goal.unary-postfix-requires
unary-postfix-requires t c =
    (omega (arith), omega arith)

pub unary-returns-in_err-at : goal.unary-returns-in_err-at
unary-returns-in_err-at t c =
    let p = err_from_is_err_and c.from_residual.result c.from_residual.ensures.1 in rw (p.1, p.2) (step_seen (sym c.step_operator.ensures ∙ c.in-Some.is) (λ p h. next_failed h c.in_err-at.ensures))

pub unary-returns-in_err-operand : goal.unary-returns-in_err-operand
unary-returns-in_err-operand t c =
    let p = err_from_is_err_and c.from_residual-in_err-operand.result c.from_residual-in_err-operand.ensures.1 in rw (p.1, p.2) (step_seen (sym c.step_operator.ensures ∙ c.in-Some.is) (λ p h. took_next h c.in_ok-at.ensures (call_failed (rw add-one at c.in_err-operand.ensures))))

pub unary-returns-in-Some : goal.unary-returns-in-Some
unary-returns-in-Some t c =
    step_seen (sym c.step_operator.ensures ∙ c.in-Some.is) (λ p h. took_next h c.in_ok-at.ensures (called (rw add-one at c.in_ok-operand.ensures) (gave c.in_ok-step_before.ensures)))

pub unary-returns-in_err-at-2 : goal.unary-returns-in_err-at-2
unary-returns-in_err-at-2 t c =
    let p = err_from_is_err_and c.from_residual-in_err-at-2.result c.from_residual-in_err-at-2.ensures.1 in rw (p.1, p.2) (unary_seen (sym c.step_operator.ensures ∙ c.in_default.is) (sym c.unary_operator.ensures ∙ c.in-Some-unary_operator.is) (λ p h. next_failed h c.in_err-at-2.ensures))

pub unary-returns-in_err-operand-2 : goal.unary-returns-in_err-operand-2
unary-returns-in_err-operand-2 t c =
    let p = err_from_is_err_and c.from_residual-in_err-operand-2.result c.from_residual-in_err-operand-2.ensures.1 in rw (p.1, p.2) (unary_seen (sym c.step_operator.ensures ∙ c.in_default.is) (sym c.unary_operator.ensures ∙ c.in-Some-unary_operator.is) (λ p h. took_next h c.in_ok-at-2.ensures (call_failed (rw add-one at c.in_err-operand-2.ensures))))

pub unary-returns-in-Some-unary_operator : goal.unary-returns-in-Some-unary_operator
unary-returns-in-Some-unary_operator t c =
    unary_seen (sym c.step_operator.ensures ∙ c.in_default.is) (sym c.unary_operator.ensures ∙ c.in-Some-unary_operator.is) (λ p h. took_next h c.in_ok-at-2.ensures (called (rw add-one at c.in_ok-operand-2.ensures) (gave c.in_ok-unary.ensures)))

pub unary-returns-in_err-at-3 : goal.unary-returns-in_err-at-3
unary-returns-in_err-at-3 t c =
    let h = saw_yes c.sees_word.ensures c.if-sees_word.true in
    let p = err_from_is_err_and c.from_residual-in_err-at-3.result c.from_residual-in_err-at-3.ensures.1 in rw (p.1, p.2) (seen_as (unary_by c.args.depth) _ h (next_failed h c.in_err-at-3.ensures))

pub unary-returns-then-sees_word : goal.unary-returns-then-sees_word
unary-returns-then-sees_word t c =
    let h = saw_yes c.sees_word.ensures c.if-sees_word.true in
    seen_as (unary_by c.args.depth) _ h (took_next h c.in_ok-at-3.ensures c.sizeof.ensures)

pub unary-returns : goal.unary-returns
unary-returns t c =
    looked (unary_by c.args.depth) (reads (Rule.postfix c.args.depth)) (no_unary c.args.depth _ (sym c.step_operator.ensures ∙ c.in_default.is) (sym c.unary_operator.ensures ∙ c.in_default-unary_operator.is) (saw_no c.sees_word.ensures c.if-sees_word.false)) (tail c.postfix.ensures)

pub sizeof-unary-requires : goal.sizeof-unary-requires
sizeof-unary-requires t c =
    (omega (arith), omega arith)

pub sizeof-type_name-requires : goal.sizeof-type_name-requires
sizeof-type_name-requires t c =
    (omega (arith, next_shorter c.in_ok-from.ensures), omega (arith, opened (rw add-one at c.in_ok-from.ensures)))

pub sizeof-parenthesized-requires : goal.sizeof-parenthesized-requires
sizeof-parenthesized-requires t c =
    (omega (arith, next_shorter c.in_ok-from.ensures), omega (arith, opened (rw add-one at c.in_ok-from.ensures)))

pub sizeof-postfix_rest-requires : goal.sizeof-postfix_rest-requires
sizeof-postfix_rest-requires t c =
    (omega (arith, next_shorter c.in_ok-from.ensures, fewer c.in_ok-inner.ensures), omega arith)

pub sizeof-returns-in_err-operand : goal.sizeof-returns-in_err-operand
sizeof-returns-in_err-operand t c =
    let p = err_from_is_err_and c.from_residual.result c.from_residual.ensures.1 in rw (p.1, p.2) (looked (sizeof_by c.args.depth c.args.at) _ (no_sizeof_paren c.args.depth c.args.at _ (saw_no c.sees.ensures c.if-not-sees.true)) (call_failed (rw add-one at c.in_err-operand.ensures)))

pub sizeof-returns-then-not-sees : goal.sizeof-returns-then-not-sees
sizeof-returns-then-not-sees t c =
    looked (sizeof_by c.args.depth c.args.at) _ (no_sizeof_paren c.args.depth c.args.at _ (saw_no c.sees.ensures c.if-not-sees.true)) (called (rw add-one at c.in_ok-operand.ensures) (gave c.in_ok-sizeof_expression.ensures))

pub sizeof-returns-in_err-from : goal.sizeof-returns-in_err-from
sizeof-returns-in_err-from t c =
    let h = saw_yes c.sees.ensures c.if-not-sees.false in
    let p = err_from_is_err_and c.from_residual-in_err-from.result c.from_residual-in_err-from.ensures.1 in rw (p.1, p.2) (seen_as (sizeof_by c.args.depth c.args.at) _ h (next_failed h (rw add-one at c.in_err-from.ensures)))

pub sizeof-returns-in_err-measured : goal.sizeof-returns-in_err-measured
sizeof-returns-in_err-measured t c =
    let h = saw_yes c.sees.ensures c.if-not-sees.false in
    let p = err_from_is_err_and c.from_residual-in_err-measured.result c.from_residual-in_err-measured.ensures.1 in rw (p.1, p.2) (seen_as (sizeof_by c.args.depth c.args.at) _ h (took_next h (rw add-one at c.in_ok-from.ensures) (when_yes begins_specifier _ _ (sym c.sees_type.ensures ∙ c.if-sees_type.true) (call_failed (rw (add_two c.args.depth) at c.in_err-measured.ensures)))))

pub sizeof-returns-in_err-take_mark : goal.sizeof-returns-in_err-take_mark
sizeof-returns-in_err-take_mark t c =
    let h = saw_yes c.sees.ensures c.if-not-sees.false in
    let p = err_from_is_err_and c.from_residual-in_err-take_mark.result c.from_residual-in_err-take_mark.ensures.1 in rw (p.1, p.2) (seen_as (sizeof_by c.args.depth c.args.at) _ h (took_next h (rw add-one at c.in_ok-from.ensures) (when_yes begins_specifier _ _ (sym c.sees_type.ensures ∙ c.if-sees_type.true) (called (rw (add_two c.args.depth) at c.in_ok-measured.ensures) (take_failed c.in_err-take_mark.ensures)))))

pub sizeof-returns-then-sees_type : goal.sizeof-returns-then-sees_type
sizeof-returns-then-sees_type t c =
    let h = saw_yes c.sees.ensures c.if-not-sees.false in
    seen_as (sizeof_by c.args.depth c.args.at) _ h (took_next h (rw add-one at c.in_ok-from.ensures) (when_yes begins_specifier _ _ (sym c.sees_type.ensures ∙ c.if-sees_type.true) (called (rw (add_two c.args.depth) at c.in_ok-measured.ensures) (took c.in_ok-take_mark.ensures (gave c.sizeof_type.ensures)))))

pub sizeof-returns-in_err-inner : goal.sizeof-returns-in_err-inner
sizeof-returns-in_err-inner t c =
    let h = saw_yes c.sees.ensures c.if-not-sees.false in
    let p = err_from_is_err_and c.from_residual-in_err-inner.result c.from_residual-in_err-inner.ensures.1 in rw (p.1, p.2) (seen_as (sizeof_by c.args.depth c.args.at) _ h (took_next h (rw add-one at c.in_ok-from.ensures) (when_no begins_specifier _ _ (sym c.sees_type.ensures ∙ c.if-sees_type.false) (call_failed (rw add-one at c.in_err-inner.ensures)))))

pub sizeof-returns-in_err-operand-2 : goal.sizeof-returns-in_err-operand-2
sizeof-returns-in_err-operand-2 t c =
    let h = saw_yes c.sees.ensures c.if-not-sees.false in
    let p = err_from_is_err_and c.from_residual-in_err-operand-2.result c.from_residual-in_err-operand-2.ensures.1 in rw (p.1, p.2) (seen_as (sizeof_by c.args.depth c.args.at) _ h (took_next h (rw add-one at c.in_ok-from.ensures) (when_no begins_specifier _ _ (sym c.sees_type.ensures ∙ c.if-sees_type.false) (called (rw add-one at c.in_ok-inner.ensures) (call_failed (rw add-one at c.in_err-operand-2.ensures))))))

pub sizeof-returns : goal.sizeof-returns
sizeof-returns t c =
    let h = saw_yes c.sees.ensures c.if-not-sees.false in
    seen_as (sizeof_by c.args.depth c.args.at) _ h (took_next h (rw add-one at c.in_ok-from.ensures) (when_no begins_specifier _ _ (sym c.sees_type.ensures ∙ c.if-sees_type.false) (called (rw add-one at c.in_ok-inner.ensures) (called (rw add-one at c.in_ok-operand-2.ensures) (gave c.in_ok-sizeof_expression-2.ensures)))))

pub postfix-primary-requires : goal.postfix-primary-requires
postfix-primary-requires t c =
    (omega (arith), omega arith)

pub postfix-postfix_rest-requires : goal.postfix-postfix_rest-requires
postfix-postfix_rest-requires t c =
    (omega (arith, fewer c.in_ok-operand.ensures), omega arith)

pub postfix-returns-in_err-operand : goal.postfix-returns-in_err-operand
postfix-returns-in_err-operand t c =
    let p = err_from_is_err_and c.from_residual.result c.from_residual.ensures.1 in rw (p.1, p.2) (call_failed c.in_err-operand.ensures)

pub postfix-returns : goal.postfix-returns
postfix-returns t c =
    called c.in_ok-operand.ensures (tail c.postfix_rest.ensures)

pub postfix_rest-loop-alloc-init : goal.postfix_rest-loop-alloc-init
postfix_rest-loop-alloc-init t c =
    record { goes = λ res new g. g; few = omega arith }

pub postfix_rest-suffixed-requires : goal.postfix_rest-suffixed-requires
postfix_rest-suffixed-requires t c =
    (omega (arith, c.loop-alloc.invariant.few), (omega arith, sym c.sees_suffix.ensures ∙ c.loop-alloc-test.true))

pub postfix_rest-loop-alloc-smaller : goal.postfix_rest-loop-alloc-smaller
postfix_rest-loop-alloc-smaller t c =
    c.in_ok-operand.ensures.fewer

pub postfix_rest-loop-alloc-preserved : goal.postfix_rest-loop-alloc-preserved
postfix_rest-loop-alloc-preserved t c =
    record { goes = λ res new g. c.loop-alloc.invariant.goes res new (c.in_ok-operand.ensures.leads.answer res new g); few = omega (arith, c.loop-alloc.invariant.few, c.in_ok-operand.ensures.fewer) }

pub postfix_rest-returns-in_err-operand : goal.postfix_rest-returns-in_err-operand
postfix_rest-returns-in_err-operand t c =
    let p = err_from_is_err_and c.from_residual.result c.from_residual.ensures.1 in rw (p.1, p.2) (c.loop-alloc.invariant.goes _ _ (record { answer = c.in_err-operand.ensures.leads.answer }))

pub postfix_rest-returns : goal.postfix_rest-returns
postfix_rest-returns t c =
    let d = c.args.depth in let a = expression_tree c.loop-alloc.operand in
    c.loop-alloc.invariant.goes _ _ (looked (postfix_by d a) (Program.give a) (nothing_behind d a _ (sym c.sees_suffix.ensures ∙ c.loop-alloc-test.false)) (gave refl))

pub suffixed-index-requires : goal.suffixed-index-requires
suffixed-index-requires t c =
    (omega arith, (omega arith, saw_yes c.sees.ensures c.if-sees.true))

pub suffixed-call-requires : goal.suffixed-call-requires
suffixed-call-requires t c =
    (omega arith, (omega arith, saw_yes c.sees-2.ensures c.if-sees-2.true))

pub suffixed-member-requires : goal.suffixed-member-requires
suffixed-member-requires t c =
    saw_yes c.sees-3.ensures c.if-sees-3.true

pub suffixed-arrow-requires : goal.suffixed-arrow-requires
suffixed-arrow-requires t c =
    saw_yes c.sees-4.ensures c.if-sees-4.true

pub suffixed-increment-requires : goal.suffixed-increment-requires
suffixed-increment-requires t c =
    saw_yes c.sees-5.ensures c.if-sees-5.true

pub suffixed-decrement-requires : goal.suffixed-decrement-requires
suffixed-decrement-requires t c =
    last_behind _ c.requires.begins (saw_no c.sees.ensures c.if-sees.false) (saw_no c.sees-2.ensures c.if-sees-2.false) (saw_no c.sees-3.ensures c.if-sees-3.false) (saw_no c.sees-4.ensures c.if-sees-4.false) (saw_no c.sees-5.ensures c.if-sees-5.false)

pub suffixed-returns-then-sees : goal.suffixed-returns-then-sees
suffixed-returns-then-sees t c =
    record { leads = c.index.ensures.leads; fewer = c.index.ensures.fewer }

pub suffixed-returns-then-sees-2 : goal.suffixed-returns-then-sees-2
suffixed-returns-then-sees-2 t c =
    record { leads = c.call.ensures.leads; fewer = c.call.ensures.fewer }

pub suffixed-returns-then-sees-3 : goal.suffixed-returns-then-sees-3
suffixed-returns-then-sees-3 t c =
    record { leads = c.member.ensures.leads c.args.depth; fewer = c.member.ensures.fewer }

pub suffixed-returns-then-sees-4 : goal.suffixed-returns-then-sees-4
suffixed-returns-then-sees-4 t c =
    record { leads = c.arrow.ensures.leads c.args.depth; fewer = c.arrow.ensures.fewer }

pub suffixed-returns-then-sees-5 : goal.suffixed-returns-then-sees-5
suffixed-returns-then-sees-5 t c =
    record { leads = c.increment.ensures.leads c.args.depth; fewer = c.increment.ensures.fewer }

pub suffixed-returns : goal.suffixed-returns
suffixed-returns t c =
    record { leads = c.decrement.ensures.leads c.args.depth; fewer = c.decrement.ensures.fewer }

pub index-expression-requires : goal.index-expression-requires
index-expression-requires t c =
    (omega (arith, next_shorter c.in_ok-at.ensures), omega (arith, opened_behind _ {d = c.args.depth} (rw c.may_open.ensures at c.in_ok-at.ensures)))

pub index-returns-in_err-at-clause-leads : goal.index-returns-in_err-at-clause-leads
index-returns-in_err-at-clause-leads t c =
    let p = err_from_is_err_and c.from_residual.result c.from_residual.ensures.1 in rw (p.1, p.2) (leads_seen (postfix_by c.args.depth (expression_tree c.args.array)) (Some (Token.Punctuator m.OpenBracket)) c.requires.begins (leads_take_failed c.requires.begins (rw c.may_open.ensures at c.in_err-at.ensures)))

pub index-returns-in_err-index-clause-leads : goal.index-returns-in_err-index-clause-leads
index-returns-in_err-index-clause-leads t c =
    let p = err_from_is_err_and c.from_residual-in_err-index.result c.from_residual-in_err-index.ensures.1 in rw (p.1, p.2) (leads_seen (postfix_by c.args.depth (expression_tree c.args.array)) (Some (Token.Punctuator m.OpenBracket)) c.requires.begins (leads_took c.requires.begins (rw c.may_open.ensures at c.in_ok-at.ensures) (leads_call_failed (rw add-one at c.in_err-index.ensures))))

pub index-returns-in_err-take_mark-clause-leads : goal.index-returns-in_err-take_mark-clause-leads
index-returns-in_err-take_mark-clause-leads t c =
    let p = err_from_is_err_and c.from_residual-in_err-take_mark.result c.from_residual-in_err-take_mark.ensures.1 in rw (p.1, p.2) (leads_seen (postfix_by c.args.depth (expression_tree c.args.array)) (Some (Token.Punctuator m.OpenBracket)) c.requires.begins (leads_took c.requires.begins (rw c.may_open.ensures at c.in_ok-at.ensures) (leads_called (rw add-one at c.in_ok-index.ensures) (leads_mark_failed c.in_err-take_mark.ensures))))

pub index-returns-clause-leads : goal.index-returns-clause-leads
index-returns-clause-leads t c =
    leads_seen (postfix_by c.args.depth (expression_tree c.args.array)) (Some (Token.Punctuator m.OpenBracket)) c.requires.begins (leads_took c.requires.begins (rw c.may_open.ensures at c.in_ok-at.ensures) (leads_called (rw add-one at c.in_ok-index.ensures) (leads_took_mark c.in_ok-take_mark.ensures (leads_on (λ z. Rule.postfix_rest c.args.depth z) c.in_ok-index-2.ensures))))

pub index-returns-clause-fewer : goal.index-returns-clause-fewer
index-returns-clause-fewer t c =
    omega (arith, next_shorter c.in_ok-at.ensures, fewer c.in_ok-index.ensures, mark_shorter c.in_ok-take_mark.ensures)

pub call-arguments-requires : goal.call-arguments-requires
call-arguments-requires t c =
    (omega (arith, next_shorter c.in_ok-from.ensures), omega (arith, opened_behind _ {d = c.args.depth} (rw c.may_open.ensures at c.in_ok-from.ensures)))

pub call-returns-in_err-from-clause-leads : goal.call-returns-in_err-from-clause-leads
call-returns-in_err-from-clause-leads t c =
    let p = err_from_is_err_and c.from_residual.result c.from_residual.ensures.1 in rw (p.1, p.2) (leads_seen (postfix_by c.args.depth (expression_tree c.args.called)) (Some (Token.Punctuator m.OpenParen)) c.requires.begins (leads_take_failed c.requires.begins (rw c.may_open.ensures at c.in_err-from.ensures)))

pub call-returns-in_err-arguments-clause-leads : goal.call-returns-in_err-arguments-clause-leads
call-returns-in_err-arguments-clause-leads t c =
    let p = err_from_is_err_and c.from_residual-in_err-arguments.result c.from_residual-in_err-arguments.ensures.1 in rw (p.1, p.2) (leads_seen (postfix_by c.args.depth (expression_tree c.args.called)) (Some (Token.Punctuator m.OpenParen)) c.requires.begins (leads_took c.requires.begins (rw c.may_open.ensures at c.in_ok-from.ensures) (leads_call_failed (rw add-one at c.in_err-arguments.ensures))))

pub call-returns-in_err-take_mark-clause-leads : goal.call-returns-in_err-take_mark-clause-leads
call-returns-in_err-take_mark-clause-leads t c =
    let p = err_from_is_err_and c.from_residual-in_err-take_mark.result c.from_residual-in_err-take_mark.ensures.1 in rw (p.1, p.2) (leads_seen (postfix_by c.args.depth (expression_tree c.args.called)) (Some (Token.Punctuator m.OpenParen)) c.requires.begins (leads_took c.requires.begins (rw c.may_open.ensures at c.in_ok-from.ensures) (leads_called (rw add-one at c.in_ok-arguments.ensures) (leads_mark_failed c.in_err-take_mark.ensures))))

pub call-returns-clause-leads : goal.call-returns-clause-leads
call-returns-clause-leads t c =
    leads_seen (postfix_by c.args.depth (expression_tree c.args.called)) (Some (Token.Punctuator m.OpenParen)) c.requires.begins (leads_took c.requires.begins (rw c.may_open.ensures at c.in_ok-from.ensures) (leads_called (rw add-one at c.in_ok-arguments.ensures) (leads_took_mark c.in_ok-take_mark.ensures (leads_on (λ z. Rule.postfix_rest c.args.depth z) (rw c.call_at-at.ensures at c.in_ok-call.ensures)))))

pub call-returns-clause-fewer : goal.call-returns-clause-fewer
call-returns-clause-fewer t c =
    omega (arith, next_shorter c.in_ok-from.ensures, fewer c.in_ok-arguments.ensures, mark_shorter c.in_ok-take_mark.ensures)

pub primary-leaf-requires : goal.primary-leaf-requires
primary-leaf-requires t c =
    saw_no c.sees.ensures c.if-not-sees.true

pub primary-parenthesized-requires : goal.primary-parenthesized-requires
primary-parenthesized-requires t c =
    (omega (arith, next_shorter c.in_ok-at.ensures), opened c.in_ok-at.ensures)

pub primary-returns-then-not-sees : goal.primary-returns-then-not-sees
primary-returns-then-not-sees t c =
    c.leaf.ensures c.args.depth

pub primary-returns-in_err-at : goal.primary-returns-in_err-at
primary-returns-in_err-at t c =
    let h = saw_yes c.sees.ensures c.if-not-sees.false in
    let p = err_from_is_err_and c.from_residual.result c.from_residual.ensures.1 in rw (p.1, p.2) (seen_as (primary_by c.args.depth) _ h (next_failed h c.in_err-at.ensures))

pub primary-returns : goal.primary-returns
primary-returns t c =
    let h = saw_yes c.sees.ensures c.if-not-sees.false in
    seen_as (primary_by c.args.depth) _ h (took_next h c.in_ok-at.ensures (tail c.parenthesized.ensures))

pub parenthesized-expression-requires : goal.parenthesized-expression-requires
parenthesized-expression-requires t c =
    (omega (arith), omega arith)

pub parenthesized-returns-in_err-inner : goal.parenthesized-returns-in_err-inner
parenthesized-returns-in_err-inner t c =
    let p = err_from_is_err_and c.from_residual.result c.from_residual.ensures.1 in rw (p.1, p.2) (call_failed (rw add-one at c.in_err-inner.ensures))

pub parenthesized-returns-in_err-take_mark : goal.parenthesized-returns-in_err-take_mark
parenthesized-returns-in_err-take_mark t c =
    let p = err_from_is_err_and c.from_residual-in_err-take_mark.result c.from_residual-in_err-take_mark.ensures.1 in rw (p.1, p.2) (called (rw add-one at c.in_ok-inner.ensures) (take_failed c.in_err-take_mark.ensures))

pub parenthesized-returns : goal.parenthesized-returns
parenthesized-returns t c =
    called (rw add-one at c.in_ok-inner.ensures) (took c.in_ok-take_mark.ensures (gave c.in_ok-parenthesized.ensures))

pub arguments-assignment-requires : goal.arguments-assignment-requires
arguments-assignment-requires t c =
    (omega (arith), omega arith)

pub arguments-assignment-requires-in-loop-alloc : goal.arguments-assignment-requires-in-loop-alloc
arguments-assignment-requires-in-loop-alloc t c =
    (omega (arith, c.loop-alloc.invariant.few, next_shorter c.in_ok-take_next.ensures), omega arith)

pub arguments-returns-then-sees : goal.arguments-returns-then-sees
arguments-returns-then-sees t c =
    let h = saw_yes c.sees.ensures c.if-sees.true in
    when_yes is_close_paren _ _ (ap is_close_paren h) (gave (ap expression_trees c.new-arguments.ensures))

pub arguments-returns-in_err-argument : goal.arguments-returns-in_err-argument
arguments-returns-in_err-argument t c =
    let n = no_close_paren _ (saw_no c.sees.ensures c.if-sees.false) in
    let p = err_from_is_err_and c.from_residual.result c.from_residual.ensures.1 in rw (p.1, p.2) (when_no is_close_paren _ _ n (tail (call_failed c.in_err-argument.ensures)))

pub arguments-loop-alloc-init : goal.arguments-loop-alloc-init
arguments-loop-alloc-init t c =
    let n = no_close_paren _ (saw_no c.sees.ensures c.if-sees.false) in
    record { goes = λ res new g. when_no is_close_paren _ _ n (tail (arguments_first res c.in_ok-argument.ensures (c.in_ok-push.ensures ∙ ap (λ z. z ++ (c.in_ok-argument.argument ∷ [])) c.new-arguments.ensures) g)); few = fewer c.in_ok-argument.ensures }

pub arguments-loop-alloc-smaller : goal.arguments-loop-alloc-smaller
arguments-loop-alloc-smaller t c =
    omega (arith, next_shorter c.in_ok-take_next.ensures, fewer c.in_ok-argument-2.ensures)

pub arguments-loop-alloc-preserved : goal.arguments-loop-alloc-preserved
arguments-loop-alloc-preserved t c =
    let h = saw_yes c.sees-in-loop-alloc.ensures c.loop-alloc-test.true in
    record { goes = λ res new g. c.loop-alloc.invariant.goes res new (arguments_more res h c.in_ok-take_next.ensures c.in_ok-argument-2.ensures c.in_ok-push-2.ensures g); few = omega (arith, c.loop-alloc.invariant.few, next_shorter c.in_ok-take_next.ensures, fewer c.in_ok-argument-2.ensures) }

pub arguments-returns-in_err-argument-2 : goal.arguments-returns-in_err-argument-2
arguments-returns-in_err-argument-2 t c =
    let h = saw_yes c.sees-in-loop-alloc.ensures c.loop-alloc-test.true in
    let p = err_from_is_err_and c.from_residual-in_err-argument-2.result c.from_residual-in_err-argument-2.ensures.1 in rw (p.1, p.2) (c.loop-alloc.invariant.goes _ _ (arguments_failed h c.in_ok-take_next.ensures c.in_err-argument-2.ensures))

pub arguments-returns : goal.arguments-returns
arguments-returns t c =
    c.loop-alloc.invariant.goes _ _ (arguments_end c.args.depth (λ x. x) c.loop-alloc.arguments _ (no_comma _ (saw_no c.sees-in-loop-alloc.ensures c.loop-alloc-test.false)))

pub type_name-type_declarator-requires : goal.type_name-type_declarator-requires
type_name-type_declarator-requires t c =
    (omega (arith, fewer c.in_ok-specifier.ensures), omega arith)

pub type_name-returns-in_err-specifier : goal.type_name-returns-in_err-specifier
type_name-returns-in_err-specifier t c =
    let p = err_from_is_err_and c.from_residual.result c.from_residual.ensures.1 in rw (p.1, p.2) (call_failed c.in_err-specifier.ensures)

pub type_name-returns-in_err-declarator : goal.type_name-returns-in_err-declarator
type_name-returns-in_err-declarator t c =
    let p = err_from_is_err_and c.from_residual-in_err-declarator.result c.from_residual-in_err-declarator.ensures.1 in rw (p.1, p.2) (called c.in_ok-specifier.ensures (call_failed (rw c.at.ensures at c.in_err-declarator.ensures)))

pub type_name-returns : goal.type_name-returns
type_name-returns t c =
    called c.in_ok-specifier.ensures (called (rw c.at.ensures at c.in_ok-declarator.ensures) (gave c.type_name_of.ensures))

pub type_declarator-nested-requires : goal.type_declarator-nested-requires
type_declarator-nested-requires t c =
    (omega (arith, fewer c.in_ok-stars.ensures.reads), (omega (arith, c.in_ok-stars.ensures.few), saw_yes c.sees.ensures c.if-sees.true))

pub type_declarator-sizes-requires : goal.type_declarator-sizes-requires
type_declarator-sizes-requires t c =
    (omega (arith, fewer c.in_ok-stars.ensures.reads), omega (arith, c.in_ok-stars.ensures.few))

pub type_declarator-returns-in_err-stars : goal.type_declarator-returns-in_err-stars
type_declarator-returns-in_err-stars t c =
    let p = err_from_is_err_and c.from_residual.result c.from_residual.ensures.1 in rw (p.1, p.2) (call_failed c.in_err-stars.ensures.reads)

pub type_declarator-returns-then-sees : goal.type_declarator-returns-then-sees
type_declarator-returns-then-sees t c =
    let h = saw_yes c.sees.ensures c.if-sees.true in
    called c.in_ok-stars.ensures.reads (when_yes is_open_paren _ _ (ap is_open_paren h) c.nested.ensures)

pub type_declarator-returns-in_err-sizes : goal.type_declarator-returns-in_err-sizes
type_declarator-returns-in_err-sizes t c =
    let n = no_paren c.args.depth _ (saw_no c.sees.ensures c.if-sees.false) in
    let p = err_from_is_err_and c.from_residual-in_err-sizes.result c.from_residual-in_err-sizes.ensures.1 in rw (p.1, p.2) (called c.in_ok-stars.ensures.reads (when_no is_open_paren _ _ n (call_failed c.in_err-sizes.ensures)))

pub type_declarator-returns : goal.type_declarator-returns
type_declarator-returns t c =
    let n = no_paren c.args.depth _ (saw_no c.sees.ensures c.if-sees.false) in
    called c.in_ok-stars.ensures.reads (when_no is_open_paren _ _ n (called c.in_ok-sizes.ensures (gave c.direct.ensures)))

pub nested-type_declarator-requires : goal.nested-type_declarator-requires
nested-type_declarator-requires t c =
    (omega (arith, next_shorter c.in_ok-take_next.ensures), omega (arith, opened c.in_ok-take_next.ensures))

pub nested-sizes-requires : goal.nested-sizes-requires
nested-sizes-requires t c =
    (omega (arith, next_shorter c.in_ok-take_next.ensures, fewer c.in_ok-inner.ensures, mark_shorter c.in_ok-take_mark.ensures), omega arith)

pub nested-returns-in_err-take_next : goal.nested-returns-in_err-take_next
nested-returns-in_err-take_next t c =
    let p = err_from_is_err_and c.from_residual.result c.from_residual.ensures.1 in rw (p.1, p.2) (next_failed c.requires.begins c.in_err-take_next.ensures)

pub nested-returns-in_err-inner : goal.nested-returns-in_err-inner
nested-returns-in_err-inner t c =
    let p = err_from_is_err_and c.from_residual-in_err-inner.result c.from_residual-in_err-inner.ensures.1 in rw (p.1, p.2) (took_next c.requires.begins c.in_ok-take_next.ensures (call_failed (rw add-one at c.in_err-inner.ensures)))

pub nested-returns-then-is_nothing : goal.nested-returns-then-is_nothing
nested-returns-then-is_nothing t c =
    took_next c.requires.begins c.in_ok-take_next.ensures (called (rw add-one at c.in_ok-inner.ensures) (either_yes _ _ (sym c.is_nothing.ensures ∙ c.if-is_nothing.true) refused))

pub nested-returns-in_err-take_mark : goal.nested-returns-in_err-take_mark
nested-returns-in_err-take_mark t c =
    let p = err_from_is_err_and c.from_residual-in_err-take_mark.result c.from_residual-in_err-take_mark.ensures.1 in rw (p.1, p.2) (took_next c.requires.begins c.in_ok-take_next.ensures (called (rw add-one at c.in_ok-inner.ensures) (either_no _ Program.refuse (sym c.is_nothing.ensures ∙ c.if-is_nothing.false) (take_failed c.in_err-take_mark.ensures))))

pub nested-returns-in_err-sizes : goal.nested-returns-in_err-sizes
nested-returns-in_err-sizes t c =
    let p = err_from_is_err_and c.from_residual-in_err-sizes.result c.from_residual-in_err-sizes.ensures.1 in rw (p.1, p.2) (took_next c.requires.begins c.in_ok-take_next.ensures (called (rw add-one at c.in_ok-inner.ensures) (either_no _ Program.refuse (sym c.is_nothing.ensures ∙ c.if-is_nothing.false) (took c.in_ok-take_mark.ensures (call_failed c.in_err-sizes.ensures)))))

pub nested-returns : goal.nested-returns
nested-returns t c =
    took_next c.requires.begins c.in_ok-take_next.ensures (called (rw add-one at c.in_ok-inner.ensures) (either_no _ Program.refuse (sym c.is_nothing.ensures ∙ c.if-is_nothing.false) (took c.in_ok-take_mark.ensures (called c.in_ok-sizes.ensures (gave c.in_ok-nested.ensures)))))

pub sizes-loop-alloc-init : goal.sizes-loop-alloc-init
sizes-loop-alloc-init t c =
    record { goes = λ res new g. goes_on_all Sort.expressions (body (Rule.sizes c.args.depth)) expression_trees (λ v. v.items) _ res new (subst (λ z. MoreSizes c.args.depth (λ v. v.items) z c.args.cursor.now res new) c.new-sizes.ensures.items g); few = omega arith }

pub sizes-conditional-requires : goal.sizes-conditional-requires
sizes-conditional-requires t c =
    (omega (arith, c.loop-alloc.invariant.few, next_shorter c.in_ok-take_next.ensures), omega (arith, opened c.in_ok-take_next.ensures))

pub sizes-loop-alloc-smaller : goal.sizes-loop-alloc-smaller
sizes-loop-alloc-smaller t c =
    omega (arith, next_shorter c.in_ok-take_next.ensures, fewer c.in_ok-size.ensures, mark_shorter c.in_ok-take_mark.ensures)

pub sizes-loop-alloc-preserved : goal.sizes-loop-alloc-preserved
sizes-loop-alloc-preserved t c =
    let h = saw_yes c.sees.ensures c.loop-alloc-test.true in
    record { goes = λ res new g. c.loop-alloc.invariant.goes res new (sizes_more res h c.in_ok-take_next.ensures (rw add-one at c.in_ok-size.ensures) c.in_ok-take_mark.ensures (rw c.into_expression.ensures at c.in_ok-push.ensures.items) g); few = omega (arith, c.loop-alloc.invariant.few, next_shorter c.in_ok-take_next.ensures, fewer c.in_ok-size.ensures, mark_shorter c.in_ok-take_mark.ensures) }

pub sizes-returns-in_err-take_next : goal.sizes-returns-in_err-take_next
sizes-returns-in_err-take_next t c =
    let h = saw_yes c.sees.ensures c.loop-alloc-test.true in
    let p = err_from_is_err_and c.from_residual.result c.from_residual.ensures.1 in rw (p.1, p.2) (c.loop-alloc.invariant.goes _ _ (goes_on_failed {C = List Expression} {w = expression_trees} (when_yes is_open_bracket _ _ (ap is_open_bracket h) (next_failed h c.in_err-take_next.ensures))))

pub sizes-returns-in_err-size : goal.sizes-returns-in_err-size
sizes-returns-in_err-size t c =
    let h = saw_yes c.sees.ensures c.loop-alloc-test.true in
    let p = err_from_is_err_and c.from_residual-in_err-size.result c.from_residual-in_err-size.ensures.1 in rw (p.1, p.2) (c.loop-alloc.invariant.goes _ _ (goes_on_failed {C = List Expression} {w = expression_trees} (when_yes is_open_bracket _ _ (ap is_open_bracket h) (took_next h c.in_ok-take_next.ensures (call_failed (rw add-one at c.in_err-size.ensures))))))

pub sizes-returns-in_err-take_mark : goal.sizes-returns-in_err-take_mark
sizes-returns-in_err-take_mark t c =
    let h = saw_yes c.sees.ensures c.loop-alloc-test.true in
    let p = err_from_is_err_and c.from_residual-in_err-take_mark.result c.from_residual-in_err-take_mark.ensures.1 in rw (p.1, p.2) (c.loop-alloc.invariant.goes _ _ (goes_on_failed {C = List Expression} {w = expression_trees} (when_yes is_open_bracket _ _ (ap is_open_bracket h) (took_next h c.in_ok-take_next.ensures (called (rw add-one at c.in_ok-size.ensures) (take_failed c.in_err-take_mark.ensures))))))

pub sizes-returns : goal.sizes-returns
sizes-returns t c =
    c.loop-alloc.invariant.goes _ _ (sizes_end c.args.depth (λ v. v.items) c.loop-alloc.sizes _ (no_open_bracket _ (saw_no c.sees.ensures c.loop-alloc-test.false)))
