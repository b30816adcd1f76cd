use Rattle.std.proofs.Common.{add-one, sym, ap, ◌∙◌, arith, true, false}
use Rattle.std.proofs.lemmas.Result.{err_from_is_err_and}
use Rattle.syntax_tree.specs.SyntaxViews.{expression_tree, statement_tree}
use Rattle.syntax_tree.specs.Syntax.{StatementTree}
use Rattle.c_parser_rules.specs.Tests.{is_close_brace, is_else, begins_specifier}
use Rattle.c_parser_rules.specs.Bodies.{statement_by}
use Rattle.c_parser_expressions.proofs.CodeSteps.{called, call_failed, took, take_failed, gave, when_yes, when_no, seen_as, saw_yes, saw_no, failed_as, read_as}
use Rattle.c_parser_expressions.proofs.Fewer.{mark_opened, shorter_by, item_moves}
use Rattle.c_parser_expressions.proofs.Lists.{goes_stop, collected, items_more, items_end}
use Rattle.c_parser_expressions.proofs.Further.{no_close_brace, no_else, not_compound, do_body, do_deep, do_nothing, opens_not, opens_yes}
use Rattle.c_parser.proofs.statement.+statement.Goals as goal

pub statement-returns-in_err-block : goal.statement-returns-in_err-block
statement-returns-in_err-block t c =
    let p = err_from_is_err_and c.from_residual.result c.from_residual.ensures.1 in
    let h = saw_yes c.sees.ensures c.if-sees.true in
    rw (p.1, p.2) (seen_as (statement_by c.args.depth) _ h (call_failed c.in_err-block.ensures))

pub statement-returns-then-sees : goal.statement-returns-then-sees
statement-returns-then-sees t c =
    let h = saw_yes c.sees.ensures c.if-sees.true in
    seen_as (statement_by c.args.depth) _ h (called c.in_ok-block.ensures (gave (ap (λ z. (z, false)) c.block_statement.ensures)))

pub statement-returns-then-sees_word : goal.statement-returns-then-sees_word
statement-returns-then-sees_word t c =
    let h = saw_yes c.sees_word.ensures c.if-sees_word.true in
    seen_as (statement_by c.args.depth) _ h c.if_statement.ensures

pub statement-returns-then-sees_word-2 : goal.statement-returns-then-sees_word-2
statement-returns-then-sees_word-2 t c =
    let h = saw_yes c.sees_word-2.ensures c.if-sees_word-2.true in
    seen_as (statement_by c.args.depth) _ h c.while_statement.ensures

pub statement-returns-then-sees_word-3 : goal.statement-returns-then-sees_word-3
statement-returns-then-sees_word-3 t c =
    let h = saw_yes c.sees_word-3.ensures c.if-sees_word-3.true in
    seen_as (statement_by c.args.depth) _ h c.do_statement.ensures

pub statement-returns-then-sees_word-4 : goal.statement-returns-then-sees_word-4
statement-returns-then-sees_word-4 t c =
    let h = saw_yes c.sees_word-4.ensures c.if-sees_word-4.true in
    seen_as (statement_by c.args.depth) _ h c.for_statement.ensures

pub statement-simple-requires-clause-simple : goal.statement-simple-requires-clause-simple
statement-simple-requires-clause-simple t c = not_compound _ (saw_no c.sees.ensures c.if-sees.false) (saw_no c.sees_word.ensures c.if-sees_word.false) (saw_no c.sees_word-2.ensures c.if-sees_word-2.false)
    (saw_no c.sees_word-3.ensures c.if-sees_word-3.false) (saw_no c.sees_word-4.ensures c.if-sees_word-4.false)

pub inner-returns-in_err-statement : goal.inner-returns-in_err-statement
inner-returns-in_err-statement t c =
    let p = err_from_is_err_and c.from_residual.result c.from_residual.ensures.1 in
    rw (p.1, p.2) (failed_as c.in_err-statement.ensures)

pub inner-returns : goal.inner-returns
inner-returns t c = read_as c.in_ok-statement.ensures (ap (λ z. (statement_tree z, c.in_ok-statement.is_open)) c.in_ok-statement-2.ensures)

pub inner-statement-requires : goal.inner-statement-requires
inner-statement-requires t c = (omega arith, omega arith)

pub if_statement-returns-in_err-at : goal.if_statement-returns-in_err-at
if_statement-returns-in_err-at t c =
    let p = err_from_is_err_and c.from_residual.result c.from_residual.ensures.1 in
    rw (p.1, p.2) (take_failed c.in_err-at.ensures)

pub if_statement-returns-in_err-take_mark : goal.if_statement-returns-in_err-take_mark
if_statement-returns-in_err-take_mark t c =
    let p = err_from_is_err_and c.from_residual-in_err-take_mark.result c.from_residual-in_err-take_mark.ensures.1 in
    rw (p.1, p.2) (took c.in_ok-at.ensures (take_failed c.in_err-take_mark.ensures))

pub if_statement-returns-in_err-condition : goal.if_statement-returns-in_err-condition
if_statement-returns-in_err-condition t c =
    let p = err_from_is_err_and c.from_residual-in_err-condition.result c.from_residual-in_err-condition.ensures.1 in
    rw (p.1, p.2) (took c.in_ok-at.ensures (took c.in_ok-take_mark.ensures (call_failed (rw add-one at c.in_err-condition.ensures))))

pub if_statement-returns-in_err-take_mark-2 : goal.if_statement-returns-in_err-take_mark-2
if_statement-returns-in_err-take_mark-2 t c =
    let p = err_from_is_err_and c.from_residual-in_err-take_mark-2.result c.from_residual-in_err-take_mark-2.ensures.1 in
    rw (p.1, p.2) (took c.in_ok-at.ensures (took c.in_ok-take_mark.ensures (called (rw add-one at c.in_ok-condition.ensures) (take_failed c.in_err-take_mark-2.ensures))))

pub if_statement-returns-in_err-then : goal.if_statement-returns-in_err-then
if_statement-returns-in_err-then t c =
    let p = err_from_is_err_and c.from_residual-in_err-then.result c.from_residual-in_err-then.ensures.1 in
    rw (p.1, p.2) (took c.in_ok-at.ensures (took c.in_ok-take_mark.ensures (called (rw add-one at c.in_ok-condition.ensures) (took c.in_ok-take_mark-2.ensures (call_failed (rw add-one at c.in_err-then.ensures))))))

pub if_statement-returns : goal.if_statement-returns
if_statement-returns t c = took c.in_ok-at.ensures (took c.in_ok-take_mark.ensures (called (rw add-one at c.in_ok-condition.ensures) (took c.in_ok-take_mark-2.ensures (called (rw add-one at c.in_ok-then.ensures) (rw c.into_expression-condition.ensures at c.otherwise.ensures)))))

pub while_statement-returns-in_err-at : goal.while_statement-returns-in_err-at
while_statement-returns-in_err-at t c =
    let p = err_from_is_err_and c.from_residual.result c.from_residual.ensures.1 in
    rw (p.1, p.2) (take_failed c.in_err-at.ensures)

pub while_statement-returns-in_err-take_mark : goal.while_statement-returns-in_err-take_mark
while_statement-returns-in_err-take_mark t c =
    let p = err_from_is_err_and c.from_residual-in_err-take_mark.result c.from_residual-in_err-take_mark.ensures.1 in
    rw (p.1, p.2) (took c.in_ok-at.ensures (take_failed c.in_err-take_mark.ensures))

pub while_statement-returns-in_err-condition : goal.while_statement-returns-in_err-condition
while_statement-returns-in_err-condition t c =
    let p = err_from_is_err_and c.from_residual-in_err-condition.result c.from_residual-in_err-condition.ensures.1 in
    rw (p.1, p.2) (took c.in_ok-at.ensures (took c.in_ok-take_mark.ensures (call_failed (rw add-one at c.in_err-condition.ensures))))

pub while_statement-returns-in_err-take_mark-2 : goal.while_statement-returns-in_err-take_mark-2
while_statement-returns-in_err-take_mark-2 t c =
    let p = err_from_is_err_and c.from_residual-in_err-take_mark-2.result c.from_residual-in_err-take_mark-2.ensures.1 in
    rw (p.1, p.2) (took c.in_ok-at.ensures (took c.in_ok-take_mark.ensures (called (rw add-one at c.in_ok-condition.ensures) (take_failed c.in_err-take_mark-2.ensures))))

pub while_statement-returns-in_err-body : goal.while_statement-returns-in_err-body
while_statement-returns-in_err-body t c =
    let p = err_from_is_err_and c.from_residual-in_err-body.result c.from_residual-in_err-body.ensures.1 in
    rw (p.1, p.2) (took c.in_ok-at.ensures (took c.in_ok-take_mark.ensures (called (rw add-one at c.in_ok-condition.ensures) (took c.in_ok-take_mark-2.ensures (call_failed (rw add-one at c.in_err-body.ensures))))))

pub while_statement-returns : goal.while_statement-returns
while_statement-returns t c = took c.in_ok-at.ensures (took c.in_ok-take_mark.ensures (called (rw add-one at c.in_ok-condition.ensures) (took c.in_ok-take_mark-2.ensures (called (rw add-one at c.in_ok-body.ensures) (gave (ap (λ z. (z, c.in_ok-body.is_open)) (c.while_loop.ensures ∙ ap (λ z. StatementTree.While c.in_ok-at.at (expression_tree z) (statement_tree c.in_ok-body.body.value)) c.into_expression.ensures)))))))

pub for_statement-returns-in_err-at : goal.for_statement-returns-in_err-at
for_statement-returns-in_err-at t c =
    let p = err_from_is_err_and c.from_residual.result c.from_residual.ensures.1 in
    rw (p.1, p.2) (take_failed c.in_err-at.ensures)

pub for_statement-returns-in_err-take_mark : goal.for_statement-returns-in_err-take_mark
for_statement-returns-in_err-take_mark t c =
    let p = err_from_is_err_and c.from_residual-in_err-take_mark.result c.from_residual-in_err-take_mark.ensures.1 in
    rw (p.1, p.2) (took c.in_ok-at.ensures (take_failed c.in_err-take_mark.ensures))

pub for_statement-returns-in_err-start : goal.for_statement-returns-in_err-start
for_statement-returns-in_err-start t c =
    let p = err_from_is_err_and c.from_residual-in_err-start.result c.from_residual-in_err-start.ensures.1 in
    rw (p.1, p.2) (took c.in_ok-at.ensures (took c.in_ok-take_mark.ensures (call_failed (rw add-one at c.in_err-start.ensures))))

pub for_statement-returns-in_err-condition : goal.for_statement-returns-in_err-condition
for_statement-returns-in_err-condition t c =
    let p = err_from_is_err_and c.from_residual-in_err-condition.result c.from_residual-in_err-condition.ensures.1 in
    rw (p.1, p.2) (took c.in_ok-at.ensures (took c.in_ok-take_mark.ensures (called (rw add-one at c.in_ok-start.ensures) (call_failed (rw add-one at c.in_err-condition.ensures)))))

pub for_statement-returns-in_err-take_mark-2 : goal.for_statement-returns-in_err-take_mark-2
for_statement-returns-in_err-take_mark-2 t c =
    let p = err_from_is_err_and c.from_residual-in_err-take_mark-2.result c.from_residual-in_err-take_mark-2.ensures.1 in
    rw (p.1, p.2) (took c.in_ok-at.ensures (took c.in_ok-take_mark.ensures (called (rw add-one at c.in_ok-start.ensures) (called (rw add-one at c.in_ok-condition.ensures) (take_failed c.in_err-take_mark-2.ensures)))))

pub for_statement-returns-in_err-step : goal.for_statement-returns-in_err-step
for_statement-returns-in_err-step t c =
    let p = err_from_is_err_and c.from_residual-in_err-step.result c.from_residual-in_err-step.ensures.1 in
    rw (p.1, p.2) (took c.in_ok-at.ensures (took c.in_ok-take_mark.ensures (called (rw add-one at c.in_ok-start.ensures) (called (rw add-one at c.in_ok-condition.ensures) (took c.in_ok-take_mark-2.ensures (call_failed (rw add-one at c.in_err-step.ensures)))))))

pub for_statement-returns-in_err-take_mark-3 : goal.for_statement-returns-in_err-take_mark-3
for_statement-returns-in_err-take_mark-3 t c =
    let p = err_from_is_err_and c.from_residual-in_err-take_mark-3.result c.from_residual-in_err-take_mark-3.ensures.1 in
    rw (p.1, p.2) (took c.in_ok-at.ensures (took c.in_ok-take_mark.ensures (called (rw add-one at c.in_ok-start.ensures) (called (rw add-one at c.in_ok-condition.ensures) (took c.in_ok-take_mark-2.ensures (called (rw add-one at c.in_ok-step.ensures) (take_failed c.in_err-take_mark-3.ensures)))))))

pub for_statement-returns-in_err-body : goal.for_statement-returns-in_err-body
for_statement-returns-in_err-body t c =
    let p = err_from_is_err_and c.from_residual-in_err-body.result c.from_residual-in_err-body.ensures.1 in
    rw (p.1, p.2) (took c.in_ok-at.ensures (took c.in_ok-take_mark.ensures (called (rw add-one at c.in_ok-start.ensures) (called (rw add-one at c.in_ok-condition.ensures) (took c.in_ok-take_mark-2.ensures (called (rw add-one at c.in_ok-step.ensures) (took c.in_ok-take_mark-3.ensures (call_failed (rw add-one at c.in_err-body.ensures)))))))))

pub for_statement-returns : goal.for_statement-returns
for_statement-returns t c = took c.in_ok-at.ensures (took c.in_ok-take_mark.ensures (called (rw add-one at c.in_ok-start.ensures) (called (rw add-one at c.in_ok-condition.ensures) (took c.in_ok-take_mark-2.ensures (called (rw add-one at c.in_ok-step.ensures) (took c.in_ok-take_mark-3.ensures (called (rw add-one at c.in_ok-body.ensures) (gave (ap (λ z. (z, c.in_ok-body.is_open)) c.for_loop.ensures)))))))))

pub otherwise-returns-then-is_open : goal.otherwise-returns-then-is_open
otherwise-returns-then-is_open t c = rw c.if-is_open.true (gave (ap (λ z. (z, true)) c.only_if.ensures))

pub otherwise-returns-then-not-sees_word : goal.otherwise-returns-then-not-sees_word
otherwise-returns-then-not-sees_word t c = rw c.if-is_open.false (when_no is_else _ _ (no_else _ (saw_no c.sees_word.ensures c.if-not-sees_word.true)) (gave (ap (λ z. (z, true)) c.only_if-then-not-sees_word.ensures)))

pub otherwise-returns-in_err-take_word : goal.otherwise-returns-in_err-take_word
otherwise-returns-in_err-take_word t c =
    let p = err_from_is_err_and c.from_residual.result c.from_residual.ensures.1 in
    rw (p.1, p.2) (rw c.if-is_open.false (when_yes is_else _ _ (ap is_else (saw_yes c.sees_word.ensures c.if-not-sees_word.false)) (take_failed c.in_err-take_word.ensures)))

pub otherwise-returns-in_err-other : goal.otherwise-returns-in_err-other
otherwise-returns-in_err-other t c =
    let p = err_from_is_err_and c.from_residual-in_err-other.result c.from_residual-in_err-other.ensures.1 in
    rw (p.1, p.2) (rw c.if-is_open.false (when_yes is_else _ _ (ap is_else (saw_yes c.sees_word.ensures c.if-not-sees_word.false)) (took c.in_ok-take_word.ensures (call_failed (rw add-one at c.in_err-other.ensures)))))

pub otherwise-returns : goal.otherwise-returns
otherwise-returns t c = rw c.if-is_open.false (when_yes is_else _ _ (ap is_else (saw_yes c.sees_word.ensures c.if-not-sees_word.false)) (took c.in_ok-take_word.ensures (called (rw add-one at c.in_ok-other.ensures) (gave (ap (λ z. (z, c.in_ok-other.is_open)) c.if_else.ensures)))))

pub do_statement-returns-in_err-at : goal.do_statement-returns-in_err-at
do_statement-returns-in_err-at t c =
    let p = err_from_is_err_and c.from_residual.result c.from_residual.ensures.1 in
    rw (p.1, p.2) (take_failed c.in_err-at.ensures)

pub do_statement-returns-then-not-sees_statement : goal.do_statement-returns-then-not-sees_statement
do_statement-returns-then-not-sees_statement t c = took c.in_ok-at.ensures (do_nothing _ _ (sym c.sees_statement.ensures ∙ c.if-not-sees_statement.true))

pub do_statement-returns-then-depth-ge-LEVELS : goal.do_statement-returns-then-depth-ge-LEVELS
do_statement-returns-then-depth-ge-LEVELS t c = took c.in_ok-at.ensures (do_deep _ _ (sym c.sees_statement.ensures ∙ c.if-not-sees_statement.false) (opens_not _ c.if-depth-ge-LEVELS.true))

pub do_statement-returns-in_err-body : goal.do_statement-returns-in_err-body
do_statement-returns-in_err-body t c =
    let p = err_from_is_err_and c.from_residual-in_err-body.result c.from_residual-in_err-body.ensures.1 in
    rw (p.1, p.2) (took c.in_ok-at.ensures (do_body _ _ (sym c.sees_statement.ensures ∙ c.if-not-sees_statement.false) (opens_yes _ c.if-depth-ge-LEVELS.false) (call_failed (rw add-one at c.in_err-body.ensures))))

pub do_statement-returns-in_err-take_word : goal.do_statement-returns-in_err-take_word
do_statement-returns-in_err-take_word t c =
    let p = err_from_is_err_and c.from_residual-in_err-take_word.result c.from_residual-in_err-take_word.ensures.1 in
    rw (p.1, p.2) (took c.in_ok-at.ensures (do_body _ _ (sym c.sees_statement.ensures ∙ c.if-not-sees_statement.false) (opens_yes _ c.if-depth-ge-LEVELS.false) (called (rw add-one at c.in_ok-body.ensures) (take_failed c.in_err-take_word.ensures))))

pub do_statement-returns-in_err-take_mark : goal.do_statement-returns-in_err-take_mark
do_statement-returns-in_err-take_mark t c =
    let p = err_from_is_err_and c.from_residual-in_err-take_mark.result c.from_residual-in_err-take_mark.ensures.1 in
    rw (p.1, p.2) (took c.in_ok-at.ensures (do_body _ _ (sym c.sees_statement.ensures ∙ c.if-not-sees_statement.false) (opens_yes _ c.if-depth-ge-LEVELS.false) (called (rw add-one at c.in_ok-body.ensures) (took c.in_ok-take_word.ensures (take_failed c.in_err-take_mark.ensures)))))

pub do_statement-returns-in_err-condition : goal.do_statement-returns-in_err-condition
do_statement-returns-in_err-condition t c =
    let p = err_from_is_err_and c.from_residual-in_err-condition.result c.from_residual-in_err-condition.ensures.1 in
    rw (p.1, p.2) (took c.in_ok-at.ensures (do_body _ _ (sym c.sees_statement.ensures ∙ c.if-not-sees_statement.false) (opens_yes _ c.if-depth-ge-LEVELS.false) (called (rw add-one at c.in_ok-body.ensures) (took c.in_ok-take_word.ensures (took c.in_ok-take_mark.ensures (call_failed (rw add-one at c.in_err-condition.ensures)))))))

pub do_statement-returns-in_err-take_mark-2 : goal.do_statement-returns-in_err-take_mark-2
do_statement-returns-in_err-take_mark-2 t c =
    let p = err_from_is_err_and c.from_residual-in_err-take_mark-2.result c.from_residual-in_err-take_mark-2.ensures.1 in
    rw (p.1, p.2) (took c.in_ok-at.ensures (do_body _ _ (sym c.sees_statement.ensures ∙ c.if-not-sees_statement.false) (opens_yes _ c.if-depth-ge-LEVELS.false) (called (rw add-one at c.in_ok-body.ensures) (took c.in_ok-take_word.ensures (took c.in_ok-take_mark.ensures (called (rw add-one at c.in_ok-condition.ensures) (take_failed c.in_err-take_mark-2.ensures)))))))

pub do_statement-returns-in_err-take_mark-3 : goal.do_statement-returns-in_err-take_mark-3
do_statement-returns-in_err-take_mark-3 t c =
    let p = err_from_is_err_and c.from_residual-in_err-take_mark-3.result c.from_residual-in_err-take_mark-3.ensures.1 in
    rw (p.1, p.2) (took c.in_ok-at.ensures (do_body _ _ (sym c.sees_statement.ensures ∙ c.if-not-sees_statement.false) (opens_yes _ c.if-depth-ge-LEVELS.false) (called (rw add-one at c.in_ok-body.ensures) (took c.in_ok-take_word.ensures (took c.in_ok-take_mark.ensures (called (rw add-one at c.in_ok-condition.ensures) (took c.in_ok-take_mark-2.ensures (take_failed c.in_err-take_mark-3.ensures))))))))

pub do_statement-returns : goal.do_statement-returns
do_statement-returns t c = took c.in_ok-at.ensures (do_body _ _ (sym c.sees_statement.ensures ∙ c.if-not-sees_statement.false) (opens_yes _ c.if-depth-ge-LEVELS.false) (called (rw add-one at c.in_ok-body.ensures) (took c.in_ok-take_word.ensures (took c.in_ok-take_mark.ensures (called (rw add-one at c.in_ok-condition.ensures) (took c.in_ok-take_mark-2.ensures (took c.in_ok-take_mark-3.ensures (gave (ap (λ z. (z, false)) (c.do_while.ensures ∙ ap (λ z. StatementTree.DoWhile c.in_ok-at.at (statement_tree c.in_ok-body.body.value) (expression_tree z)) c.into_expression.ensures))))))))))

pub block-returns-in_err-at : goal.block-returns-in_err-at
block-returns-in_err-at t c =
    let p = err_from_is_err_and c.from_residual.result c.from_residual.ensures.1 in
    rw (p.1, p.2) (take_failed c.in_err-at.ensures)

pub block-returns-in_err-items : goal.block-returns-in_err-items
block-returns-in_err-items t c =
    let p = err_from_is_err_and c.from_residual-in_err-items.result c.from_residual-in_err-items.ensures.1 in
    rw (p.1, p.2) (took c.in_ok-at.ensures (call_failed (rw add-one at c.in_err-items.ensures)))

pub block-returns-in_err-take_mark : goal.block-returns-in_err-take_mark
block-returns-in_err-take_mark t c =
    let p = err_from_is_err_and c.from_residual-in_err-take_mark.result c.from_residual-in_err-take_mark.ensures.1 in
    rw (p.1, p.2) (took c.in_ok-at.ensures (called (rw add-one at c.in_ok-items.ensures) (take_failed c.in_err-take_mark.ensures)))

pub block-returns : goal.block-returns
block-returns t c = took c.in_ok-at.ensures (called (rw add-one at c.in_ok-items.ensures) (took c.in_ok-take_mark.ensures (gave c.block.ensures)))

pub items-items-init : goal.items-items-init
items-items-init t c = λ res new g. collected c.new-items.ensures.items g

pub items-items-smaller : goal.items-items-smaller
items-items-smaller t c = shorter_by (item_moves c.args.depth) c.in_ok-item.ensures

pub items-items-preserved : goal.items-items-preserved
items-items-preserved t c = λ res new g. c.items.invariant res new
    (items_more (no_close_brace _ (saw_no c.sees.ensures c.items-test.true)) c.in_ok-item.ensures c.in_ok-push.ensures.items g)

pub items-returns-in_err-item : goal.items-returns-in_err-item
items-returns-in_err-item t c =
    let p = err_from_is_err_and c.from_residual.result c.from_residual.ensures.1 in
    rw (p.1, p.2) (c.items.invariant _ _ (goes_stop (when_no is_close_brace _ _ (no_close_brace _ (saw_no c.sees.ensures c.items-test.true)) (call_failed c.in_err-item.ensures))))

pub items-returns : goal.items-returns
items-returns t c = c.items.invariant _ _ (items_end (ap is_close_brace (saw_yes c.sees.ensures c.items-test.false)))

pub item-returns-in_err-declaration : goal.item-returns-in_err-declaration
item-returns-in_err-declaration t c =
    let p = err_from_is_err_and c.from_residual.result c.from_residual.ensures.1 in
    rw (p.1, p.2) (when_yes begins_specifier _ _ (sym c.sees_type.ensures ∙ c.if-sees_type.true) (call_failed c.in_err-declaration.ensures))

pub item-returns-then-sees_type : goal.item-returns-then-sees_type
item-returns-then-sees_type t c = when_yes begins_specifier _ _ (sym c.sees_type.ensures ∙ c.if-sees_type.true) (called c.in_ok-declaration.ensures (gave c.declaration_item.ensures))

pub item-returns-in_err-statement : goal.item-returns-in_err-statement
item-returns-in_err-statement t c =
    let p = err_from_is_err_and c.from_residual-in_err-statement.result c.from_residual-in_err-statement.ensures.1 in
    rw (p.1, p.2) (when_no begins_specifier _ _ (sym c.sees_type.ensures ∙ c.if-sees_type.false) (call_failed c.in_err-statement.ensures))

pub item-returns : goal.item-returns
item-returns t c = when_no begins_specifier _ _ (sym c.sees_type.ensures ∙ c.if-sees_type.false) (called c.in_ok-statement.ensures (gave c.statement_item.ensures))

pub statement-block-requires : goal.statement-block-requires
statement-block-requires t c = (omega arith, omega arith)

pub statement-if_statement-requires : goal.statement-if_statement-requires
statement-if_statement-requires t c = (omega arith, omega arith)

pub statement-while_statement-requires : goal.statement-while_statement-requires
statement-while_statement-requires t c = (omega arith, omega arith)

pub statement-do_statement-requires : goal.statement-do_statement-requires
statement-do_statement-requires t c = (omega arith, omega arith)

pub statement-for_statement-requires : goal.statement-for_statement-requires
statement-for_statement-requires t c = (omega arith, omega arith)

pub if_statement-expression-requires : goal.if_statement-expression-requires
if_statement-expression-requires t c = omega (arith, mark_opened {d = c.args.depth} c.in_ok-take_mark.ensures)

pub if_statement-inner-requires : goal.if_statement-inner-requires
if_statement-inner-requires t c = (omega (arith, mark_opened {d = c.args.depth} c.in_ok-take_mark.ensures), omega (arith, mark_opened {d = c.args.depth} c.in_ok-take_mark.ensures))

pub if_statement-otherwise-requires : goal.if_statement-otherwise-requires
if_statement-otherwise-requires t c = (omega (arith, mark_opened {d = c.args.depth} c.in_ok-take_mark.ensures), omega (arith, mark_opened {d = c.args.depth} c.in_ok-take_mark.ensures))

pub otherwise-inner-requires : goal.otherwise-inner-requires
otherwise-inner-requires t c = (omega arith, omega arith)

pub while_statement-expression-requires : goal.while_statement-expression-requires
while_statement-expression-requires t c = omega (arith, mark_opened {d = c.args.depth} c.in_ok-take_mark.ensures)

pub while_statement-inner-requires : goal.while_statement-inner-requires
while_statement-inner-requires t c = (omega (arith, mark_opened {d = c.args.depth} c.in_ok-take_mark.ensures), omega (arith, mark_opened {d = c.args.depth} c.in_ok-take_mark.ensures))

pub do_statement-inner-requires : goal.do_statement-inner-requires
do_statement-inner-requires t c = (omega (arith, c.if-depth-ge-LEVELS.false), omega (arith, c.if-depth-ge-LEVELS.false))

pub do_statement-expression-requires : goal.do_statement-expression-requires
do_statement-expression-requires t c = omega (arith, c.if-depth-ge-LEVELS.false)

pub for_statement-for_start-requires : goal.for_statement-for_start-requires
for_statement-for_start-requires t c = omega (arith, mark_opened {d = c.args.depth} c.in_ok-take_mark.ensures)

pub for_statement-optional_value-requires : goal.for_statement-optional_value-requires
for_statement-optional_value-requires t c = omega (arith, mark_opened {d = c.args.depth} c.in_ok-take_mark.ensures)

pub for_statement-optional_step-requires : goal.for_statement-optional_step-requires
for_statement-optional_step-requires t c = omega (arith, mark_opened {d = c.args.depth} c.in_ok-take_mark.ensures)

pub for_statement-inner-requires : goal.for_statement-inner-requires
for_statement-inner-requires t c = (omega (arith, mark_opened {d = c.args.depth} c.in_ok-take_mark.ensures), omega (arith, mark_opened {d = c.args.depth} c.in_ok-take_mark.ensures))

pub block-items-requires : goal.block-items-requires
block-items-requires t c = (omega (arith, mark_opened {d = c.args.depth} c.in_ok-at.ensures), omega (arith, mark_opened {d = c.args.depth} c.in_ok-at.ensures))

pub items-item-requires : goal.items-item-requires
items-item-requires t c = (omega arith, omega arith)

pub item-statement-requires : goal.item-statement-requires
item-statement-requires t c = (omega arith, omega arith)
