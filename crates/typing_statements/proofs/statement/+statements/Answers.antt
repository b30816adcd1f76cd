use Rattle.std.proofs.Common.{arith}
use Rattle.syntax_tree.proofs.SyntaxViews.{statement_views}
use Rattle.typed_tree.proofs.TypedViewed.{typed_views}
use Rattle.typing_expressions.proofs.Pushed.{statements_pushed}
use Rattle.std.proofs.lemmas.Result.{err_from_is_err_and}
use Rattle.typed_tree.specs.TypesViewed.{ty_of}
use Rattle.typing_expressions.specs.Scene.{scene_of}
use Rattle.typing_statements.specs.StatementSteps.{around, head_of}
use Rattle.typing_statements.proofs.ForLoops.{head_stops, body_stops}
use Rattle.typing_statements.proofs.statement.+statements.Goals as goal

pub statement-returns-in_err-head-in-For : goal.statement-returns-in_err-head-in-For
statement-returns-in_err-head-in-For t c =
    let p = err_from_is_err_and c.from_residual-in_err-head-in-For.result c.from_residual-in_err-head-in-For.ensures.1 in
    rw (p.1, p.2) (head_stops c.args.tree.now c.in-For.at c.in-For.from c.in-For.e c.in-For.after c.in-For.body (around (ty_of c.args.returned.now) c.args.in_loop) (scene_of c.args.scene.now) (scene_of c.open-in-For.new.scene)
    c.in-For.is c.in_ok-open-in-For.ensures _ c.in_err-head-in-For.ensures)

pub statement-returns-in_err-body-in-For : goal.statement-returns-in_err-body-in-For
statement-returns-in_err-body-in-For t c =
    let p = err_from_is_err_and c.from_residual-in_err-body-in-For.result c.from_residual-in_err-body-in-For.ensures.1 in
    rw (p.1, p.2) (body_stops c.args.tree.now c.in-For.at c.in-For.from c.in-For.e c.in-For.after c.in-For.body (around (ty_of c.args.returned.now) c.args.in_loop) (scene_of c.args.scene.now) (scene_of c.open-in-For.new.scene)
    c.in-For.is c.in_ok-open-in-For.ensures
    (head_of c.in_ok-head-in-For.head) (scene_of c.head_from.new.scene) c.deref-in-For.result.now _ c.deref-in-For.ensures c.in_ok-head-in-For.ensures c.in_err-body-in-For.ensures)

pub block-returns-in_err-statements : goal.block-returns-in_err-statements
block-returns-in_err-statements t c = grind (arith, statement_views, typed_views)

pub block-returns : goal.block-returns
block-returns t c = grind (arith, statement_views, typed_views)

pub item-returns-in_err-declarations-in-Declaration : goal.item-returns-in_err-declarations-in-Declaration
item-returns-in_err-declarations-in-Declaration t c = grind (arith, statement_views, statements_pushed)

pub item-returns-in_err-push-in-Statement : goal.item-returns-in_err-push-in-Statement
item-returns-in_err-push-in-Statement t c = grind (arith, statement_views, statements_pushed)

pub item-returns-in_err-value-in-Statement : goal.item-returns-in_err-value-in-Statement
item-returns-in_err-value-in-Statement t c = grind (arith, statement_views, statements_pushed)

pub item-returns-in_ok-declarations-in-Declaration : goal.item-returns-in_ok-declarations-in-Declaration
item-returns-in_ok-declarations-in-Declaration t c = grind (arith, statement_views, statements_pushed)

pub item-returns-in_ok-push-in-Statement : goal.item-returns-in_ok-push-in-Statement
item-returns-in_ok-push-in-Statement t c = grind (arith, statement_views, statements_pushed)

pub statement-returns-in-Empty : goal.statement-returns-in-Empty
statement-returns-in-Empty t c = grind (arith, statement_views, typed_views)

pub statement-returns-in-Return : goal.statement-returns-in-Return
statement-returns-in-Return t c = grind (arith, statement_views, typed_views)

pub statement-returns-in_err-body-in-DoWhile : goal.statement-returns-in_err-body-in-DoWhile
statement-returns-in_err-body-in-DoWhile t c = grind (arith, statement_views, typed_views)

pub statement-returns-in_err-body-in-None : goal.statement-returns-in_err-body-in-None
statement-returns-in_err-body-in-None t c = grind (arith, statement_views, typed_views)

pub statement-returns-in_err-body-in-Some : goal.statement-returns-in_err-body-in-Some
statement-returns-in_err-body-in-Some t c = grind (arith, statement_views, typed_views)

pub statement-returns-in_err-body-in-While : goal.statement-returns-in_err-body-in-While
statement-returns-in_err-body-in-While t c = grind (arith, statement_views, typed_views)

pub statement-returns-in_err-break_from-in-Break : goal.statement-returns-in_err-break_from-in-Break
statement-returns-in_err-break_from-in-Break t c = grind (arith, statement_views, typed_views)

pub statement-returns-in_err-continue_from-in-Continue : goal.statement-returns-in_err-continue_from-in-Continue
statement-returns-in_err-continue_from-in-Continue t c = grind (arith, statement_views, typed_views)

pub statement-returns-in_err-do_loop-in-DoWhile : goal.statement-returns-in_err-do_loop-in-DoWhile
statement-returns-in_err-do_loop-in-DoWhile t c = grind (arith, statement_views, typed_views)

pub statement-returns-in_err-if_else-in-Some : goal.statement-returns-in_err-if_else-in-Some
statement-returns-in_err-if_else-in-Some t c = grind (arith, statement_views, typed_views)

pub statement-returns-in_err-if_then-in-None : goal.statement-returns-in_err-if_then-in-None
statement-returns-in_err-if_then-in-None t c = grind (arith, statement_views, typed_views)

pub statement-returns-in_err-inner-in-Block : goal.statement-returns-in_err-inner-in-Block
statement-returns-in_err-inner-in-Block t c = grind (arith, statement_views, typed_views)

pub statement-returns-in_err-open-in-Block : goal.statement-returns-in_err-open-in-Block
statement-returns-in_err-open-in-Block t c = grind (arith, statement_views, typed_views)

pub statement-returns-in_err-open-in-For : goal.statement-returns-in_err-open-in-For
statement-returns-in_err-open-in-For t c = grind (arith, statement_views, typed_views)

pub statement-returns-in_err-other-in-Some : goal.statement-returns-in_err-other-in-Some
statement-returns-in_err-other-in-Some t c = grind (arith, statement_views, typed_views)

pub statement-returns-in_err-value-in-DoWhile : goal.statement-returns-in_err-value-in-DoWhile
statement-returns-in_err-value-in-DoWhile t c = grind (arith, statement_views, typed_views)

pub statement-returns-in_err-value-in-Expression : goal.statement-returns-in_err-value-in-Expression
statement-returns-in_err-value-in-Expression t c = grind (arith, statement_views, typed_views)

pub statement-returns-in_err-value-in-None : goal.statement-returns-in_err-value-in-None
statement-returns-in_err-value-in-None t c = grind (arith, statement_views, typed_views)

pub statement-returns-in_err-value-in-Some : goal.statement-returns-in_err-value-in-Some
statement-returns-in_err-value-in-Some t c = grind (arith, statement_views, typed_views)

pub statement-returns-in_err-value-in-While : goal.statement-returns-in_err-value-in-While
statement-returns-in_err-value-in-While t c = grind (arith, statement_views, typed_views)

pub statement-returns-in_err-while_loop-in-While : goal.statement-returns-in_err-while_loop-in-While
statement-returns-in_err-while_loop-in-While t c = grind (arith, statement_views, typed_views)

pub statement-returns-in_err-with_head-in-For : goal.statement-returns-in_err-with_head-in-For
statement-returns-in_err-with_head-in-For t c = grind (arith, statement_views, typed_views)

pub statement-returns-in_ok-break_from-in-Break : goal.statement-returns-in_ok-break_from-in-Break
statement-returns-in_ok-break_from-in-Break t c = grind (arith, statement_views, typed_views)

pub statement-returns-in_ok-continue_from-in-Continue : goal.statement-returns-in_ok-continue_from-in-Continue
statement-returns-in_ok-continue_from-in-Continue t c = grind (arith, statement_views, typed_views)

pub statement-returns-in_ok-do_loop-in-DoWhile : goal.statement-returns-in_ok-do_loop-in-DoWhile
statement-returns-in_ok-do_loop-in-DoWhile t c = grind (arith, statement_views, typed_views)

pub statement-returns-in_ok-if_else-in-Some : goal.statement-returns-in_ok-if_else-in-Some
statement-returns-in_ok-if_else-in-Some t c = grind (arith, statement_views, typed_views)

pub statement-returns-in_ok-if_then-in-None : goal.statement-returns-in_ok-if_then-in-None
statement-returns-in_ok-if_then-in-None t c = grind (arith, statement_views, typed_views)

pub statement-returns-in_ok-inner-in-Block : goal.statement-returns-in_ok-inner-in-Block
statement-returns-in_ok-inner-in-Block t c = grind (arith, statement_views, typed_views)

pub statement-returns-in_ok-value-in-Expression : goal.statement-returns-in_ok-value-in-Expression
statement-returns-in_ok-value-in-Expression t c = grind (arith, statement_views, typed_views)

pub statement-returns-in_ok-while_loop-in-While : goal.statement-returns-in_ok-while_loop-in-While
statement-returns-in_ok-while_loop-in-While t c = grind (arith, statement_views, typed_views)

pub statement-returns-in_ok-with_head-in-For : goal.statement-returns-in_ok-with_head-in-For
statement-returns-in_ok-with_head-in-For t c = grind (arith, statement_views, typed_views)
