use Rattle.typed_tree.proofs.TypedViewed.{view-For}
use Rattle.typed_tree.proofs.typed_stmt.TypedStmt.for_loop.Goals as goal

pub returns : goal.returns
returns c = rw (← c.in_ok-body.ensures.ok) (view-For c.args.at c.args.start c.args.condition c.args.step c.in_ok-body.body)
