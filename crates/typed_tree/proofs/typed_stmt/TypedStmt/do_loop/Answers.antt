use Rattle.typed_tree.proofs.TypedViewed.{view-Do}
use Rattle.typed_tree.proofs.typed_stmt.TypedStmt.do_loop.Goals as goal

pub returns : goal.returns
returns c = rw (← c.in_ok-body.ensures.ok) (view-Do c.args.at c.in_ok-body.body c.args.condition)
