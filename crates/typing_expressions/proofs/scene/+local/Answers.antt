use Rattle.typing_expressions.specs.Scene.{local_of}
use Rattle.typing_expressions.proofs.Tables.{get_seen, outermost}
use Rattle.typing_expressions.proofs.scene.+local.Goals as goal

pub returns-in-None : goal.returns-in-None
returns-in-None t c =
    outermost c.args.scopes.now c.outer-item.result c.args.name.now _ c.in-len1-up.len_at_least c.outer-item.is c.in-None.ensures
    (get_seen local_of c.args.name.now c.outer-item.result c.get.result c.get.ensures)
