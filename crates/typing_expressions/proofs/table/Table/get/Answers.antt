use Rattle.std.proofs.Common.{sym, ◌∙◌}
use Rattle.typing_expressions.proofs.Tables.{found_view}
use Rattle.typing_expressions.proofs.table.Table.get.Goals as goal

pub returns : goal.returns
returns g c = rw (← c.self.view_is) (c.get.ensures.value ∙ sym (found_view (λ k. k.items) c.args.name.now c.self.inside.names.entries))
