use Rattle.typing_expressions.proofs.Tables.{inserted}
use Rattle.typing_expressions.proofs.table.Table.insert.Goals as goal

pub returns : goal.returns
returns g c = rw (c.in_ok-insert.ensures.entries, ← c.self.view_is, ← c.in_ok-key.ensures.items)
    (inserted (λ k. k.items) c.self.inside.names.entries c.in_ok-key.key c.args.value (rw (c.in_ok-key.ensures.items, c.self.view_is) c.requires))
