use Rattle.rv_machine_laws.proofs.TableLaws.{table_follows}
use Rattle.rv_machine_laws.proofs.laws.table_follows.Goals as goal

pub returns : goal.returns
returns c = table_follows (record {
  reads = c.reads_only.ensures;
  marked = c.block_is_marked.ensures;
  adds = c.marking_adds.ensures;
  removes = c.marking_removes.ensures;
  heap = record { place = c.place_is_least.ensures; exponent = c.exponent_is_least.ensures };
})
