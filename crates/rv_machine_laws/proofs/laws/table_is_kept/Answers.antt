use Rattle.rv_machine_laws.proofs.SafeRuns.{table_is_kept}
use Rattle.rv_machine_laws.proofs.laws.table_is_kept.Goals as goal

pub returns : goal.returns
returns c = table_is_kept (record {
  reads = c.reads_only.ensures;
  marked = c.block_is_marked.ensures;
  adds = c.marking_adds.ensures;
  removes = c.marking_removes.ensures;
  heap = record { place = c.place_is_least.ensures; exponent = c.exponent_is_least.ensures };
})
