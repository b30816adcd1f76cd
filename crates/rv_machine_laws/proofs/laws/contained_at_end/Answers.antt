use Rattle.rv_machine_laws.proofs.SafeRuns.{contained_at_end}
use Rattle.rv_machine_laws.proofs.laws.contained_at_end.Goals as goal

pub returns : goal.returns
returns c = contained_at_end (record {
  reads = c.reads_only.ensures;
  marked = c.block_is_marked.ensures;
  adds = c.marking_adds.ensures;
  removes = c.marking_removes.ensures;
  heap = record { place = c.place_is_least.ensures; exponent = c.exponent_is_least.ensures };
})
