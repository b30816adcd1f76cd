use Rattle.rv_machine_laws.proofs.ExampleRuns.{example_is_safe}
use Rattle.rv_machine_laws.proofs.examples.example_is_safe.Goals as goal

pub returns : goal.returns
returns c = example_is_safe c.reads_back.ensures (record {
  reads = c.reads_only.ensures;
  marked = c.block_is_marked.ensures;
  adds = c.marking_adds.ensures;
  removes = c.marking_removes.ensures;
  heap = record { place = c.place_is_least.ensures; exponent = c.exponent_is_least.ensures };
})
