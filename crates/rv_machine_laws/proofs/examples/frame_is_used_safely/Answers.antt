use Rattle.rv_machine_laws.proofs.UsedFrame.{frame_is_used_safely}
use Rattle.rv_machine_laws.proofs.examples.frame_is_used_safely.Goals as goal

pub returns : goal.returns
returns c = frame_is_used_safely c.reads_back.ensures (record {
  reads = c.reads_only.ensures;
  marked = c.block_is_marked.ensures;
  adds = c.marking_adds.ensures;
  removes = c.marking_removes.ensures;
  heap = record { place = c.place_is_least.ensures; exponent = c.exponent_is_least.ensures };
}) c.text_stands.ensures
