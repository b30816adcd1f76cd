use Rattle.rv_asm.proofs.Indexing.{indexes_more}
use Rattle.rv_asm.proofs.labels.index_labels.Goals as goal

pub loop-k-preserved : goal.loop-k-preserved
loop-k-preserved c = indexes_more c.args.parts.now c.loop-k.k _ _ c.loop-k.invariant c.in_ok-index_part.ensures
