use Rattle.rv_machine_laws.proofs.UsedBlock.{block_is_used}
use Rattle.rv_machine_laws.proofs.examples.block_is_used.Goals as goal

pub returns : goal.returns
returns c = block_is_used c.reads_back.ensures
