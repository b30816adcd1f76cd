use Rattle.rv_machine_laws.proofs.UsedFrame.{frame_is_used}
use Rattle.rv_machine_laws.proofs.examples.frame_is_used.Goals as goal

pub returns : goal.returns
returns c = frame_is_used c.reads_back.ensures c.text_stands.ensures
