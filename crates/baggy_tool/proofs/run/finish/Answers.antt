use Rattle.baggy_tool.proofs.Answering.{noted_whole}
use Rattle.baggy_tool.proofs.run.finish.Goals as goal

pub returns-in-Ok-clause-noted : goal.returns-in-Ok-clause-noted
returns-in-Ok-clause-noted g c = noted_whole _ _ _ c.requires c.in-Ok.ensures.noted
