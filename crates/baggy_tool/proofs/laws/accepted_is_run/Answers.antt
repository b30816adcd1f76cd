use Rattle.baggy_tool.proofs.Complete as complete
use Rattle.baggy_tool.proofs.laws.accepted_is_run.Goals as goal

pub returns : goal.returns
returns c = complete.accepted_is_run c.one_answer.ensures
