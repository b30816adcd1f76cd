use Rattle.headline.proofs.Called.{headline}
use Rattle.headline.proofs.laws.headline.Goals as goal

pub returns : goal.returns
returns c = headline c.one_answer.ensures c.accepted_is_run.ensures
