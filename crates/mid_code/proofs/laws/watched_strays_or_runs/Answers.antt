use Rattle.mid_code.proofs.Watched as watched
use Rattle.mid_code.proofs.laws.watched_strays_or_runs.Goals as goal

pub returns : goal.returns
returns c = watched.watched_strays_or_runs
