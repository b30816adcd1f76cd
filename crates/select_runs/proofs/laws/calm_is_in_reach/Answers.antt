use Rattle.select_scope.proofs.Calm.{calm_is_in_reach}
use Rattle.select_runs.proofs.laws.calm_is_in_reach.Goals as goal

pub returns : goal.returns
returns c = calm_is_in_reach
