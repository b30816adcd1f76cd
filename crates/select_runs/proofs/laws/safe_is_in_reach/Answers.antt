use Rattle.select_scope.proofs.Claimed.{safe_is_in_reach}
use Rattle.select_runs.proofs.laws.safe_is_in_reach.Goals as goal

pub returns : goal.returns
returns c = safe_is_in_reach
