use Rattle.injection.proofs.Says.{says_keep}
use Rattle.injection.proofs.laws.says_keep.Goals as goal

pub returns : goal.returns
returns c = says_keep c.tells_append.ensures c.output_appends.ensures c.trail_appends.ensures
