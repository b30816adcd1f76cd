use Rattle.injection.proofs.Layouts.{frames_alike}
use Rattle.injection.proofs.laws.frames_are_alike.Goals as goal

pub returns : goal.returns
returns c = frames_alike c.layouts_lie_well.ensures
