use Rattle.injection.proofs.Spans.{spans}
use Rattle.injection.proofs.laws.spans_lie_in_objects.Goals as goal

pub returns : goal.returns
returns c = spans
