use Rattle.middle_tests.proofs.Worked.{examples}
use Rattle.middle_tests.proofs.laws.examples_run.Goals as goal

pub returns : goal.returns
returns c = examples
