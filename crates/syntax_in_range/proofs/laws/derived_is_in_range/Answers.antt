use Rattle.syntax_in_range.proofs.Derived.{derived}
use Rattle.syntax_in_range.proofs.laws.derived_is_in_range.Goals as goal

pub returns : goal.returns
returns c = derived
