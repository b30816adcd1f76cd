use Rattle.injection.proofs.Compare.{truth_alike}
use Rattle.injection.proofs.laws.truth_is_of_words.Goals as goal

pub returns : goal.returns
returns c = λ g v w out. truth_alike c.words_are_not_null.ensures g w out v
