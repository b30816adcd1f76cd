use Rattle.injection.proofs.Compare.{compares_alike}
use Rattle.injection.proofs.laws.comparisons_are_of_words.Goals as goal

pub returns : goal.returns
returns c = λ g v x w out. compares_alike (record { apart = c.words_are_apart.ensures; offsets = c.words_are_offsets.ensures; not_null = c.words_are_not_null.ensures; order = c.order_is_offsets.ensures; difference = c.difference_is_offsets.ensures }) g w out v x
