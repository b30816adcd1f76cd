use Rattle.marked_ptr.proofs.Pointers as words
use Rattle.marked_ptr.proofs.laws.words_are_apart.Goals as goal

pub returns : goal.returns
returns c = words.words_are_apart
