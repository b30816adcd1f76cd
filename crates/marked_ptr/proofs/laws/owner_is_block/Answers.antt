use Rattle.marked_ptr.proofs.Pointers as words
use Rattle.marked_ptr.proofs.laws.owner_is_block.Goals as goal

pub returns : goal.returns
returns c = words.owner_is_block
