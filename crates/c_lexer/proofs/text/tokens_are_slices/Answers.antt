use Rattle.c_lexer.proofs.TextLemmas.{slices_lem}
use Rattle.c_lexer.proofs.text.tokens_are_slices.Goals as goal

pub returns : goal.returns
returns c = slices_lem
