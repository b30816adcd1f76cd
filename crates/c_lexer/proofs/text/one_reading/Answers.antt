use Rattle.c_lexer.proofs.TextLemmas.{one_reading_lem}
use Rattle.c_lexer.proofs.text.one_reading.Goals as goal

pub returns : goal.returns
returns c = one_reading_lem
