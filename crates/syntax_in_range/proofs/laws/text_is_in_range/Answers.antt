use Rattle.syntax_in_range.proofs.Lexed.{text_in_range}
use Rattle.syntax_in_range.proofs.laws.text_is_in_range.Goals as goal

pub returns : goal.returns
returns c = text_in_range
