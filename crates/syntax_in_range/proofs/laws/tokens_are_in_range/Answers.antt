use Rattle.syntax_in_range.proofs.Lexed.{tokens_in_range}
use Rattle.syntax_in_range.proofs.laws.tokens_are_in_range.Goals as goal

pub returns : goal.returns
returns c = tokens_in_range
