use Rattle.syntax_tree.proofs.GrammarWeaker.{within_is_without}
use Rattle.syntax_tree.proofs.syntax.grammar.within_is_without.Goals as goal

pub returns : goal.returns
returns c = within_is_without
