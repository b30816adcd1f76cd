use Rattle.syntax_tree.proofs.GrammarRefusals.{not_refused}
use Rattle.syntax_tree.proofs.syntax.grammar.not_refused.Goals as goal

pub returns : goal.returns
returns c = not_refused
