use Rattle.syntax_tree.proofs.GrammarRefusals.{one_refusal}
use Rattle.syntax_tree.proofs.syntax.grammar.one_refusal.Goals as goal

pub returns : goal.returns
returns c = one_refusal
