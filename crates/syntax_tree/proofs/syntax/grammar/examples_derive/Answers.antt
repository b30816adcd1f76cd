use Rattle.syntax_tree.proofs.GrammarExamples.{expressions_derive, statements_derive, units_derive, nothing_derives, heights_are}
use Rattle.syntax_tree.proofs.syntax.grammar.examples_derive.Goals as goal

pub returns : goal.returns
returns c = record {
  expressions = expressions_derive;
  statements = statements_derive;
  units = units_derive;
  nothing = nothing_derives;
  heights = heights_are;
}
