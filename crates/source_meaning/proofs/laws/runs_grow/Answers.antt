use Rattle.source_meaning.proofs.MoreTurns.{expressions_grow, statements_grow, programs_grow, runs_grow}
use Rattle.source_meaning.proofs.laws.runs_grow.Goals as goal

pub returns : goal.returns
returns c = record {
  expressions = expressions_grow;
  statements = statements_grow;
  calls = programs_grow;
  runs = runs_grow;
}
