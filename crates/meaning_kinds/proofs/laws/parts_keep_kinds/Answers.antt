use Rattle.meaning_kinds.proofs.Calls.{programs_keep_kinds, expressions_keep_kinds, statements_keep_kinds, declarations_keep_kinds, starts_keep_kinds, bodies_refer_to_blocks}
use Rattle.meaning_kinds.proofs.laws.parts_keep_kinds.Goals as goal

pub returns : goal.returns
returns c = record {
  calls = programs_keep_kinds c.aggregates_have_objects.ensures;
  expressions = expressions_keep_kinds c.aggregates_have_objects.ensures;
  statements = statements_keep_kinds c.aggregates_have_objects.ensures;
  declarations = declarations_keep_kinds c.aggregates_have_objects.ensures;
  starts = starts_keep_kinds c.aggregates_have_objects.ensures;
  bodies = bodies_refer_to_blocks c.aggregates_have_objects.ensures;
}
