use Rattle.std.proofs.Common.{ap, sym, ◌∙◌}
use Rattle.lowering_counts.specs.declared.error.LowerError.TheVariants.{TooManyValues}
use Rattle.baggy_tool.specs.Endings.{lower_line}
use Rattle.baggy_tool.proofs.Noting.{noted_same}
use Rattle.baggy_tool.proofs.refusals.note_lower_error.Goals as goal

pub returns-in-TooManyNodes-clause-noted : goal.returns-in-TooManyNodes-clause-noted
returns-in-TooManyNodes-clause-noted g c = noted_same _ _ _ _ _ (ap lower_line c.in-TooManyNodes.is) c.put_numbered.ensures.noted

pub returns-in-TooManyValues-clause-noted : goal.returns-in-TooManyValues-clause-noted
returns-in-TooManyValues-clause-noted g c = noted_same _ _ _ _ _ (ap lower_line (c.in-TooManyValues.is ∙ ap (λ x. TooManyValues x c.in-TooManyValues.count) (sym c.as_slice-name.ensures))) c.put_named.ensures.noted
