use Rattle.std.proofs.Common.{ap, sym, ◌∙◌}
use Rattle.typing_operators.specs.declared.error.TypeError.TheVariants.{Unknown, Twice, BadType}
use Rattle.baggy_tool.specs.Endings.{typing_line}
use Rattle.baggy_tool.proofs.Noting.{noted_same}
use Rattle.baggy_tool.proofs.refusals.note_type_error.Goals as goal

pub returns-in-Unknown-clause-noted : goal.returns-in-Unknown-clause-noted
returns-in-Unknown-clause-noted g c = noted_same _ _ _ _ _ (ap typing_line (c.in-Unknown.is ∙ ap (λ x. Unknown c.in-Unknown.line x) (sym c.as_slice-name.ensures))) c.put_named.ensures.noted

pub returns-in-Twice-clause-noted : goal.returns-in-Twice-clause-noted
returns-in-Twice-clause-noted g c = noted_same _ _ _ _ _ (ap typing_line (c.in-Twice.is ∙ ap (λ x. Twice c.in-Twice.line x) (sym c.as_slice-name-in-Twice.ensures))) c.put_named-in-Twice.ensures.noted

pub returns-in-BadType-clause-noted : goal.returns-in-BadType-clause-noted
returns-in-BadType-clause-noted g c = noted_same _ _ _ _ _ (ap typing_line (c.in-BadType.is ∙ ap (λ r. BadType c.in-BadType.line r) (sym c.from.ensures))) c.put_at_line.ensures.noted

pub returns-in-NoMain-clause-noted : goal.returns-in-NoMain-clause-noted
returns-in-NoMain-clause-noted g c = noted_same _ _ _ _ _ (ap typing_line c.in-NoMain.is) c.put.ensures.noted

pub returns-in-TooLarge-clause-noted : goal.returns-in-TooLarge-clause-noted
returns-in-TooLarge-clause-noted g c = noted_same _ _ _ _ _ (ap typing_line c.in-TooLarge.is) c.put_at_line-in-TooLarge.ensures.noted

pub returns-in-TooManyParams-clause-noted : goal.returns-in-TooManyParams-clause-noted
returns-in-TooManyParams-clause-noted g c = noted_same _ _ _ _ _ (ap typing_line c.in-TooManyParams.is) c.put_numbered.ensures.noted

pub returns-in-TooManyFunctions-clause-noted : goal.returns-in-TooManyFunctions-clause-noted
returns-in-TooManyFunctions-clause-noted g c = noted_same _ _ _ _ _ (ap typing_line c.in-TooManyFunctions.is) c.put_numbered-in-TooManyFunctions.ensures.noted
