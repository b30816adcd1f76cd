use Rattle.std.proofs.Common.{ap}
use Rattle.baggy_tool.specs.Endings.{parse_line}
use Rattle.baggy_tool.proofs.Noting.{noted_same}
use Rattle.baggy_tool.proofs.refusals.note_parse_error.Goals as goal

pub returns-in-Syntax-clause-noted : goal.returns-in-Syntax-clause-noted
returns-in-Syntax-clause-noted g c = noted_same _ _ _ _ _ (ap parse_line c.in-Syntax.is) c.put_two.ensures.noted

pub returns-in-TooDeep-clause-noted : goal.returns-in-TooDeep-clause-noted
returns-in-TooDeep-clause-noted g c = noted_same _ _ _ _ _ (ap parse_line c.in-TooDeep.is) c.put_two-in-TooDeep.ensures.noted
