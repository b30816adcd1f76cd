use Rattle.std.proofs.Common.{ap}
use Rattle.baggy_tool.specs.Endings.{lex_line}
use Rattle.baggy_tool.proofs.Noting.{noted_same}
use Rattle.baggy_tool.proofs.refusals.note_lex_error.Goals as goal

pub returns-in-TooLong-clause-noted : goal.returns-in-TooLong-clause-noted
returns-in-TooLong-clause-noted g c = noted_same _ _ _ _ _ (ap lex_line c.in-TooLong.is) c.put_numbered.ensures.noted

pub returns-in-BadByte-clause-noted : goal.returns-in-BadByte-clause-noted
returns-in-BadByte-clause-noted g c = noted_same _ _ _ _ _ (ap lex_line c.in-BadByte.is) c.put_numbered-in-BadByte.ensures.noted

pub returns-in-BadNumber-clause-noted : goal.returns-in-BadNumber-clause-noted
returns-in-BadNumber-clause-noted g c = noted_same _ _ _ _ _ (ap lex_line c.in-BadNumber.is) c.put_numbered-in-BadNumber.ensures.noted

pub returns-in-BadEscape-clause-noted : goal.returns-in-BadEscape-clause-noted
returns-in-BadEscape-clause-noted g c = noted_same _ _ _ _ _ (ap lex_line c.in-BadEscape.is) c.put_numbered-in-BadEscape.ensures.noted

pub returns-in-Unclosed-clause-noted : goal.returns-in-Unclosed-clause-noted
returns-in-Unclosed-clause-noted g c = noted_same _ _ _ _ _ (ap lex_line c.in-Unclosed.is) c.put_numbered-in-Unclosed.ensures.noted

pub returns-in-BadDirective-clause-noted : goal.returns-in-BadDirective-clause-noted
returns-in-BadDirective-clause-noted g c = noted_same _ _ _ _ _ (ap lex_line c.in-BadDirective.is) c.put_numbered-in-BadDirective.ensures.noted
