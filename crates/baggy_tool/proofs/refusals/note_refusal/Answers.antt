use Rattle.std.proofs.Common.{ap}
use Rattle.baggy_tool.specs.Endings.{refusal_line}
use Rattle.baggy_tool.proofs.Noting.{noted_same}
use Rattle.baggy_tool.proofs.refusals.note_refusal.Goals as goal

pub returns-in-NotBuilt-clause-noted : goal.returns-in-NotBuilt-clause-noted
returns-in-NotBuilt-clause-noted g c = noted_same _ _ _ _ _ (ap refusal_line c.in-NotBuilt.is) c.put.ensures.noted
