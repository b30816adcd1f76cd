use Rattle.std.proofs.Common.{◌∙◌}
use Rattle.baggy_tool.proofs.refusals.put_at_line.Goals as goal

pub returns-clause-noted : goal.returns-clause-noted
returns-clause-noted g c =
    let digits = c.as_bytes-number.ensures.value ∙ c.format.ensures.text in
    rw (← digits) c.put_named.ensures.noted
