use Rattle.std.proofs.Common.{◌∙◌}
use Rattle.std.proofs.lemmas.Result.{err_from_is_err_and}
use Rattle.baggy_tool.proofs.Noting.{noted_then, cut_first}
use Rattle.baggy_tool.proofs.notes.put_total.Goals as goal

pub returns-in_err-put-clause-noted : goal.returns-in_err-put-clause-noted
returns-in_err-put-clause-noted g c =
    let p = err_from_is_err_and c.from_residual.result c.from_residual.ensures.1 in
    rw (p.1) (cut_first _ _ _ _ c.in_err-put.ensures.noted)

pub returns-clause-noted : goal.returns-clause-noted
returns-clause-noted g c =
    let digits = c.as_bytes.ensures.value ∙ c.format.ensures.text in
    rw (← digits) (noted_then _ _ _ _ _ _ c.in_ok-put.ensures.noted c.put_both.ensures.noted)
