use Rattle.std.proofs.lemmas.Result.{err_from_is_err_and}
use Rattle.baggy_tool.proofs.Noting.{noted_then, cut_first}
use Rattle.baggy_tool.proofs.refusals.put_named_total.Goals as goal

pub returns-in_err-put_both-clause-noted : goal.returns-in_err-put_both-clause-noted
returns-in_err-put_both-clause-noted g c =
    let p = err_from_is_err_and c.from_residual.result c.from_residual.ensures.1 in
    rw (p.1) (cut_first _ _ _ _ c.in_err-put_both.ensures.noted)

pub returns-clause-noted : goal.returns-clause-noted
returns-clause-noted g c = noted_then _ _ _ _ _ _ c.in_ok-put_both.ensures.noted c.put_total.ensures.noted
