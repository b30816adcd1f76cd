use Rattle.std.proofs.lemmas.Result.{err_from_is_err_and}
use Rattle.typed_tree.specs.TypedViews.{program_of}
use Rattle.bb_driver.proofs.Reading.{room_checks, within, limit_checks}
use Rattle.bb_driver.proofs.source.check.Goals as goal

pub returns-in_err-lay_out : goal.returns-in_err-lay_out
returns-in_err-lay_out c =
    let q = err_from_is_err_and c.from_residual-in_err-lay_out.result c.from_residual-in_err-lay_out.ensures.1 in
    rw (q.1, q.2) (room_checks c.args.text.now (program_of c.in_ok-program.program) c.in_err-lay_out.field-0.0 c.in_ok-program.ensures.0 c.in_err-lay_out.ensures)

pub returns-in_err-within_limits : goal.returns-in_err-within_limits
returns-in_err-within_limits c =
    let q = err_from_is_err_and c.from_residual-in_err-within_limits.result c.from_residual-in_err-within_limits.ensures.1 in
    rw (q.1, q.2) (limit_checks c.args.text.now (program_of c.in_ok-program.program) c.in_err-within_limits.field-0.0 c.in_ok-program.ensures.0 c.in_ok-lay_out.ensures.0 c.in_err-within_limits.ensures.limits)

pub returns : goal.returns
returns c =
    let p = program_of c.in_ok-program.program in
    (p, within c.args.text.now p c.in_ok-program.ensures.0 c.in_ok-lay_out.ensures.0 c.in_ok-within_limits.ensures.limits)
