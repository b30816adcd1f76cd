use Rattle.std.proofs.Common.{◌+◌, sym, ap, ◌∙◌}
use Rattle.std.specs.Prelude.{drop}
use Rattle.flat_code.specs.Code.{◌+++◌}
use Rattle.flat_code.specs.CodeViews.{steps_of}
use Rattle.mid_code.specs.Views as mid
use Rattle.bounds_instr_code.specs.Code as instr
use Rattle.bounds_instr_code.proofs.Emitted.{append_assoc, append_none, next_in, end_in}
use Rattle.bounds_instr_code.proofs.code_steps.+code.Goals as goal

pub code_steps-loop-x-preserved : goal.code_steps-loop-x-preserved
code_steps-loop-x-preserved t c =
    let xs = c.args.xs.now in
    let i = c.loop-x.x-index in
    let rest = instr.code c.args.g c.args.values (mid.steps_of (drop (i + 1) xs)) in
    ap (λ z. z +++ rest) c.in_ok-code_step.ensures
    ∙ append_assoc (steps_of c.loop-x.code.items) (instr.step_code c.args.g c.args.values (mid.step_of c.x-item.result)) rest
    ∙ ap (λ z. steps_of c.loop-x.code.items +++ z) (sym (next_in (λ z. instr.code c.args.g c.args.values (mid.steps_of z)) xs i c.x-item.result c.loop-x-test.true c.x-item.is))
    ∙ c.loop-x.invariant

pub code_steps-returns : goal.code_steps-returns
code_steps-returns t c =
    sym (append_none (steps_of c.loop-x.code.items))
    ∙ ap (λ z. steps_of c.loop-x.code.items +++ z) (sym (end_in (λ z. instr.code c.args.g c.args.values (mid.steps_of z)) c.args.xs.now c.loop-x.x-index c.loop-x-test.false))
    ∙ c.loop-x.invariant
