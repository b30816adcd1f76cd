use Rattle.std.proofs.Common.{ap, sym, ◌∙◌}
use Rattle.flat_code.specs.CodeViews.{steps_of}
use Rattle.flat_code.specs.Recognized.{starts, Sequence}
use Rattle.flat_code.proofs.Picked.{not_apart, if_apart}
use Rattle.flat_code.proofs.recognize.begins_with_load.Goals as goal

pub returns-then-not-load_differs : goal.returns-then-not-load_differs
returns-then-not-load_differs c = not_apart c.args.g (Sequence.Load c.args.v.to c.args.v.at c.args.v.line c.args.v.slot c.args.v.exponent) (steps_of c.args.steps.now) (sym c.load_differs.ensures ∙ c.if-not-load_differs.true)

pub returns : goal.returns
returns c =
    if_apart c.args.g (Sequence.Load c.args.v.to c.args.v.at c.args.v.line c.args.v.slot c.args.v.exponent) (steps_of c.args.steps.now) c.is_start.result (sym c.load_differs.ensures ∙ c.if-not-load_differs.false)
    (c.is_start.ensures ∙ ap (λ l. starts (steps_of l) (steps_of c.args.steps.now)) c.deref.ensures.value ∙ ap (λ x. starts x (steps_of c.args.steps.now)) c.in_ok-sequence.ensures)
