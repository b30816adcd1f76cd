use Rattle.std.proofs.Common.{sym, ◌∙◌}
use Rattle.flat_code.specs.CodeViews.{steps_of}
use Rattle.flat_code.specs.Recognized.{Sequence}
use Rattle.flat_code.proofs.Picked.{not_apart}
use Rattle.flat_code.proofs.recognize.begins_with_span.Goals as goal

pub returns-then-not-span_differs : goal.returns-then-not-span_differs
returns-then-not-span_differs c = not_apart c.args.g (Sequence.Span c.args.v.pointer c.args.v.count c.args.v.last c.args.v.line c.args.v.distance c.args.v.slot c.args.v.exponent) (steps_of c.args.steps.now) (sym c.span_differs.ensures ∙ c.if-not-span_differs.true)
