use Rattle.std.proofs.Common.{sym, ◌∙◌}
use Rattle.flat_code.specs.CodeViews.{steps_of}
use Rattle.flat_code.specs.Recognized.{Sequence}
use Rattle.flat_code.proofs.Picked.{first_found, second_found, third_found, none_found}
use Rattle.flat_code.proofs.recognize.sequence_at.Goals as goal

pub returns-then-branch : goal.returns-then-branch
returns-then-branch c =
    first_found c.args.g (steps_of c.args.steps.now)
    (let v = c.move_values-moving.result in Sequence.Move v.pointer v.distance v.result v.line v.slot v.exponent) c.move_values-moving.ensures (sym c.in_ok-begins_with_move.ensures ∙ c.if-branch.true)

pub returns-then-branch-2 : goal.returns-then-branch-2
returns-then-branch-2 c =
    second_found c.args.g (steps_of c.args.steps.now)
    (let v = c.move_values-moving.result in Sequence.Move v.pointer v.distance v.result v.line v.slot v.exponent)
    (let v = c.load_values-loading.result in Sequence.Load v.to v.at v.line v.slot v.exponent) c.move_values-moving.ensures (sym c.in_ok-begins_with_move.ensures ∙ c.if-branch.false)
    c.load_values-loading.ensures (sym c.in_ok-begins_with_load.ensures ∙ c.if-branch-2.true)

pub returns-then-branch-3 : goal.returns-then-branch-3
returns-then-branch-3 c =
    third_found c.args.g (steps_of c.args.steps.now)
    (let v = c.move_values-moving.result in Sequence.Move v.pointer v.distance v.result v.line v.slot v.exponent)
    (let v = c.load_values-loading.result in Sequence.Load v.to v.at v.line v.slot v.exponent)
    (let v = c.span_values-spanning.result in Sequence.Span v.pointer v.count v.last v.line v.distance v.slot v.exponent) c.move_values-moving.ensures (sym c.in_ok-begins_with_move.ensures ∙ c.if-branch.false)
    c.load_values-loading.ensures (sym c.in_ok-begins_with_load.ensures ∙ c.if-branch-2.false)
    c.span_values-spanning.ensures (sym c.in_ok-begins_with_span.ensures ∙ c.if-branch-3.true)

pub returns : goal.returns
returns c =
    none_found c.args.g (steps_of c.args.steps.now)
    (let v = c.move_values-moving.result in Sequence.Move v.pointer v.distance v.result v.line v.slot v.exponent)
    (let v = c.load_values-loading.result in Sequence.Load v.to v.at v.line v.slot v.exponent)
    (let v = c.span_values-spanning.result in Sequence.Span v.pointer v.count v.last v.line v.distance v.slot v.exponent) c.move_values-moving.ensures (sym c.in_ok-begins_with_move.ensures ∙ c.if-branch.false)
    c.load_values-loading.ensures (sym c.in_ok-begins_with_load.ensures ∙ c.if-branch-2.false)
    c.span_values-spanning.ensures (sym c.in_ok-begins_with_span.ensures ∙ c.if-branch-3.false)
