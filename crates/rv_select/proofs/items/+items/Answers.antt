use Rattle.std.proofs.Common.{◌≡◌, sym, ap, ◌∙◌, refl, arith}
use Rattle.flat_code.specs.Code.{FStep}
use Rattle.flat_code.specs.CodeViews.{step_of, steps_of}
use Rattle.flat_code.specs.Recognized.{sequence_at}
use Rattle.flat_code.specs.SequenceViews.{sequence_of, sequence_in}
use Rattle.flat_code.proofs.CodeViewed.{view-If, view-Block, view-Loop, view-Inner}
use Rattle.rv_select.proofs.Emitted.{ends_as, choice_made, block_made, loop_made, inner_made, skip_in, checked_in, plain_in, parts_end, labels_end, whole_rest}
use Rattle.rv_select.proofs.items.+items.Goals as goal

pub put_item-returns-in_ok-put_choice-in-If-clause-parts : goal.put_item-returns-in_ok-put_choice-in-If-clause-parts
put_item-returns-in_ok-put_choice-in-If-clause-parts t c =
    let a = c.as_slice-yes in
    let b = c.as_slice-no in
    let is = ap step_of c.in-If.is ∙ view-If c.in-If.cond c.in-If.yes c.in-If.no
    ∙ ap (λ z. FStep.If c.in-If.cond (steps_of z) (steps_of c.in-If.no.items)) (sym a.ensures.value)
    ∙ ap (λ z. FStep.If c.in-If.cond (steps_of a.result.now) (steps_of z)) (sym b.ensures.value) in
    choice_made c.args.in_function.now.exponent c.args.in_function.now.back c.args.known c.args.exits.now c.args.label _ _ _ c.in-If.cond (steps_of a.result.now) (steps_of b.result.now) (step_of c.args.step.now)
    _ _ _ _ _ _ _ c.deref.result.now c.deref-in-If.result.now is c.in_ok-end-in-If.ensures c.in_ok-inside-in-If.ensures c.in_ok-put_fetch-in-If.ensures
    c.new-first.ensures.items (c.deref.ensures.value ∙ c.in_ok-middle-in-If.ensures.parts) c.in_ok-middle-in-If.ensures.next
    c.new-second.ensures.items (c.deref-in-If.ensures.value ∙ c.in_ok-next-in-If.ensures.parts)
    (c.is_empty.ensures ∙ sym (ends_as c.args.in_function.now.exponent a.result.now)) (c.is_empty-in-If.ensures ∙ sym (ends_as c.args.in_function.now.exponent b.result.now)) c.in_ok-put_choice-in-If.ensures

pub put_item-returns-in_ok-put_label-in-Block-clause-parts : goal.put_item-returns-in_ok-put_label-in-Block-clause-parts
put_item-returns-in_ok-put_label-in-Block-clause-parts t c =
    let a = c.deref-in-Block in
    let b = c.deref-in-Block-2 in
    let is = ap step_of c.in-Block.is ∙ view-Block c.in-Block.body ∙ ap (λ z. FStep.Block (steps_of z)) (sym b.ensures.value) in
    block_made c.args.in_function.now.exponent c.args.in_function.now.back c.args.known c.args.exits.now a.result.now c.args.label _ (steps_of b.result.now) (step_of c.args.step.now) _ _ _
    is c.in_ok-inside-in-Block.ensures (a.ensures.value ∙ c.in_ok-around-in-Block.ensures) c.in_ok-next-in-Block.ensures.parts c.in_ok-put_label-in-Block.ensures

pub put_item-returns-in_ok-put_back-in-Loop-clause-parts : goal.put_item-returns-in_ok-put_back-in-Loop-clause-parts
put_item-returns-in_ok-put_back-in-Loop-clause-parts t c =
    let a = c.deref-in-Loop in
    let b = c.deref-in-Loop-2 in
    let is = ap step_of c.in-Loop.is ∙ view-Loop c.in-Loop.body ∙ ap (λ z. FStep.Loop (steps_of z)) (sym b.ensures.value) in
    loop_made c.args.in_function.now.exponent c.args.in_function.now.back c.args.known c.args.exits.now a.result.now c.args.label _ _ (steps_of b.result.now) (step_of c.args.step.now) _ _ _ _
    is c.in_ok-end-in-Loop.ensures c.in_ok-inside-in-Loop.ensures (a.ensures.value ∙ c.in_ok-around-in-Loop.ensures) c.in_ok-put_label-in-Loop.ensures c.in_ok-next-in-Loop.ensures.parts c.in_ok-put_back-in-Loop.ensures

pub put_item-returns-in_ok-put_back-in-Inner-clause-parts : goal.put_item-returns-in_ok-put_back-in-Inner-clause-parts
put_item-returns-in_ok-put_back-in-Inner-clause-parts t c =
    let a = c.deref-in-Inner in
    let b = c.deref-in-Inner-2 in
    let is = ap step_of c.in-Inner.is ∙ view-Inner c.in-Inner.body ∙ ap (λ z. FStep.Inner (steps_of z)) (sym b.ensures.value) in
    inner_made c.args.in_function.now.exponent c.args.in_function.now.back c.args.known c.args.exits.now a.result.now c.args.label _ _ (steps_of b.result.now) (step_of c.args.step.now) _ _ _ _
    is c.in_ok-end-in-Inner.ensures c.in_ok-inside-in-Inner.ensures (a.ensures.value ∙ c.in_ok-around-in-Inner.ensures) c.in_ok-put_label-in-Inner.ensures c.in_ok-next-in-Inner.ensures.parts c.in_ok-put_back-in-Inner.ensures

pub put_items-loop-i-init : goal.put_items-loop-i-init
put_items-loop-i-init t c = record { parts_left = refl; labels_left = refl }

pub put_items-loop-i-preserved-then-skip-gt0 : goal.put_items-loop-i-preserved-then-skip-gt0
put_items-loop-i-preserved-then-skip-gt0 t c =
    skip_in c.args.in_function.now.exponent c.args.in_function.now.back c.loop-i.held c.args.exits.now c.loop-i.next c.loop-i.skip c.args.steps.now c.loop-i.i c.index-steps-i.result _ _ _
    c.loop-i-test.true c.index-steps-i.is c.if-skip-gt0.true c.loop-i.invariant

pub put_items-loop-i-preserved-in-Some : goal.put_items-loop-i-preserved-in-Some
put_items-loop-i-preserved-in-Some t c =
    let zero : c.loop-i.skip ≡ 0 = omega (arith, c.if-skip-gt0.false) in
    checked_in c.args.in_function.now.exponent c.args.in_function.now.back c.loop-i.held c.args.exits.now c.loop-i.next _ c.loop-i.skip _ c.args.steps.now c.loop-i.i c.index-steps-i.result (sequence_of c.in-Some.sequence) _ _ _ _
    c.loop-i-test.true c.index-steps-i.is zero (ap (λ z. sequence_at c.args.in_function.now.exponent (steps_of z)) (sym (whole_rest c.args.steps.now c.loop-i.i)) ∙ sym c.in_ok-sequence.ensures ∙ ap sequence_in c.in-Some.is) c.in_ok-put_sequence.ensures c.in_ok-next.ensures c.further_steps-skip.ensures c.loop-i.invariant

pub put_items-loop-i-preserved : goal.put_items-loop-i-preserved
put_items-loop-i-preserved t c =
    let zero : c.loop-i.skip ≡ 0 = omega (arith, c.if-skip-gt0.false) in
    plain_in c.args.in_function.now.exponent c.args.in_function.now.back c.loop-i.held c.held_after-held.result c.args.exits.now c.loop-i.next _ c.loop-i.skip c.args.steps.now c.loop-i.i c.index-steps-i.result _ _ _ _
    c.loop-i-test.true c.index-steps-i.is zero (ap (λ z. sequence_at c.args.in_function.now.exponent (steps_of z)) (sym (whole_rest c.args.steps.now c.loop-i.i)) ∙ sym c.in_ok-sequence.ensures ∙ ap sequence_in c.in_default.is) c.in_ok-next-2.ensures.parts c.in_ok-next-2.ensures.next c.held_after-held.ensures c.loop-i.invariant

pub put_items-returns-clause-parts : goal.put_items-returns-clause-parts
put_items-returns-clause-parts t c = parts_end c.args.in_function.now.exponent c.args.in_function.now.back c.loop-i.held c.args.exits.now c.loop-i.next c.loop-i.skip c.args.steps.now c.loop-i.i _ _ _ c.loop-i-test.false c.loop-i.invariant

pub put_items-returns-clause-next : goal.put_items-returns-clause-next
put_items-returns-clause-next t c = labels_end c.args.in_function.now.exponent c.args.in_function.now.back c.loop-i.held c.args.exits.now c.loop-i.next c.loop-i.skip c.args.steps.now c.loop-i.i _ _ _ c.loop-i-test.false c.loop-i.invariant
