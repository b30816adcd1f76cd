use Rattle.std.proofs.Common.{◌≡◌, ◌-◌, ap, sym, ◌∙◌, arith}
use Rattle.std.specs.Prelude.{Some, None}
use Rattle.flat_code.specs.SequenceViews.{sequence_of, sequence_in}
use Rattle.flat_verify.specs.declared.items.FlatItem.TheVariants.{Checks}
use Rattle.flat_verify.proofs.ItemViewed.{view-Checks}
use Rattle.flat_verify.proofs.ItemWalk.{skip_read, one_read, all_read}
use Rattle.flat_verify.proofs.items.+read.Goals as goal

pub items_of-loop-i-preserved-then-skip-gt0 : goal.items_of-loop-i-preserved-then-skip-gt0
items_of-loop-i-preserved-then-skip-gt0 t c =
    skip_read c.args.g c.loop-i.skip c.args.steps.now c.loop-i.i c.index-steps-i.result c.loop-i.items.items c.loop-i-test.true c.index-steps-i.is c.if-skip-gt0.true c.loop-i.invariant

pub items_of-loop-i-preserved-in-Some : goal.items_of-loop-i-preserved-in-Some
items_of-loop-i-preserved-in-Some t c =
    let none_left : c.loop-i.skip ≡ 0 = omega (arith, c.if-skip-gt0.false) in
    one_read c.args.g c.loop-i.skip _ c.args.steps.now c.loop-i.i c.index-steps-i.result (Some (sequence_of c.in-Some.sequence)) c.loop-i.items.items _ (Checks c.in-Some.sequence) c.loop-i-test.true c.index-steps-i.is none_left
    (sym c.in_ok-sequence.ensures ∙ ap sequence_in c.in-Some.is) (ap (λ n. n - 1) (c.size_of_sequence-count.ensures.steps c.args.g)) (view-Checks c.in-Some.sequence) c.in_ok-push.ensures.items c.loop-i.invariant

pub items_of-loop-i-preserved : goal.items_of-loop-i-preserved
items_of-loop-i-preserved t c =
    let none_left : c.loop-i.skip ≡ 0 = omega (arith, c.if-skip-gt0.false) in
    one_read c.args.g c.loop-i.skip c.loop-i.skip c.args.steps.now c.loop-i.i c.index-steps-i.result None c.loop-i.items.items _ c.in_ok-item.item c.loop-i-test.true c.index-steps-i.is none_left
    (sym c.in_ok-sequence.ensures ∙ ap sequence_in c.in_default.is) none_left c.in_ok-item.ensures c.in_ok-push-2.ensures.items c.loop-i.invariant

pub items_of-returns : goal.items_of-returns
items_of-returns t c = all_read c.args.g c.loop-i.skip c.args.steps.now c.loop-i.i c.loop-i.items.items c.loop-i-test.false c.loop-i.invariant
