use Rattle.std.specs.Prelude.{All, map, take, slice_get, Some}
use Rattle.std.proofs.Common.{◌≡◌, ◌≤◌, arith, sym, subst}
use Rattle.std.proofs.lemmas.List.{length-map}
use Rattle.std.proofs.lemmas.Result.{err_from_is_err_and}
use Rattle.typed_tree.specs.TypedViews.{function_of, program_of}
use Rattle.block_layout.specs.Layout.{AreSmall}
use Rattle.block_layout.specs.Objects.{block_items}
use Rattle.block_layout.specs.Answers.{frame_bytes, most_frame_bytes}
use Rattle.lowering_counts.proofs.Loops.{all_at, all_more, all_seen, found_at}
use Rattle.bb_driver.proofs.Frames.{globals_refuse, frame_refuses}
use Rattle.bb_driver.proofs.source.lay_out.Goals as goal

pub globals-requires : goal.globals-requires
globals-requires c = (c.typed_has_small_objects.ensures (program_of c.args.program.now) c.requires).globals

pub returns-in_err-layout : goal.returns-in_err-layout
returns-in_err-layout c =
    let q = err_from_is_err_and c.from_residual.result c.from_residual.ensures.1 in
    rw (q.1, q.2) (globals_refuse (program_of c.args.program.now) c.in_err-layout.field-0.0 c.in_err-layout.ensures)

pub frame-requires : goal.frame-requires
frame-requires c =
    let small = (c.typed_has_small_objects.ensures (program_of c.args.program.now) c.requires).frames in
    let items = c.as_slice-function-items in
    all_at (λ f. AreSmall (block_items f)) function_of items.result.now c.loop-function.function-index c.function-item.result
    (subst (λ fs. All (λ f. AreSmall (block_items f)) (map function_of fs)) (sym items.ensures) small)
    c.loop-function-test.true c.function-item.is

pub returns-in_err-frame : goal.returns-in_err-frame
returns-in_err-frame c =
    let p = program_of c.args.program.now in
    let q = err_from_is_err_and c.from_residual-in_err-frame.result c.from_residual-in_err-frame.ensures.1 in
    let items = c.as_slice-function-items in
    let i = c.loop-function.function-index in
    let f = function_of c.function-item.result in
    let found : slice_get p.functions i ≡ Some f =
    subst (λ fs. slice_get (map function_of fs) i ≡ Some f) items.ensures (found_at function_of items.result.now i c.function-item.result c.loop-function-test.true c.function-item.is) in
    let before : All (λ f. frame_bytes f ≤ most_frame_bytes) (take i p.functions) =
    subst (λ fs. All (λ f. frame_bytes f ≤ most_frame_bytes) (take i (map function_of fs))) items.ensures c.loop-function.invariant in
    rw (q.1, q.2) (frame_refuses p i f c.in_err-frame.field-0.0 c.in_ok-layout.ensures.0 found before c.in_err-frame.ensures)

pub loop-function-preserved : goal.loop-function-preserved
loop-function-preserved c =
    all_more (λ f. frame_bytes f ≤ most_frame_bytes) function_of c.as_slice-function-items.result.now c.loop-function.function-index c.function-item.result
    c.loop-function-test.true c.function-item.is c.loop-function.invariant c.in_ok-frame.ensures.0

pub returns : goal.returns
returns c =
    let items = c.as_slice-function-items in
    let i = c.loop-function.function-index in
    let all = all_seen (λ f. frame_bytes f ≤ most_frame_bytes) (map function_of items.result.now) i (omega (arith, length-map items.result.now function_of, c.loop-function-test.false)) c.loop-function.invariant in (
      record { globals = c.in_ok-layout.ensures.0; frames = subst (λ fs. All (λ f. frame_bytes f ≤ most_frame_bytes) (map function_of fs)) items.ensures all },
      c.in_ok-layout.ensures.1,
    )
