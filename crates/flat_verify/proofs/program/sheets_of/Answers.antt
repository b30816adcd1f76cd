use Rattle.std.proofs.Common.{◌∙◌, ap, refl, map, ◌+◌, ◌*◌}
use Rattle.flat_code.specs.CodeViews.{function_of}
use Rattle.flat_verify.specs.Views.{block_of}
use Rattle.flat_verify.proofs.FirstIn.{none_drawn, one_drawn, all_drawn}
use Rattle.flat_verify.proofs.program.sheets_of.Goals as goal

pub loop-f-init : goal.loop-f-init
loop-f-init c = none_drawn c.args.g (map block_of c.args.globals.now) (map function_of c.args.functions.now) _ c.args.functions.now _ c.in_ok-total.ensures c.new-each.ensures.items

pub loop-f-preserved : goal.loop-f-preserved
loop-f-preserved c =
    one_drawn c.args.g (map block_of c.args.globals.now) (map function_of c.args.functions.now) c.loop-f.total _ c.loop-f.f c.args.functions.now c.loop-f.each.items _ _ c.loop-f-test.true refl
    c.in_ok-sheet.ensures.is c.in_ok-sheet.ensures.base (c.in_ok-total-2.ensures ∙ ap (λ n. c.loop-f.total + n) (c.in_ok-row.ensures ∙ ap (λ n. c.in_ok-sheet.sheet.places * n) c.width.ensures)) c.in_ok-push.ensures.items c.loop-f.invariant

pub returns : goal.returns
returns c =
    let r = all_drawn c.args.g (map block_of c.args.globals.now) (map function_of c.args.functions.now) c.loop-f.total c.loop-f.f c.args.functions.now c.loop-f.each.items refl c.loop-f-test.false c.loop-f.auto.f-end c.loop-f.invariant in
    record { are = r.0; stands = r.1 }
