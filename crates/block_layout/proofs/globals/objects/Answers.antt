use Rattle.std.proofs.Common.{◌≡◌, ◌<◌, length, get_or, arith, ap, subst}
use Rattle.block_layout.proofs.Spots.{text_fits, all_there}
use Rattle.block_layout.proofs.globals.objects.Goals as goal

pub overflow_cast-len : goal.overflow_cast-len
overflow_cast-len c =
    let p = c.args.program.now in
    let i = c.loop-text.text-index in
    let t = c.text-item.result in
    let same = c.as_slice-text-items.ensures in
    let fits = text_fits p.globals p.texts c.loop-text.objects.items i t c.requires c.loop-text.invariant (omega (arith, c.loop-text-test.true, ap length same)) (subst (λ ts. t ≡ get_or ts i t) same c.text-item.is) in
    omega (arith, fits, c.len.ensures)

pub overflow_add-len : goal.overflow_add-len
overflow_add-len c =
    let p = c.args.program.now in
    let i = c.loop-text.text-index in
    let t = c.text-item.result in
    let same = c.as_slice-text-items.ensures in
    let fits = text_fits p.globals p.texts c.loop-text.objects.items i t c.requires c.loop-text.invariant (omega (arith, c.loop-text-test.true, ap length same)) (subst (λ ts. t ≡ get_or ts i t) same c.text-item.is) in
    omega (arith, fits, c.len.ensures)

pub returns : goal.returns
returns c =
    let p = c.args.program.now in
    all_there p.globals p.texts c.loop-text.objects.items c.loop-text.text-index c.loop-text.invariant (omega (arith, c.loop-text-test.false, ap length c.as_slice-text-items.ensures))
