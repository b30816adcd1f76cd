use Rattle.std.proofs.Common.{◌≡◌, ◌+◌, ◌-◌, ◌*◌, ◌%◌, ◌^◌, ◌≤◌, arith, ◌∙◌}
use Rattle.std.proofs.lemmas.Nat.{one_shl}
use Rattle.std.proofs.lemmas.List.{length-append}
use Rattle.std.proofs.lemmas.Result.{err_from_is_err_and}
use Rattle.rv_image.specs.Reading.{exponents_at}
use Rattle.rv_image.proofs.Loops.{exponents_go_on, exponents_end, exponents_are_read, total_size-push}
use Rattle.rv_image.proofs.reading.exponents.Goals as goal

pub returns-in_err-e-clause-value : goal.returns-in_err-e-clause-value
returns-in_err-e-clause-value c =
    let p = err_from_is_err_and c.from_residual.result c.from_residual.ensures.1 in
    rw (p.1, p.2) (exponents_end c.in_err-e.field-0.0 c.args.bytes.now c.loop-i.list c.args.count c.loop-i.i c.args.at c.loop-i.most (c.args.limit - c.loop-i.total) (exponents_at c.args.bytes.now c.args.count c.args.at 20 c.args.limit) c.loop-i-test.true c.in_err-e.ensures.value c.loop-i.invariant.reads)

pub loop-i-preserved : goal.loop-i-preserved
loop-i-preserved c =
    let l = c.loop-i in
    let e = c.in_ok-e.e in
    let low : e ≤ 20 = omega (arith, c.in_ok-e.ensures.fits.0, l.invariant.most_fits) in
    let size : 1 * 2 ^ e % 4294967296 ≡ 2 ^ e = one_shl e 32 (omega arith) in
    let room : c.args.limit - (l.total + 1 * 2 ^ e % 4294967296) ≡ c.args.limit - l.total - 2 ^ e = omega arith in
    rw c.in_ok-push.ensures.ok (record {
      reads = exponents_go_on c.args.bytes.now l.list c.args.count l.i c.args.at l.most (c.args.limit - l.total) _ e _ c.loop-i-test.true room c.in_ok-e.ensures.value l.invariant.reads;
      most_fits = low;
      counted = length-append l.list _ ∙ omega (arith, l.invariant.counted);
      sized = omega (arith, total_size-push l.list e, l.invariant.sized);
      within = omega (arith, l.invariant.within, c.in_ok-e.ensures.fits.1);
    })

pub returns-clause-value : goal.returns-clause-value
returns-clause-value c = exponents_are_read c.args.bytes.now c.loop-i.list c.args.count c.loop-i.i c.args.at c.loop-i.most (c.args.limit - c.loop-i.total) (exponents_at c.args.bytes.now c.args.count c.args.at 20 c.args.limit) c.loop-i-test.false c.loop-i.invariant.reads
