use Rattle.std.proofs.Common.{◌≡◌, ◌+◌, ◌-◌, ◌≤◌, length, arith}
use Rattle.std.proofs.lemmas.Result.{err_from_is_err_and}
use Rattle.rv_image.specs.Reading.{frames_from}
use Rattle.rv_image.proofs.Loops.{frames_go_on, frames_end, frames_are_read}
use Rattle.rv_image.proofs.reading.frames_behind.Goals as goal

pub returns-in_err-frame-clause-value : goal.returns-in_err-frame-clause-value
returns-in_err-frame-clause-value c =
    let p = err_from_is_err_and c.from_residual.result c.from_residual.ensures.1 in
    rw (p.1, p.2) (frames_end c.in_err-frame.field-0.0 c.args.bytes.now c.loop.list c.args.count c.loop.counter c.loop.at c.loop.left (frames_from c.args.bytes.now c.args.count c.args.start 8192) c.loop-test.true c.in_err-frame.ensures.value c.loop.invariant.reads)

pub loop-preserved : goal.loop-preserved
loop-preserved c =
    let l = c.loop in
    let frame = c.in_ok-frame.frame in
    let place : l.at + (4 + c.len.result) ≡ l.at + 4 + length frame = omega (arith, c.len.ensures) in
    let fewer : l.left - c.len-in-loop.result ≡ l.left - length frame = omega (arith, c.len-in-loop.ensures) in
    let few : length frame ≤ l.left = c.in_ok-frame.ensures.few in
    rw c.in_ok-push.ensures.ok (record {
      reads = frames_go_on c.args.bytes.now l.list c.args.count l.counter l.at _ l.left _ frame _ c.loop-test.true place fewer c.in_ok-frame.ensures.value l.invariant.reads;
      place = omega (arith, l.invariant.place);
      few = omega (arith, l.invariant.few);
    })

pub returns-clause-value : goal.returns-clause-value
returns-clause-value c = frames_are_read c.args.bytes.now c.loop.list c.args.count c.loop.counter c.loop.at c.loop.left (frames_from c.args.bytes.now c.args.count c.args.start 8192) c.loop-test.false c.loop.invariant.reads
