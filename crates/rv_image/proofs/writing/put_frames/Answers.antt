use Rattle.std.proofs.Common.{length, arith, ap}
use Rattle.rv_image.proofs.Loops.{blocks_of_one}
use Rattle.rv_image.proofs.writing.put_frames.Goals as goal

pub put_counted-requires : goal.put_counted-requires
put_counted-requires c =
    let one = blocks_of_one c.args.frames.now c.loop-frame.frame-index c.frame-item.result c.loop-frame-test.true in
    omega (arith, one, ap length c.frame-item.is, ap length c.as_slice.ensures, c.requires.blocks)
