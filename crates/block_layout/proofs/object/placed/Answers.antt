use Rattle.block_layout.proofs.Loops.{small_at}
use Rattle.block_layout.proofs.object.placed.Goals as goal

pub exponent-exponent-requires : goal.exponent-exponent-requires
exponent-exponent-requires c = small_at c.args.objects.now c.loop-object.object-index _ c.requires.small c.loop-object-test.true
