use Rattle.block_layout.proofs.Loops.{small_at}
use Rattle.block_layout.proofs.object.put_class.Goals as goal

pub exponent-requires : goal.exponent-requires
exponent-requires c = small_at c.args.objects.now c.loop-object.object-index _ c.requires c.loop-object-test.true
