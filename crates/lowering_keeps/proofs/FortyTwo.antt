-- A program whose code is run by the definition.
use Rattle.std.proofs.Common.{refl}
use Rattle.bb_words.specs.Answers.{and_then}
use Rattle.block_layout.specs.Layout.{layout}
use Rattle.lowering_keeps.specs.Laws.{FortyTwoExits}

pub forty_two_exits : FortyTwoExits
unfolding and_then layout
forty_two_exits = refl
