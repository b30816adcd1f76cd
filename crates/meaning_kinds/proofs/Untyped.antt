-- What the programs that are not typed come to, evaluated by the check.
use Rattle.std.proofs.Common.{refl}
use Rattle.bb_words.specs.Answers.{and_then}
use Rattle.size_table.specs.Pads.{exponent_of}
use Rattle.block_layout.specs.Layout.{layout}
use Rattle.meaning_kinds.specs.Examples.{UntypedComeThere}

pub untyped_come_there : UntypedComeThere
unfolding and_then layout exponent_of
untyped_come_there = (refl, refl, refl)
