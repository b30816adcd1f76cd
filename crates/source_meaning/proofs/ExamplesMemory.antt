-- What the definition gives for the examples, evaluated by the check.
use Rattle.std.proofs.Common.{refl}
use Rattle.bb_words.specs.Answers.{and_then}
use Rattle.size_table.specs.Pads.{exponent_of}
use Rattle.block_layout.specs.Layout.{layout}
use Rattle.source_meaning.specs.ExamplesMemory.{LittleEndian, Globals, MarkedBeforeMisaligned, MarkedAtThePadding, MisalignedBeforePadding, Padding, PointersInPieces, PartsOutOfOrder, Forged, PartsAreNoNumbers, DeadMayBeKept, DeadIsNotCompared, DeadIsNotTested, DeadBeforeAcross, Apart, Across, Difference}

pub little_endian : LittleEndian
unfolding and_then layout exponent_of
little_endian = refl

pub globals : Globals
unfolding and_then layout exponent_of
globals = refl

pub marked_before_misaligned : MarkedBeforeMisaligned
unfolding and_then layout exponent_of
marked_before_misaligned = refl

pub marked_at_the_padding : MarkedAtThePadding
unfolding and_then layout exponent_of
marked_at_the_padding = refl

pub misaligned_before_padding : MisalignedBeforePadding
unfolding and_then layout exponent_of
misaligned_before_padding = refl

pub padding : Padding
unfolding and_then layout exponent_of
padding = refl

pub pointers_in_pieces : PointersInPieces
unfolding and_then layout exponent_of
pointers_in_pieces = refl

pub parts_out_of_order : PartsOutOfOrder
unfolding and_then layout exponent_of
parts_out_of_order = refl

pub forged : Forged
unfolding and_then layout exponent_of
forged = refl

pub parts_are_no_numbers : PartsAreNoNumbers
unfolding and_then layout exponent_of
parts_are_no_numbers = refl

pub dead_may_be_kept : DeadMayBeKept
unfolding and_then layout exponent_of
dead_may_be_kept = refl

pub dead_is_not_compared : DeadIsNotCompared
unfolding and_then layout exponent_of
dead_is_not_compared = refl

pub dead_is_not_tested : DeadIsNotTested
unfolding and_then layout exponent_of
dead_is_not_tested = refl

pub dead_before_across : DeadBeforeAcross
unfolding and_then layout exponent_of
dead_before_across = refl

pub apart : Apart
unfolding and_then layout exponent_of
apart = refl

pub across : Across
unfolding and_then layout exponent_of
across = refl

pub difference : Difference
unfolding and_then layout exponent_of
difference = refl
