-- What the definition gives for the examples, evaluated by the check.
use Rattle.std.proofs.Common.{refl}
use Rattle.bb_words.specs.Answers.{and_then}
use Rattle.size_table.specs.Pads.{exponent_of}
use Rattle.block_layout.specs.Layout.{layout}
use Rattle.source_meaning.specs.ExamplesMoves.{WithinReach, PastTheEnd, BelowTheStart, WideSlotsAbove, WideSlotsBelow, Members, WrappedDistance, NullDoesNotMove, SitesOfParts, SitesInOrder}

pub within_reach : WithinReach
unfolding and_then layout exponent_of
within_reach = refl

pub past_the_end : PastTheEnd
unfolding and_then layout exponent_of
past_the_end = refl

pub below_the_start : BelowTheStart
unfolding and_then layout exponent_of
below_the_start = refl

pub wide_slots_above : WideSlotsAbove
unfolding and_then layout exponent_of
wide_slots_above = refl

pub wide_slots_below : WideSlotsBelow
unfolding and_then layout exponent_of
wide_slots_below = refl

pub members : Members
unfolding and_then layout exponent_of
members = refl

pub wrapped_distance : WrappedDistance
unfolding and_then layout exponent_of
wrapped_distance = refl

pub null_does_not_move : NullDoesNotMove
unfolding and_then layout exponent_of
null_does_not_move = refl

pub sites_of_parts : SitesOfParts
unfolding and_then layout exponent_of
sites_of_parts = refl

pub sites_in_order : SitesInOrder
unfolding and_then layout exponent_of
sites_in_order = refl
