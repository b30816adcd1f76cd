-- Where the objects of the examples lie, evaluated by the check.
use Rattle.std.proofs.Common.{refl}
use Rattle.bb_words.specs.Answers.{and_then}
use Rattle.size_table.specs.Pads.{exponent_of}
use Rattle.block_layout.specs.Layout.{layout}
use Rattle.source_meaning.specs.ExamplesAccounts.{Layout, WideLayout, RoundedFrame, DepthIsReported}

pub objects_lie : Layout
unfolding and_then layout exponent_of
objects_lie = refl

pub wide_layout : WideLayout
unfolding and_then layout exponent_of
wide_layout = refl

pub rounded_frame : RoundedFrame
unfolding and_then layout exponent_of
rounded_frame = refl

pub depth_is_reported : DepthIsReported
unfolding and_then layout exponent_of
depth_is_reported = record { reported = refl; past_the_bound = refl; cut = refl }
