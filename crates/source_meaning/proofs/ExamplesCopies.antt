-- What the definition gives for the examples, evaluated by the check.
use Rattle.std.proofs.Common.{refl}
use Rattle.bb_words.specs.Answers.{and_then}
use Rattle.size_table.specs.Pads.{exponent_of}
use Rattle.block_layout.specs.Layout.{layout}
use Rattle.source_meaning.specs.ExamplesCopies.{StructsAreCopied, SourceFirst, ShortTarget, Upwards, Sets, SpanPastTheLength, TooLong, BracesClear, StructParts, Strings}

pub structs_are_copied : StructsAreCopied
unfolding and_then layout exponent_of
structs_are_copied = refl

pub source_first : SourceFirst
unfolding and_then layout exponent_of
source_first = refl

pub short_target : ShortTarget
unfolding and_then layout exponent_of
short_target = refl

pub upwards : Upwards
unfolding and_then layout exponent_of
upwards = refl

pub sets : Sets
unfolding and_then layout exponent_of
sets = refl

pub span_past_the_length : SpanPastTheLength
unfolding and_then layout exponent_of
span_past_the_length = refl

pub too_long : TooLong
unfolding and_then layout exponent_of
too_long = refl

pub braces_clear : BracesClear
unfolding and_then layout exponent_of
braces_clear = refl

pub struct_parts : StructParts
unfolding and_then layout exponent_of
struct_parts = refl

pub strings : Strings
unfolding and_then layout exponent_of
strings = refl
