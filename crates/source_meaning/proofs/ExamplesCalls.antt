-- What the definition gives for the examples, evaluated by the check.
use Rattle.std.proofs.Common.{refl}
use Rattle.bb_words.specs.Answers.{and_then}
use Rattle.bb_words.specs.Numbers.{signed_quotient, signed_remainder, signed_right_shift}
use Rattle.size_table.specs.Pads.{exponent_of}
use Rattle.buddy_heap.specs.Places.{place_of, first_of}
use Rattle.block_layout.specs.Layout.{layout}
use Rattle.source_meaning.specs.ExamplesCalls.{Conversions, Quotients, DivisionByZero, PlaceIsReadLast, Choices, Jumps, NothingReturned, WhileIsCut, DoIsNotCut, DoIsCut, CallIsCut, CutBeforeStack, StackIsFull, Echo, HeapIsReused, BadFree, FreedTwice}

pub conversions : Conversions
unfolding and_then layout exponent_of signed_right_shift
conversions = refl

pub quotients : Quotients
unfolding and_then layout exponent_of signed_quotient signed_remainder signed_right_shift
quotients = refl

pub division_by_zero : DivisionByZero
unfolding and_then layout exponent_of signed_remainder
division_by_zero = refl

pub place_is_read_last : PlaceIsReadLast
unfolding and_then layout exponent_of
place_is_read_last = refl

pub choices : Choices
unfolding and_then layout exponent_of
choices = refl

pub jumps : Jumps
unfolding and_then layout exponent_of
jumps = refl

pub nothing_returned : NothingReturned
unfolding and_then layout exponent_of
nothing_returned = refl

pub while_is_cut : WhileIsCut
unfolding and_then layout exponent_of
while_is_cut = refl

pub do_is_not_cut : DoIsNotCut
unfolding and_then layout exponent_of
do_is_not_cut = refl

pub do_is_cut : DoIsCut
unfolding and_then layout exponent_of
do_is_cut = refl

pub call_is_cut : CallIsCut
unfolding and_then layout exponent_of
call_is_cut = refl

pub cut_before_stack : CutBeforeStack
unfolding and_then layout exponent_of
cut_before_stack = refl

pub stack_is_full : StackIsFull
unfolding and_then layout exponent_of
stack_is_full = refl

pub echo : Echo
unfolding and_then layout exponent_of
echo = refl

pub heap_is_reused : HeapIsReused
unfolding and_then layout exponent_of place_of first_of
heap_is_reused = refl

pub bad_free : BadFree
unfolding and_then layout exponent_of place_of first_of
bad_free = refl

pub freed_twice : FreedTwice
unfolding and_then layout exponent_of place_of first_of
freed_twice = refl
