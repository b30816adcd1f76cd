-- Small programs, evaluated by the check.
use Rattle.std.proofs.Common.{refl}
use Rattle.bb_words.specs.Answers.{and_then}
use Rattle.bb_words.specs.Numbers.{signed_quotient}
use Rattle.size_table.specs.Pads.{exponent_of}
use Rattle.buddy_heap.specs.Places.{first_of, place_of}
use Rattle.block_layout.specs.Layout.{layout}
use Rattle.mid_code.specs.Examples.{Examples}

pub examples : Examples
unfolding and_then layout exponent_of place_of first_of signed_quotient
examples = record {
  sums = refl;
  is_cut = refl;
  calls_twice = refl;
  calls_no_deeper = refl;
  divides_by_zero = refl;
  reads_inside = refl;
  reads_padding = refl;
  reads_past_padding = refl;
  moves_too_far = refl;
  moves_below = refl;
  moves_too_far_below = refl;
  stays = refl;
  strays = refl;
  reads_freed = refl;
  copies_past_the_end = refl;
}
