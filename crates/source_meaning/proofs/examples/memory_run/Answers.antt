use Rattle.source_meaning.proofs.ExamplesMemory.{little_endian, globals, marked_before_misaligned, marked_at_the_padding, misaligned_before_padding, padding, pointers_in_pieces, parts_out_of_order, forged, parts_are_no_numbers, dead_may_be_kept, dead_is_not_compared, dead_is_not_tested, dead_before_across, apart, across, difference}
use Rattle.source_meaning.proofs.examples.memory_run.Goals as goal

pub returns : goal.returns
returns c = record {
  little_endian = little_endian;
  globals = globals;
  marked_before_misaligned = marked_before_misaligned;
  marked_at_the_padding = marked_at_the_padding;
  misaligned_before_padding = misaligned_before_padding;
  padding = padding;
  pointers_in_pieces = pointers_in_pieces;
  parts_out_of_order = parts_out_of_order;
  forged = forged;
  parts_are_no_numbers = parts_are_no_numbers;
  dead_may_be_kept = dead_may_be_kept;
  dead_is_not_compared = dead_is_not_compared;
  dead_is_not_tested = dead_is_not_tested;
  dead_before_across = dead_before_across;
  apart = apart;
  across = across;
  difference = difference;
}
