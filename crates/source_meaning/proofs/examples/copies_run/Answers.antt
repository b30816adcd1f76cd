use Rattle.source_meaning.proofs.ExamplesCopies.{structs_are_copied, source_first, short_target, upwards, sets, span_past_the_length, too_long, braces_clear, struct_parts, strings}
use Rattle.source_meaning.proofs.examples.copies_run.Goals as goal

pub returns : goal.returns
returns c = record {
  structs_are_copied = structs_are_copied;
  source_first = source_first;
  short_target = short_target;
  upwards = upwards;
  sets = sets;
  span_past_the_length = span_past_the_length;
  too_long = too_long;
  braces_clear = braces_clear;
  struct_parts = struct_parts;
  strings = strings;
}
