use Rattle.source_meaning.proofs.ExamplesMoves.{within_reach, past_the_end, below_the_start, wide_slots_above, wide_slots_below, members, wrapped_distance, null_does_not_move, sites_of_parts, sites_in_order}
use Rattle.source_meaning.proofs.examples.moves_run.Goals as goal

pub returns : goal.returns
returns c = record {
  within_reach = within_reach;
  past_the_end = past_the_end;
  below_the_start = below_the_start;
  wide_slots_above = wide_slots_above;
  wide_slots_below = wide_slots_below;
  members = members;
  wrapped_distance = wrapped_distance;
  null_does_not_move = null_does_not_move;
  sites_of_parts = sites_of_parts;
  sites_in_order = sites_in_order;
}
