use Rattle.source_meaning.proofs.ExamplesCalls.{conversions, quotients, division_by_zero, place_is_read_last, choices, jumps, nothing_returned, while_is_cut, do_is_not_cut, do_is_cut, call_is_cut, cut_before_stack, stack_is_full, echo, heap_is_reused, bad_free, freed_twice}
use Rattle.source_meaning.proofs.examples.calls_run.Goals as goal

pub returns : goal.returns
returns c = record {
  conversions = conversions;
  quotients = quotients;
  division_by_zero = division_by_zero;
  place_is_read_last = place_is_read_last;
  choices = choices;
  jumps = jumps;
  nothing_returned = nothing_returned;
  while_is_cut = while_is_cut;
  do_is_not_cut = do_is_not_cut;
  do_is_cut = do_is_cut;
  call_is_cut = call_is_cut;
  cut_before_stack = cut_before_stack;
  stack_is_full = stack_is_full;
  echo = echo;
  heap_is_reused = heap_is_reused;
  bad_free = bad_free;
  freed_twice = freed_twice;
}
