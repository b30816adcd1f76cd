use Rattle.source_meaning.proofs.ExamplesAccounts.{objects_lie, wide_layout, rounded_frame, depth_is_reported}
use Rattle.source_meaning.proofs.examples.accounts_run.Goals as goal

pub returns : goal.returns
returns c = record {
  layout = objects_lie;
  rounded_frame = rounded_frame;
  wide_layout = wide_layout;
  depth_is_reported = depth_is_reported;
}
