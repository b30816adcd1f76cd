use Rattle.std.specs.Prelude.{◌≤◌, All, map, take}
use Rattle.typed_tree.specs.TypedViews.{function_of}
use Rattle.block_layout.specs.Answers.{frame_bytes, most_frame_bytes}
use Rattle.bb_driver.proofs.source.lay_out.Given as goal

abbrev pub invariant-loop-function : goal.invariant-loop-function
invariant-loop-function l = All (λ f. frame_bytes f ≤ most_frame_bytes) (take l.function-index (map function_of l.function-items))
