-- What the code of a function asks of it.
use Rattle.std.specs.Prelude.{◌≡◌, ◌≤◌, true, length}
use Rattle.typed_tree.specs.Counts.{values_of}
use Rattle.typed_tree.specs.TypedTree.{CFunction}
use Rattle.mid_code.specs.Formed.{most_values}
use Rattle.lowering_counts.specs.Built.{is_built_function}

pub record IsReady (f : CFunction) : Type 0 where
  pub built : is_built_function f ≡ true
  pub room : values_of f ≤ most_values
  pub params : f.params ≤ length f.locals
