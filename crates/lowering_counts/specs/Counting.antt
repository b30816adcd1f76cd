-- What is counted of a program, in the one walk over each of its functions.
use Rattle.std.specs.Prelude.{◌≡◌, ℕ, List, map}
use Rattle.typed_tree.specs.Counts.{values_of, nodes_of_program}
use Rattle.typed_tree.specs.TypedTree.{CFunction, CProgram}
use Rattle.lowering_counts.specs.declared.counts.ProgramCounts.{ProgramCounts}
use Rattle.lowering_counts.specs.Built.{is_built}
use Rattle.lowering_counts.specs.Limits.{counted}

-- the values of each of these functions, as an answer has them
abbrev pub counted_values : List CFunction → List ℕ
counted_values functions = map (λ f. counted (values_of f)) functions

-- the counts are those of this program
pub record IsCounted (p : CProgram) (counts : ProgramCounts) : Type 0 where
  pub nodes : counts.nodes ≡ counted (nodes_of_program p)
  pub values : counts.values ≡ counted_values p.functions
  pub built : counts.built ≡ is_built p
