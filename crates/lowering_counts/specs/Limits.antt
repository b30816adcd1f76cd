-- The limits on programs: on the nodes of all functions, and on the values of each.
use Rattle.std.specs.Prelude.{◌≡◌, ℕ, ◌≤◌, ◌<◌, min, All, List, take, Some, slice_get, Result, Ok, Err}
use Rattle.typed_tree.specs.Counts.{values_of, nodes_of_program}
use Rattle.typed_tree.specs.TypedTree.{CFunction, CProgram}
use Rattle.mid_code.specs.Formed.{most_values}
use Rattle.lowering_counts.specs.declared.error.LowerError.{LowerError}
use Rattle.lowering_counts.specs.declared.error.LowerError.TheVariants.{TooManyNodes, TooManyValues, NotBuilt, Memory}

-- how many nodes the functions of a program may have
abbrev pub most_nodes : ℕ
most_nodes = 4096

-- a count as an answer has it: up to the greatest `u32`
abbrev pub counted : ℕ → ℕ
counted n = min n 4294967295

-- the first function with more values than a function may have: its name, and how many it has
pub record IsFirstFull (functions : List CFunction) (name : List ℕ) (count : ℕ) : Type 0 where
  pub number : ℕ
  pub function : CFunction
  pub found : slice_get functions number ≡ Some function
  pub full : most_values < values_of function
  pub before : All (λ f. values_of f ≤ most_values) (take number functions)
  pub named : name ≡ function.name
  pub counts : count ≡ counted (values_of function)

-- no function has too many values, or the first one that has is named
abbrev pub Fit : {A : Type 0} → List CFunction → Result A LowerError → Type 0
Fit functions (Ok a) = All (λ f. values_of f ≤ most_values) functions
Fit functions (Err (TooManyValues name count)) = IsFirstFull functions name count
Fit functions (Err Memory) = Unit {0}
Fit functions (Err (TooManyNodes count)) = ⊥
Fit functions (Err NotBuilt) = ⊥

-- no function has more than 250 values
abbrev pub HasRoom : CProgram → Type 0
HasRoom p = All (λ f. values_of f ≤ 250) p.functions

-- the limit that a program passes first: the nodes are counted first, then the values of the functions in their order
abbrev pub PassesLimit : CProgram → LowerError → Type 0
PassesLimit p (TooManyNodes count) = (most_nodes < nodes_of_program p) × (count ≡ counted (nodes_of_program p))
PassesLimit p (TooManyValues name count) = (nodes_of_program p ≤ most_nodes) × IsFirstFull p.functions name count
PassesLimit p NotBuilt = ⊥
PassesLimit p Memory = ⊥

-- a program passes no limit, or this one first
abbrev pub IsWithin : {A : Type 0} → CProgram → Result A LowerError → Type 0
IsWithin p (Ok a) = (nodes_of_program p ≤ most_nodes) × HasRoom p
IsWithin p (Err Memory) = Unit {0}
IsWithin p (Err error) = PassesLimit p error
