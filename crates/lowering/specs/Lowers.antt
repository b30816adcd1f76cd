-- What `lower` answers: the refusal that comes first, or code that means what the program means.
use Rattle.std.specs.Prelude.{◌≡◌, ◌≤◌, ◌*◌, false, Result, Ok, Err}
use Rattle.typed_tree.specs.Counts.{nodes_of_program}
use Rattle.typed_tree.specs.TypedTree.{CProgram}
use Rattle.mid_code.specs.declared.code.Mid.{Mid}
use Rattle.mid_code.specs.Code.{Program}
use Rattle.mid_code.specs.Formed.{Formed}
use Rattle.mid_code.specs.Views.{program_of}
use Rattle.mid_code.specs.Weight.{weight}
use Rattle.lowering_counts.specs.declared.error.LowerError.{LowerError}
use Rattle.lowering_counts.specs.declared.error.LowerError.TheVariants.{NotBuilt, Memory}
use Rattle.lowering_counts.specs.Built.{is_built, IsBuilt}
use Rattle.lowering_keeps.specs.Keeps.{Keeps}
use Rattle.lowering_counts.specs.Limits.{most_nodes, HasRoom, PassesLimit}
use Rattle.lowering_code.specs.Lower.{lowered}

-- Code of a program: it is that of the definition, means what the program means, within its cost, with no more bytes than
-- its nodes pay for, and is well formed.
pub record IsCode (p : CProgram) (code : Program) : Type 0 where
  pub is : code ≡ lowered p
  pub keeps : Keeps p code
  pub light : weight code ≤ 504 * nodes_of_program p
  pub formed : Formed code

-- The limits come first, in their order; what is not built comes last.
abbrev pub IsLowered : CProgram → Result Mid LowerError → Type 0
IsLowered p (Ok code) = (nodes_of_program p ≤ most_nodes) × HasRoom p × IsBuilt p × IsCode p (program_of code)
IsLowered p (Err NotBuilt) = (nodes_of_program p ≤ most_nodes) × HasRoom p × (is_built p ≡ false)
IsLowered p (Err Memory) = Unit {0}
IsLowered p (Err error) = PassesLimit p error
