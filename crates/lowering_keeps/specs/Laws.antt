-- The laws of lowering.
use Rattle.std.specs.Prelude.{◌≡◌, ◌≤◌, ◌*◌, []}
use Rattle.typed_tree.specs.Counts.{nodes_of_program}
use Rattle.typed_tree.specs.TypedTree.{CProgram}
use Rattle.typed_tree.specs.Typed.{Typed, HasLines}
use Rattle.typed_tree.specs.TypedLaws.{forty_two}
use Rattle.source_meaning.specs.declared.values.Ending.TheVariants.{Exited}
use Rattle.mid_code.specs.Formed.{Formed}
use Rattle.mid_code.specs.Meaning.{Came}
use Rattle.mid_code.specs.Runs as mid
use Rattle.mid_code.specs.Weight.{weight}
use Rattle.lowering_counts.specs.Built.{IsBuilt}
use Rattle.lowering_keeps.specs.Keeps.{Keeps}
use Rattle.lowering_counts.specs.Limits.{HasRoom}
use Rattle.lowering_code.specs.Lower.{lowered}

-- The code of a typed program that is built means what the program means: for every size of slot, every input and every
-- bound on turns and nested calls the same ending in the same world, with its output, trail and accounts, in a time of at
-- most the cost of that world.
abbrev pub CodeKeeps : Type 0
CodeKeeps = (p : CProgram) → Typed p → IsBuilt p → HasRoom p → Keeps p (lowered p)

-- The code of a typed program that is built comes to at most 504 bytes for each of its nodes.
abbrev pub CodeIsLight : Type 0
CodeIsLight = (p : CProgram) → Typed p → IsBuilt p → weight (lowered p) ≤ 504 * nodes_of_program p

-- The code of a typed program that is built is well formed, where its lines are those of a text.
abbrev pub CodeIsFormed : Type 0
CodeIsFormed = (p : CProgram) → Typed p → HasLines p → IsBuilt p → HasRoom p → Formed (lowered p)

-- The code of `int main(void){return 42;}` exits with 42, where one call may be nested.
abbrev pub FortyTwoExits : Type 0
FortyTwoExits = (mid.outcome 4 (lowered forty_two) [] 1).ending ≡ Came (Exited 42)
