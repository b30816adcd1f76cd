-- The laws of the code of programs of numbers, from the typed tree to flat code.
use Rattle.std.specs.Prelude.{◌≡◌, ℕ, true, [], length, replicate, Some, slice_get}
use Rattle.flat_code.specs.Code.{FFunction}
use Rattle.typed_tree.specs.TypedTree.{CProgram}
use Rattle.typed_tree.specs.Typed.{Typed}
use Rattle.mid_code.specs.Code.{Program}
use Rattle.mid_code.specs.Formed.{Formed}
use Rattle.lowering_counts.specs.Built as lowering
use Rattle.lowering_code.specs.Lower.{lowered}
use Rattle.bounds_instr_code.specs.Built as instr
use Rattle.bounds_instr_code.specs.Code.{instrumented, global_blocks, frames_of}
use Rattle.select_scope.specs.Fits.{FunctionsFit, HasMain}
use Rattle.select_scope.specs.InReach.{AreCalm}

-- The mid code of a program of numbers is built: where there is mid code, there is flat code.
abbrev pub CodeIsBuilt : Type 0
CodeIsBuilt = (p : CProgram) → lowering.IsBuilt p → (instr.is_built (lowered p) ≡ true) × instr.IsBuilt (lowered p)

-- The functions of the flat code of a typed program of numbers, for slots of 16 bytes, are those that the selection of
-- instructions is proved for, where its mid code is well formed.
abbrev pub CodeFits : Type 0
CodeFits = (p : CProgram) → Typed p → lowering.IsBuilt p → Formed (lowered p) → FunctionsFit (instrumented 4 (lowered p))

-- And none of its steps accesses memory, or looks into the size table.
abbrev pub CodeIsCalm : Type 0
CodeIsCalm = (g : ℕ) (p : CProgram) → lowering.IsBuilt p → (number : ℕ) (f : FFunction)
    → slice_get (instrumented g (lowered p)).functions number ≡ Some f → AreCalm f.body

-- The first function that is called is there, and has no parameters.
abbrev pub MainFits : Type 0
MainFits = (g : ℕ) (p : CProgram) → Typed p → HasMain (instrumented g (lowered p))

-- Mid code has no global objects, and the frame of each of its functions has no objects.
pub record IsFrameless (g : ℕ) (p : Program) : Type 0 where
  pub frames : frames_of g p ≡ replicate (length p.functions) []
  pub globals : global_blocks g p ≡ []
  pub initial : (instrumented g p).initial ≡ []

-- That of a program of numbers has none.
abbrev pub NoFrames : Type 0
NoFrames = (g : ℕ) (p : CProgram) → lowering.IsBuilt p → IsFrameless g (lowered p)
