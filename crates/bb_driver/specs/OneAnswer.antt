-- A text has one answer.
use Rattle.std.specs.Prelude.{◌≡◌, ℕ, List}
use Rattle.typed_tree.specs.TypedTree.{CProgram}
use Rattle.bb_driver.specs.declared.error.CompileError.{CompileError}
use Rattle.bb_driver.specs.Sources.{Means, Accepts, Refuses}

-- A text is the file of one program at most, one that is accepted is not refused, and one that is refused is refused in one
-- way. So each answer of the compiler comes exactly where it holds.
pub record HasOneAnswer : Type 0 where
  pub program : (text : List ℕ) (p q : CProgram) → Means text p → Means text q → p ≡ q
  pub answer : (text : List ℕ) (p : CProgram) (error : CompileError) → Accepts text p → Refuses text error → ⊥
  pub refusal : (text : List ℕ) (e f : CompileError) → Refuses text e → Refuses text f → e ≡ f
