-- The programs of accepted files never come to a value of the wrong kind.
use Rattle.std.specs.Prelude.{◌≡◌, ℕ, List}
use Rattle.typed_tree.specs.TypedTree.{CProgram}
use Rattle.source_meaning.specs.declared.values.OutsideCause.TheVariants.{Kind}
use Rattle.source_meaning.specs.declared.values.Ending.TheVariants.{Outside}
use Rattle.source_meaning.specs.Runs.{outcome}
use Rattle.syntax_in_range.specs.InRange.{AreBytes}
use Rattle.bb_driver.specs.Sources.{Means}

-- No run of a file's program leaves its objects by a number where a pointer is wanted, by a pointer where a number is, or by
-- a place where a value is: whatever it reads, whatever the size of a slot, and wherever it is cut.
abbrev pub FilesKeepKinds : Type 0
FilesKeepKinds = (g : ℕ) (text : List ℕ) (p : CProgram) (input : List ℕ) (m : ℕ) → AreBytes text → Means text p
    → (outcome g p input m).ending ≡ Outside Kind → ⊥
