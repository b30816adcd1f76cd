-- What it means that code is verified or refused.
use Rattle.std.specs.Prelude.{ℕ, List, Some, None, Result, Ok, Err}
use Rattle.size_table.specs.Blocks.{Block}
use Rattle.flat_code.specs.Code.{FCode}
use Rattle.flat_verify.specs.declared.error.VerifyError.{VerifyError}
use Rattle.flat_verify.specs.declared.error.VerifyError.TheVariants as errors
use Rattle.flat_discipline.specs.Discipline.{FirstBreak}

-- It is verified where nothing breaks the discipline, and refused at the first place that does; where memory is wanting
-- nothing is said.
abbrev pub Answers : {A : Type 0} → (g : ℕ) → (globals : List Block) → FCode → Result A VerifyError → Type 0
Answers g globals code (Ok v) = FirstBreak g globals code None
Answers g globals code (Err (errors.Unchecked f p)) = FirstBreak g globals code (Some record { function = f; place = p })
Answers g globals code (Err errors.Memory) = Unit {0}

-- it is not refused
abbrev pub IsNoRefusal : {A : Type 0} → Result A VerifyError → Type 0
IsNoRefusal (Ok v) = Unit {0}
IsNoRefusal (Err (errors.Unchecked f p)) = ⊥
IsNoRefusal (Err errors.Memory) = Unit {0}
