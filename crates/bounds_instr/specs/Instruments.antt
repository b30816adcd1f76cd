-- What the call answers.
use Rattle.std.specs.Prelude.{◌≡◌, ℕ, ◌+◌, ◌≤◌, true, false, Result, Ok, Err}
use Rattle.mid_code.specs.Code.{Program}
use Rattle.mid_code.specs.Weight as mid
use Rattle.flat_code.specs.declared.code.Flat.{Flat}
use Rattle.flat_code.specs.Code.{FCode}
use Rattle.flat_code.specs.CodeViews.{code_of}
use Rattle.flat_code.specs.Weight as flat
use Rattle.flat_discipline.specs.Discipline.{IsDisciplined}
use Rattle.bounds_instr.specs.declared.error.InstrError.{InstrError}
use Rattle.bounds_instr.specs.declared.error.InstrError.TheVariants.{NotBuilt, Memory}
use Rattle.bounds_instr_code.specs.Built.{is_built}
use Rattle.bounds_instr_code.specs.Code.{global_blocks, instrumented}
use Rattle.bounds_instr_keeps.specs.Keeps.{Keeps}
use Rattle.bounds_instr_accepted.specs.Laws.{beside}

-- This is the code of the program, for slots of 2 ^ g bytes; it does what the program does, keeps the discipline, and weighs
-- no more than the program, the start code and the library.
pub record Instruments (g : ℕ) (p : Program) (code : FCode) : Type 0 where
  pub is : code ≡ instrumented g p
  pub keeps : Keeps g (λ site. false) p code
  pub disciplined : IsDisciplined g (global_blocks g p) code
  pub light : flat.weight g code ≤ mid.weight p + beside

-- Flat code comes just where the program is built, if memory is not wanting.
abbrev pub IsInstrumented : (g : ℕ) → Program → Result Flat InstrError → Type 0
IsInstrumented g p (Ok flat) = (is_built p ≡ true) × Instruments g p (code_of flat)
IsInstrumented g p (Err NotBuilt) = is_built p ≡ false
IsInstrumented g p (Err Memory) = Unit {0}
