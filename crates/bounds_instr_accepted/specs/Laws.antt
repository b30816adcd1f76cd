-- That flat code is accepted: it keeps the discipline, and is light.
use Rattle.std.specs.Prelude.{ℕ, ◌+◌, ◌≤◌}
use Rattle.mid_code.specs.Code.{Program}
use Rattle.mid_code.specs.Formed.{Formed}
use Rattle.mid_code.specs.Weight as mid
use Rattle.flat_code.specs.Weight as flat
use Rattle.bounds_instr_code.specs.Built.{IsBuilt}
use Rattle.flat_discipline.specs.Discipline.{IsDisciplined}
use Rattle.bounds_instr_code.specs.Code.{global_blocks, instrumented}

-- The flat code of a program that is well formed and built keeps the discipline of flat code, with slots of every size.
abbrev pub InstrumentedIsDisciplined : Type 0
InstrumentedIsDisciplined = (g : ℕ) (p : Program) → Formed p → IsBuilt p → IsDisciplined g (global_blocks g p) (instrumented g p)

-- how many bytes code may weigh beside what its program weighs: those of the start code and of the library's bodies
abbrev pub beside : ℕ
beside = 28672

-- The flat code of a program that is well formed and built weighs no more than the program, and these.
abbrev pub InstrumentedIsLight : Type 0
InstrumentedIsLight = (g : ℕ) (p : Program) → Formed p → IsBuilt p → flat.weight g (instrumented g p) ≤ mid.weight p + beside
