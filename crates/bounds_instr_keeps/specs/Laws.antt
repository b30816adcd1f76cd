-- That flat code does what its mid code does.
use Rattle.std.specs.Prelude.{ℕ, ◌≤◌, false}
use Rattle.mid_code.specs.Code.{Program}
use Rattle.mid_code.specs.Formed.{Formed}
use Rattle.bounds_instr_code.specs.Built.{IsBuilt}
use Rattle.bounds_instr_code.specs.Code.{instrumented}
use Rattle.bounds_instr_keeps.specs.Keeps.{Keeps}

-- The flat code of a program that is well formed and built does what the program does: it ends in the same way within the
-- same time, having told the same, whatever the size of slots, the input, and the bound on turns and nested calls. No move
-- is left unchecked. A slot has at least four bytes, which an access of a word takes.
abbrev pub InstrumentedKeeps : Type 0
InstrumentedKeeps = (g : ℕ) (p : Program) → 2 ≤ g → g ≤ 24 → Formed p → IsBuilt p → Keeps g (λ site. false) p (instrumented g p)
