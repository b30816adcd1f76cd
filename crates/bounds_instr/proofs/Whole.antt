-- What the function on trees gives is what the call promises.
use Rattle.std.proofs.Common.{◌≡◌, ℕ, ◌+◌, ◌≤◌, true, false, sym, subst}
use Rattle.mid_code.specs.Code.{Program}
use Rattle.mid_code.specs.Formed.{Formed}
use Rattle.mid_code.specs.Weight as mid
use Rattle.flat_code.specs.Code.{FCode}
use Rattle.flat_code.specs.Weight as flat
use Rattle.flat_discipline.specs.Discipline.{IsDisciplined}
use Rattle.bounds_instr_code.specs.Built.{is_built}
use Rattle.bounds_instr_code.specs.Code.{global_blocks, instrumented}
use Rattle.bounds_instr_keeps.specs.Keeps.{Keeps}
use Rattle.bounds_instr_keeps.specs.Laws.{InstrumentedKeeps}
use Rattle.bounds_instr_accepted.specs.Laws.{beside, InstrumentedIsDisciplined, InstrumentedIsLight}
use Rattle.bounds_instr.specs.Instruments.{Instruments}
use Rattle.bounds_instr_code.proofs.Fits.{is_built_is}

pub instruments : InstrumentedKeeps → InstrumentedIsDisciplined → InstrumentedIsLight → (g : ℕ) (p : Program) → 2 ≤ g → g ≤ 24 → Formed p → is_built p ≡ true → (code : FCode) → code ≡ instrumented g p → Instruments g p code
instruments keeps disciplined light g p big small formed built code same =
    let is = (is_built_is p built).0 in
    record {
      is = same;
      keeps = subst (Keeps g (λ site. false) p) (sym same) (keeps g p big small formed is);
      disciplined = subst (IsDisciplined g (global_blocks g p)) (sym same) (disciplined g p formed is);
      light = subst (λ z. flat.weight g z ≤ mid.weight p + beside) (sym same) (light g p formed is);
    }
