-- The runs of an image are safe, where they are those of safe flat code.
use Rattle.std.proofs.Common.{ℕ, List, Option, Some, None, refl, sym, subst}
use Rattle.std.specs.Prelude.{All, IsSome}
use Rattle.bb_words.specs.Answers.{Answer}
use Rattle.bb_words.specs.declared.kinds.TrapKind.{TrapKind}
use Rattle.bb_words.specs.declared.kinds.TrapKind.TheVariants as trap
use Rattle.flat_code.specs.Told.{tells}
use Rattle.flat_code.specs.World as flat
use Rattle.flat_code.specs.Safety.{AllSafe}
use Rattle.flat_code_laws.specs.Laws.{SafeAppends, IsOfAccess, TrapsOfAccess}
use Rattle.rv_image.specs.declared.image.Image.{Image}
use Rattle.rv_image.specs.Rules.{IsImage, slot_of}
use Rattle.rv_machine.specs.declared.stop.Halt.{Halt}
use Rattle.rv_machine.specs.Formed.{IsByte}
use Rattle.rv_machine.specs.Live.{global_blocks}
use Rattle.rv_machine_laws.specs.Laws.{TableIsKept}
use Rattle.rv_machine.specs.Machine.{machine_after}
use Rattle.rv_machine_laws.specs.Safety.{IsSafeEnding, IsSafe}
use Rattle.flat_landing.specs.Shared.{shared}
use Rattle.flat_landing.specs.Lands.{Outcome, outcome_of, halt_of, RunsAs}
use Rattle.bb_driver.proofs.Shared.{safe_shared}

-- the traps of flat code are those of accesses
abbrev pub EndsSafely : flat.Ending → Type 0
EndsSafely (flat.Ending.Exited word) = Unit {0}
EndsSafely (flat.Ending.Reported kind line) = Unit {0}
EndsSafely (flat.Ending.Trapped kind) = IsOfAccess kind
EndsSafely flat.Ending.Cut = Unit {0}

pub ends_safely : (r : flat.Run (Unit {0})) → TrapsOfAccess r → EndsSafely (outcome_of r).ending
ends_safely (Answer.Goes a u) h = tt
ends_safely (Answer.Ends (flat.Ending.Exited word) u) h = tt
ends_safely (Answer.Ends (flat.Ending.Reported kind line) u) h = tt
ends_safely (Answer.Ends (flat.Ending.Trapped kind) u) h = h
ends_safely (Answer.Ends flat.Ending.Cut u) h = tt

trap_is_safe : (kind : TrapKind) → IsOfAccess kind → IsSafeEnding (halt_of (flat.Ending.Trapped kind))
trap_is_safe trap.Null h = tt
trap_is_safe trap.Marked h = tt
trap_is_safe trap.Misaligned h = tt
trap_is_safe trap.Unmapped h = absurd h
trap_is_safe trap.Text h = absurd h
trap_is_safe trap.Fetch h = absurd h
trap_is_safe trap.Illegal h = absurd h
trap_is_safe trap.Break h = absurd h
trap_is_safe trap.Call h = absurd h

ending_is_safe : (e : flat.Ending) → EndsSafely e → IsSafeEnding (halt_of e)
ending_is_safe (flat.Ending.Exited word) h = tt
ending_is_safe (flat.Ending.Reported kind line) h = tt
ending_is_safe (flat.Ending.Trapped kind) h = trap_is_safe kind h
ending_is_safe flat.Ending.Cut h = tt

-- a machine that goes on has no ending, and one that has halted has flat code's
traps_of : (halt : Option Halt) → (IsSome halt → IsSafeEnding halt) → IsSafeEnding halt
traps_of None h = tt
traps_of (Some x) h = h refl

module _ (table : TableIsKept) (safe_appends : SafeAppends) (image : Image) (rules : IsImage image) (bytes : All IsByte image.initial)
    (flats : ℕ → Outcome) (ends : (m : ℕ) → EndsSafely (flats m).ending)
    (verified : (m : ℕ) → AllSafe (slot_of image) (global_blocks image) (global_blocks image) (tells (flats m).point.world.told))
    (input : List ℕ) (fine : All IsByte input) (runs : RunsAs (global_blocks image) flats (machine_after image input)) where
  pub is_safe : (k : ℕ) → IsSafe (slot_of image) (global_blocks image) (machine_after image input k)
  is_safe k =
      let w = machine_after image input k in
      let b = runs.no_more k in
      let all = (safe_appends (slot_of image) (global_blocks image) (global_blocks image) (shared w.told) b.rest).0 (subst (AllSafe (slot_of image) (global_blocks image) (global_blocks image)) b.is (verified k)) in
      let safe = safe_shared (slot_of image) (global_blocks image) (global_blocks image) w.told all.0 in
      let control = runs.control k in
      record {
        contained = record {
          moves = safe.0;
          accesses = safe.1;
          control = control.accesses;
          table = table image input k rules bytes fine safe.1 control.accesses;
          returns = control.returns;
        };
        traps = traps_of w.machine.ending (λ halted. let r = runs.halts_only k halted in subst IsSafeEnding (sym r.1) (ending_is_safe (flats k).ending (ends k)));
      }
