-- How a machine follows a move that was checked.
use Rattle.std.proofs.Common.{◌≡◌, ℕ, ◌+◌, ◌<◌, ◌≤◌, List, [], ◌∷◌, Option, Some, None, refl, sym, ap, ◌∙◌, subst, arith}
use Rattle.bb_watch.specs.declared.event.Event.{Event}
use Rattle.bb_watch.specs.declared.event.Event.TheVariants.{Move}
use Rattle.bb_watch.specs.Told.{Happens}
use Rattle.flat_code.specs.Told as flat
use Rattle.flat_code.specs.Told.{Stamped}
use Rattle.flat_code.specs.World.{FPoint, point, spend, tell}
use Rattle.flat_landing.specs.Shared.{shared}
use Rattle.rv_asm.specs.declared.parts.Part.TheVariants.{Plain}
use Rattle.rv_asm.specs.Runs.{PartAt, PartsAt, gone}
use Rattle.rv_code.specs.declared.instr.Instr.TheVariants.{Add}
use Rattle.rv_machine.specs.State.{Core, register_of, next}
use Rattle.rv_machine.specs.Instruction.{Goes}
use Rattle.rv_machine.specs.Machine.{step}
use Rattle.rv_selected.specs.Registers.{load}
use Rattle.rv_selected.specs.Steps.{plains, fetch, checked_code}
use Rattle.select_scope.specs.Loaded.{Loaded, IsLoaded, after, Frame, HasRoom, HoldsFrame, Agrees, IsKept, At}
use Rattle.select_straight.proofs.Straight.{step_acts}
use Rattle.select_scope.proofs.Agree.{Laws}
use Rattle.select_scope.proofs.Reach.{Arrives}
use Rattle.select_scope.proofs.Moves.{one_step, frame_moves, stands_at}
use Rattle.select_scope.proofs.Pieces.{plains_split, plains_join}
use Rattle.select_straight.proofs.Asking.{SaysAs, saying, agrees_more}
use Rattle.select_accesses.proofs.Storing.{both}

module _ (laws : Laws) (s : Loaded) (scene : IsLoaded s) (f : Frame) (room : HasRoom f) where
  abbrev core_at : ℕ → Core
  core_at k = (after s k).machine.core

  -- the move itself, of words in x5 and x6
  moves_on : (v x a b : ℕ) (u : FPoint) (k : ℕ) → register_of (core_at k) 6 ≡ u.words x → PartAt s.text s.all s.labels a (Plain (Add 0 5 6)) b → k + 1 ≤ u.world.time → At s f a (Some v) u k
      → At s f b None (point u.words (tell (flat.Tell.Move (u.words v) (u.words x)) u.world)) (k + 1)
  moves_on v x a b u k six part soon at =
      let now = after s k in
      let c = core_at k in
      let d = next c in
      let event : Event = Move c.pc (register_of c 5) (register_of c 6) in
      let y : Stamped = record { time = u.world.time; what = flat.Tell.Move (u.words v) (u.words x) } in
      let w = saying (y ∷ []) u.world.input u.world in
      let comes : step now ≡ gone (event ∷ []) d now = step_acts now (Goes d) at.at.running (part.0.step c at.at.core) ∙ ap (λ (es : List Event). gone es d now) (part.0.events c at.at.core) in
      let same : after s (k + 1) ≡ gone (event ∷ []) d now = sym (laws.steps_add k 1 s.start) ∙ one_step now ∙ comes in
      let says : SaysAs (Happens event ∷ []) (y ∷ []) = record {
        same = ap (λ z. flat.Tell.Move z (register_of c 6) ∷ []) at.frame.stands.five ∙ ap (λ z. flat.Tell.Move (u.words v) z ∷ []) six;
        safe = λ live ever. (tt, tt);
        stay = λ places. refl;
        live = λ blocks. refl;
        high = (tt, tt);
      } in
      let agrees = agrees_more laws s f u.world now (gone (event ∷ []) d now) (Happens event ∷ []) (y ∷ []) u.world.input says
      (record { told = refl; memory = refl; eight = refl; table = refl; frames = refl }) at.agrees.input at.agrees in
      let kept : IsKept s w.told = record { by = laws.kept_more s.start u.world.told y (k + 1) at.kept.by soon (ap (λ z. shared z.told) same ∙ agrees.said) } in
      record {
        at = stands_at laws s scene f room (k + 1) b (ap (λ z. z.machine.core.pc) same ∙ ap (λ z. z + 4) at.at.core.here ∙ sym part.1) (ap (λ z. z.machine.ending) same ∙ at.at.running);
        frame = subst (λ z. HoldsFrame f None u.words z.machine.core) (sym same) (frame_moves f (Some v) u.words c d refl refl refl at.frame);
        agrees = subst (Agrees s f w) (sym same) agrees;
        soon = soon;
        kept = kept;
      }

  pub checked_runs : (from to a b : ℕ) (known : Option ℕ) (u : FPoint) (k : ℕ) → from < f.values → to < f.values
      → PartsAt s.text s.all s.labels a (plains (checked_code known from to)) b → At s f a known u k
      → Arrives s f b None (point u.words (tell (flat.Tell.Move (u.words from) (u.words to)) (spend 3 u.world))) k u.world.time
  checked_runs from to a b known u k lf lt parts at =
      let one = plains_split s (fetch known from) (load 6 to ∷ Add 0 5 6 ∷ []) a b parts in
      let rest = one.2 in
      let front = plains_join s (fetch known from) (load 6 to ∷ []) a one.0 rest.0 one.1 (rest.0, rest.1, refl) in
      let got = both laws s scene f room from to 3 a rest.0 known u k lf lt (omega arith) front at in
      let last = rest.2 in
      let w = point u.words (spend 3 u.world) in
      let done = moves_on from to rest.0 last.0 w (k + got.count) got.six last.1 (omega (arith, at.soon, got.few)) got.there in
      record {
        count = k + got.count + 1;
        later = omega arith;
        within = omega (arith, got.few);
        there = subst (λ p. At s f p None (point u.words (tell (flat.Tell.Move (u.words from) (u.words to)) (spend 3 u.world))) (k + got.count + 1)) (sym last.2) done;
      }
