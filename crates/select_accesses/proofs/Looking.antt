-- How a machine follows a look into the size table.
use Rattle.std.proofs.Common.{◌≡◌, ◌≢◌, ℕ, ◌+◌, ◌-◌, ◌%◌, ◌^◌, ◌<◌, ◌≤◌, false, List, [], ◌∷◌, ◌++◌, Option, Some, None, refl, sym, ap, ◌∙◌, subst, arith}
use Rattle.std.specs.Prelude.{nat_lt, slice_index}
use Rattle.std.proofs.lemmas.Bool.{lt-ltb, le-ltb, lt-leb, eq-eqb}
use Rattle.std.proofs.lemmas.List.{get_or-set_same, get_or-set_other}
use Rattle.bb_words.specs.Numbers.{sum}
use Rattle.bb_watch.specs.declared.event.Event.{Event}
use Rattle.bb_watch.specs.declared.event.Event.TheVariants.{Access}
use Rattle.size_table.specs.Table.{byte_of}
use Rattle.size_table.specs.declared.memory_map.TheConstants.{TABLE_START}
use Rattle.flat_code.specs.World.{put, FPoint, point, spend, choose, Ending}
use Rattle.flat_code.specs.Run.{goes, ends}
use Rattle.rv_asm.specs.declared.parts.Part.TheVariants.{Plain}
use Rattle.rv_asm.specs.Runs.{PartAt, PartsAt, gone}
use Rattle.rv_code.specs.declared.instr.Instr.TheVariants.{Add, Lbu}
use Rattle.rv_machine.specs.State.{Core, register_of, gives}
use Rattle.rv_machine.specs.Instruction.{Goes, access_trap, unless_trap, effect}
use Rattle.rv_machine.specs.Machine.{step}
use Rattle.rv_selected.specs.Registers.{store}
use Rattle.rv_selected.specs.Steps.{plains, fetch, look_code, looked_code}
use Rattle.select_scope.specs.Loaded.{Loaded, IsLoaded, after, Frame, HasRoom, HoldsFrame, Agrees, At}
use Rattle.select_straight.proofs.Straight.{step_acts}
use Rattle.select_scope.proofs.Agree.{Laws, AreUnnoticed, itself, agrees_gone}
use Rattle.select_scope.proofs.Reach.{Around, Comes}
use Rattle.select_scope.proofs.Moves.{apart, one_step, frame_moves, stands_at, row}
use Rattle.select_scope.proofs.Pieces.{is_set, plains_split}
use Rattle.select_steps.proofs.Steps.{fetches}
use Rattle.select_accesses.proofs.Loading.{keeps_on}
use Rattle.select_scope.proofs.Tables.{table_byte}

-- a byte of the table is read
fits_table : (at : ℕ) → 0x20_0000 ≤ at → at < 0x40_0000 → access_trap at 1 ≡ None
fits_table at low high =
    rw (le-ltb at 4096 (omega (arith, low)), lt-leb (2 ^ 31) at (omega (arith, high)), lt-leb 33554432 at (omega (arith, high)), le-ltb at 2097152 (omega (arith, low)), eq-eqb (at % 1) 0 (omega arith)) refl

-- flat code does not tell that
look_unnoticed : (pc at : ℕ) → 0x20_0000 ≤ at → at < 0x40_0000 → AreUnnoticed (Access pc at 1 false 31 ∷ [])
look_unnoticed pc at low high = record {
  none = refl;
  safe = λ live ever. ((λ two. absurd (apart 31 2 refl two), λ other. (refl, refl, low, high)), tt);
  stay = λ places. refl;
}

module _ (laws : Laws) (s : Loaded) (scene : IsLoaded s) (f : Frame) (room : HasRoom f) where
  abbrev core_at : ℕ → Core
  core_at k = (after s k).machine.core

  -- the byte itself, at a place in x31
  record Looked (slot b : ℕ) (u : FPoint) (k : ℕ) : Type 0 where
    there : At s f b None u (k + 1)
    five : register_of (core_at (k + 1)) 5 ≡ byte_of 4 u.world.live slot

  looks_on : (slot a b : ℕ) (known : Option ℕ) (u : FPoint) (k : ℕ) → slot < 2 ^ 21 → register_of (core_at k) 31 ≡ TABLE_START + slot → PartAt s.text s.all s.labels a (Plain (Lbu 5 31 0)) b
      → k + 1 ≤ u.world.time → At s f a known u k → Looked slot b u k
  looks_on slot a b known u k lt is part soon at =
      let now = after s k in
      let c = core_at k in
      let place = sum (register_of c 31) 0 in
      let address : place ≡ TABLE_START + slot = ap (λ x. sum x 0) is ∙ omega (arith, lt) in
      let value = slice_index c.memory place in
      let d = gives 5 value c in
      let event : Event = Access c.pc place 1 false 31 in
      let low : 0x20_0000 ≤ place = omega (arith, address) in
      let high : place < 0x40_0000 = omega (arith, address, lt) in
      let goes_so : effect (Lbu 5 31 0) c ≡ Goes d = ap (λ o. unless_trap o d) (fits_table place low high) in
      let comes : step now ≡ gone (event ∷ []) d now = step_acts now (Goes d) at.at.running (part.0.step c at.at.core ∙ goes_so) ∙ ap (λ (es : List Event). gone es d now) (part.0.events c at.at.core) in
      let same : after s (k + 1) ≡ gone (event ∷ []) d now = sym (laws.steps_add k 1 s.start) ∙ one_step now ∙ comes in
      let other : (r : ℕ) → r ≢ 5 → register_of d r ≡ register_of c r = λ r ne. get_or-set_other c.registers 5 r value 0 ne in
      let agrees = agrees_gone laws s f u.world now d (event ∷ []) room.high (look_unnoticed c.pc place low high) (λ q le. refl) (other 8 (apart 8 5 refl)) (other 26 (apart 26 5 refl)) at.agrees in
      record {
        there = record {
          at = stands_at laws s scene f room (k + 1) b (ap (λ y. y.machine.core.pc) same ∙ ap (λ y. y + 4) at.at.core.here ∙ sym part.1) (ap (λ y. y.machine.ending) same ∙ at.at.running);
          frame = subst (λ y. HoldsFrame f None u.words y.machine.core) (sym same) (frame_moves f known u.words c d refl (other 0 (apart 0 5 refl)) (other 2 (apart 2 5 refl)) at.frame);
          agrees = subst (Agrees s f u.world) (sym same) agrees;
          soon = soon;
          kept = at.kept;
        };
        five = ap (λ y. register_of y.machine.core 5) same ∙ get_or-set_same c.registers 5 value 0 (omega (arith, (scene.form k).registers))
            ∙ ap (slice_index c.memory) address ∙ table_byte s scene f u.world k slot at.agrees lt;
      }

  pub look_runs : (to slot : ℕ) (r : Around) (q a b : ℕ) (known : Option ℕ) (u : FPoint) (k : ℕ) → to < f.values → slot < f.values → u.words slot < 2 ^ 21
      → PartsAt s.text s.all s.labels a (plains (looked_code known to slot)) b → At s f a known u k
      → Comes s f r b (Some to) q k u.world.time
      (choose (nat_lt (u.words slot) (2 ^ (25 - 4))) (λ t. goes (put to (byte_of 4 t.world.live (t.words slot)) t)) (ends Ending.Cut) (point u.words (spend 4 u.world)))
  look_runs to slot r q a b known u k lt ls small parts at =
      let last = plains_split s (fetch known slot ++ look_code 5 5) (store 5 to ∷ []) a b parts in
      let two = plains_split s (fetch known slot) (look_code 5 5) a last.0 last.1 in
      let w = spend 4 u.world in
      let got = fetches laws s scene f room a two.0 known slot 4 u k ls (omega arith) two.1 at in
      let stands = got.there.frame.stands in
      let h = two.2 in
      let j = k + got.count in
      let added = row laws s scene f room (Add 31 26 5 ∷ []) two.0 h.0 (Some slot) (Some slot) (point u.words w) u.words w j
      ((is_set 31 (omega arith) (omega arith), omega arith, omega arith), tt) (h.0, h.1, refl) (itself w) (omega (arith, at.soon, got.few))
      (record { cells = stands.cells; five = stands.five; zero = stands.zero }) (record { eight = refl; table = refl; behind = refl }) got.there in
      let five : register_of (core_at j) 5 ≡ u.words slot = stands.five in
      let table = got.there.agrees.table in
      let place : register_of (core_at (j + 1)) 31 ≡ TABLE_START + u.words slot = added.registers 31 (omega arith) ∙ omega (arith, five, table, small) in
      let h2 = h.2 in
      let looked = looks_on (u.words slot) h.0 h2.0 (Some slot) (point u.words w) (j + 1) small place h2.1 (omega (arith, at.soon, got.few)) added.there in
      let there = subst (λ p. At s f p None (point u.words w) (j + 1 + 1)) (sym h2.2) looked.there in
      subst (λ t. Comes s f r b (Some to) q k u.world.time (choose t (λ t. goes (put to (byte_of 4 t.world.live (t.words slot)) t)) (ends Ending.Cut) (point u.words w)))
      (sym (lt-ltb (u.words slot) (2 ^ 21) small)) (record {
        count = j + 1 + 1 + 1;
        later = omega arith;
        within = omega (arith, got.few);
        there = keeps_on laws s scene f room to (byte_of 4 u.world.live (u.words slot)) last.0 b (point u.words w) (j + 1 + 1) lt looked.five (omega (arith, at.soon, got.few)) last.2 there;
      })
