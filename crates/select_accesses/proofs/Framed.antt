-- How a machine follows the step that takes an address in the frame.
use Rattle.std.proofs.Common.{◌≡◌, ℕ, ◌+◌, ◌*◌, ◌^◌, ◌<◌, ◌≤◌, Bool, true, false, if◌then◌else◌, [], ◌∷◌, ◌++◌, length, Option, Some, None, refl, sym, ap, ◌∙◌, subst, arith}
use Rattle.std.specs.Prelude.{nat_lt}
use Rattle.std.proofs.lemmas.Bool.{lt-ltb}
use Rattle.flat_code.specs.World.{with_word, put, FPoint, point, spend, choose, Ending}
use Rattle.flat_code.specs.Run.{goes, ends}
use Rattle.rv_asm.specs.Runs.{PartsAt}
use Rattle.rv_code.specs.declared.instr.Instr.TheVariants.{Addi, Add}
use Rattle.rv_machine.specs.State.{Core, register_of}
use Rattle.rv_selected.specs.Registers.{cell, store, constant, is_short}
use Rattle.rv_selected.specs.Steps.{plains, frame_code}
use Rattle.select_scope.specs.Loaded.{Loaded, IsLoaded, after, Frame, HasRoom, At}
use Rattle.select_scope.proofs.Agree.{Laws, spent, itself}
use Rattle.select_scope.proofs.Reach.{Arrives, Around, Comes, forget}
use Rattle.select_scope.proofs.Moves.{apart, at_later, held, row}
use Rattle.select_scope.proofs.Pieces.{is_set, plains_split, plains_join}
use Rattle.select_straight.proofs.Raw.{constant_gives, constant_straight_at}
use Rattle.select_accesses.proofs.Loading.{keeps_on}

module _ (laws : Laws) (s : Loaded) (scene : IsLoaded s) (f : Frame) (room : HasRoom f) where
  abbrev core_at : ℕ → Core
  core_at k = (after s k).machine.core

  -- the place in the frame stands in x5
  record Placed (offset b most : ℕ) (u : FPoint) (k : ℕ) : Type 0 where
    count : ℕ
    few : count ≤ most
    there : At s f b None u (k + count)
    five : register_of (core_at (k + count)) 5 ≡ u.world.stack + offset

  -- by one instruction, from x8 and an offset or x8 and x5
  short_place : (offset a b : ℕ) (u : FPoint) (k : ℕ) → offset < 2 ^ 31 → k + 1 ≤ u.world.time → PartsAt s.text s.all s.labels a (plains (Addi 5 8 offset ∷ [])) b → At s f a None u k → Placed offset b 1 u k
  short_place offset a b u k small soon parts at =
      let stands = at.frame.stands in
      let stack = at.agrees.stack in
      let low = at.agrees.settled.stack in
      let done = row laws s scene f room (Addi 5 8 offset ∷ []) a b None None u u.words u.world k ((is_set 5 (omega arith) (omega arith), omega arith), tt) parts
      (itself u.world) soon
      (record { cells = stands.cells; five = tt; zero = stands.zero }) (record { eight = refl; table = refl; behind = refl }) at in
      record { count = 1; few = omega arith; there = done.there; five = done.registers 5 (omega arith) ∙ omega (arith, stack, low, small) }

  long_place : (offset a b : ℕ) (u : FPoint) (k : ℕ) → offset < 2 ^ 31 → k + 3 ≤ u.world.time → PartsAt s.text s.all s.labels a (plains (constant 5 offset ++ Add 5 8 5 ∷ [])) b → At s f a None u k → Placed offset b 3 u k
  long_place offset a b u k small soon parts at =
      let two = plains_split s (constant 5 offset) (Add 5 8 5 ∷ []) a b parts in
      let h = held laws s scene f room k in
      let code = constant 5 offset in
      let given = constant_gives 5 offset h (apart 5 0 refl) (omega (arith, small)) at.frame.stands.zero in
      let straight = constant_straight_at (f.values + 1) 5 offset (omega arith) (omega arith) (omega (arith, small)) in
      let short = straight.1 in
      let first = row laws s scene f room code a two.0 None None u u.words u.world k straight.0 two.1 (itself u.world) (omega (arith, soon, short))
      (record { cells = λ v lv. ap (λ w. w (cell v)) given.word ∙ at.frame.stands.cells v lv; five = tt; zero = given.others 0 (apart 0 5 refl) ∙ at.frame.stands.zero })
      (record { eight = given.others 8 (apart 8 5 refl); table = given.others 26 (apart 26 5 refl); behind = ap (λ w. w (4 * f.values)) given.word }) at in
      let j = k + length code in
      let there = first.there in
      let five : register_of (core_at j) 5 ≡ offset = first.registers 5 (omega arith) ∙ given.is in
      let stack = there.agrees.stack in
      let low = there.agrees.settled.stack in
      let done = row laws s scene f room (Add 5 8 5 ∷ []) two.0 b None None u u.words u.world j ((is_set 5 (omega arith) (omega arith), omega arith, omega arith), tt) two.2 (itself u.world) (omega (arith, soon, short))
      (record { cells = there.frame.stands.cells; five = tt; zero = there.frame.stands.zero }) (record { eight = refl; table = refl; behind = refl }) there in
      let e : j + 1 ≡ k + (length code + 1) = omega arith in
      record {
        count = length code + 1;
        few = omega (arith, short);
        there = subst (λ n. At s f b None u n) e done.there;
        five = ap (λ n. register_of (core_at n) 5) (sym e) ∙ done.registers 5 (omega arith) ∙ omega (arith, stack, low, five, small);
      }

  pub frame_runs : (to offset frame : ℕ) (r : Around) (q a b : ℕ) (known : Option ℕ) (u : FPoint) (k : ℕ) → to < f.values → offset < 2 ^ 31 → offset < frame
      → PartsAt s.text s.all s.labels a (plains (frame_code to offset)) b → At s f a known u k
      → Comes s f r b (Some to) q k u.world.time (choose (nat_lt offset frame) (λ t. goes (put to (t.world.stack + offset) t)) (ends Ending.Cut) (point u.words (spend 5 u.world)))
  frame_runs to offset frame r q a b known u k lt small inside parts at =
      subst (λ t. Comes s f r b (Some to) q k u.world.time (choose t (λ t. goes (put to (t.world.stack + offset) t)) (ends Ending.Cut) (point u.words (spend 5 u.world)))) (sym (lt-ltb offset frame inside))
      (by_test (is_short offset) parts)
    where
      w : FPoint
      w = point u.words (spend 5 u.world)

      start : At s f a None (point u.words (spend 5 u.world)) k
      start = at_later s f a None u (spend 5 u.world) k (spent 5 u.world) (forget s f a known u k at)

      placed : (m : ℕ) → Placed offset m 3 (point u.words (spend 5 u.world)) k → PartsAt s.text s.all s.labels m (plains (store 5 to ∷ [])) b
          → Arrives s f b (Some to) (point (with_word u.words to (u.world.stack + offset)) (spend 5 u.world)) k u.world.time
      placed m p rest = record {
        count = k + p.count + 1;
        later = omega arith;
        within = omega (arith, p.few);
        there = keeps_on laws s scene f room to (u.world.stack + offset) m b (point u.words (spend 5 u.world)) (k + p.count) lt p.five (omega (arith, at.soon, p.few)) rest p.there;
      }

      by_test : (short : Bool) → PartsAt s.text s.all s.labels a (plains (if short then Addi 5 8 offset ∷ store 5 to ∷ [] else constant 5 offset ++ Add 5 8 5 ∷ store 5 to ∷ [])) b
          → Arrives s f b (Some to) (point (with_word u.words to (u.world.stack + offset)) (spend 5 u.world)) k u.world.time
      by_test true h =
          let p = short_place offset a h.0 (point u.words (spend 5 u.world)) k small (omega (arith, at.soon)) (h.0, h.1, refl) start in
          placed h.0 (record { count = p.count; few = let x = p.few in omega (arith, x); there = p.there; five = p.five }) h.2
      by_test false h =
          let two = plains_split s (constant 5 offset) (Add 5 8 5 ∷ store 5 to ∷ []) a b h in
          let rest = two.2 in
          let front = plains_join s (constant 5 offset) (Add 5 8 5 ∷ []) a two.0 rest.0 two.1 (rest.0, rest.1, refl) in
          placed rest.0 (long_place offset a rest.0 (point u.words (spend 5 u.world)) k small (omega (arith, at.soon)) front start) rest.2
