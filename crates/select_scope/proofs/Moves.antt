-- How a machine goes on in agreement with flat code: through straight code, by jumps and by branches.
use Rattle.std.proofs.Common.{◌≡◌, ◌≢◌, ◌==◌, ℕ, ◌+◌, ◌*◌, ◌%◌, ◌^◌, ◌<◌, ◌≤◌, Bool, true, false, List, [], ◌⊎◌, inl, inr, length, Option, Some, None, refl, sym, ap, ◌∙◌, subst, arith}
use Rattle.std.specs.Prelude.{slice_index, if◌then◌else◌}
use Rattle.std.proofs.lemmas.List.{get_or-set_other}
use Rattle.std.proofs.lemmas.Bool.{eq-eqb, cases_lt}
use Rattle.std.proofs.Math.ListN.{get_or-eq_default}
use Rattle.std.proofs.Math.Dec.{lit<}
use Rattle.bb_watch.specs.declared.event.Event.{Event}
use Rattle.size_table.specs.Memory.{word_at}
use Rattle.flat_code.specs.World.{Words, FWorld, FPoint, point}
use Rattle.rv_code.specs.declared.instr.Instr.{Instr}
use Rattle.rv_machine.specs.State.{Core, register_of, set_register}
use Rattle.rv_machine.specs.Environment.{World}
use Rattle.rv_machine.specs.Formed.{IsCore}
use Rattle.rv_machine.specs.Machine.{step, steps}
use Rattle.rv_asm.specs.declared.parts.BranchOp.{BranchOp}
use Rattle.rv_asm.specs.declared.parts.Part.TheVariants.{Jump, Branch}
use Rattle.rv_asm.specs.Runs.{IsAt, PartAt, PartsAt, Takes, Branches, is_taken, at_place, gone}
use Rattle.rv_selected.specs.Registers.{cell}
use Rattle.rv_selected.specs.Steps.{plains}
use Rattle.rv_selected.specs.Straight.{Held, does_all, AreStraight}
use Rattle.rv_selected.specs.Follows.{IsKnown, Stands, KeepsRegisters}
use Rattle.select_scope.specs.Frame.{IsFrameAt, HoldsAt}
use Rattle.select_scope.specs.Loaded.{Loaded, IsLoaded, after, Frame, HasRoom, held_of, HoldsFrame, Agrees, At}
use Rattle.select_scope.proofs.Agree.{Laws, AreUnnoticed, unnoticed_none, frame_unnoticed, IsLater, kept_later, agrees_later, agrees_gone}

-- ---- Words

-- a byte of memory, or 0 past its end
byte_of : (c : Core) (at : ℕ) → IsCore c → slice_index c.memory at < 256
byte_of c at form = by_cases (cases_lt at (length c.memory))
  where
    by_cases : (at < length c.memory) ⊎ (length c.memory ≤ at) → slice_index c.memory at < 256
    by_cases (inl lt) = form.bytes at 0 lt
    by_cases (inr le) = subst (λ (n : ℕ). n < 256) (sym (get_or-eq_default c.memory 0 le)) (lit< tt)

pub word_is_small : (c : Core) (at : ℕ) → IsCore c → word_at c.memory at < 2 ^ 32
word_is_small c at form =
    let a = byte_of c at form in
    let b = byte_of c (at + 1) form in
    let d = byte_of c (at + 2) form in
    let e = byte_of c (at + 3) form in
    omega (arith, a, b, d, e)

-- numbers that a test tells apart
pub apart : (a b : ℕ) → (a == b) ≡ false → a ≢ b
apart a b test = λ is. absurd (let q : true ≡ false = sym (eq-eqb a b is) ∙ test in cc)

-- a value's offset in the frame
pub cell_is : (v : ℕ) → v < 256 → cell v ≡ 4 * v
cell_is v lt = omega (arith, lt)

pub one_step : (w : World) → steps 1 w ≡ step w
unfolding steps
one_step w = refl

-- the place where a machine of a scene stands is a multiple of 4
pub place_aligned : (s : Loaded) → IsLoaded s → (a k : ℕ) → IsAt s.text a (after s k) → a % 4 ≡ 0
place_aligned s scene a k at = ap (λ x. x % 4) (sym at.core.here) ∙ scene.aligned k

-- so is the place behind a jump
pub behind_jump : (s : Loaded) (a b rd l : ℕ) → a % 4 ≡ 0 → PartAt s.text s.all s.labels a (Jump rd l) b → (b % 4 ≡ 0) × (4 ≤ b)
behind_jump s a b rd l even part = (omega (arith, even, part.1.is), omega (arith, part.1.some, part.1.is))

-- ---- Another core with the same frame

-- The frame is held by another core with the same bytes and the same x0 and x2.
pub frame_moves : (f : Frame) (known : Option ℕ) (words : Words) (c d : Core) → d.memory ≡ c.memory → register_of d 0 ≡ register_of c 0 → register_of d 2 ≡ register_of c 2
    → HoldsFrame f known words c → HoldsFrame f None words d
frame_moves f known words c d memory none base h = record {
  base = base ∙ h.base;
  stands = record {
    cells = λ v lt. ap (λ m. word_at m (f.sp + cell v)) memory ∙ h.stands.cells v lt;
    five = tt;
    zero = none ∙ h.stands.zero;
  };
  behind = ap (λ m. word_at m (f.sp + 4 * f.values)) memory ∙ h.behind;
}

scratch_other : (c : Core) (x r : ℕ) → r ≢ 5 → register_of (set_register 5 x c) r ≡ register_of c r
scratch_other c x r ne = get_or-set_other c.registers 5 r x 0 ne

-- ---- Later

pub at_later : (s : Loaded) (f : Frame) (b : ℕ) (known : Option ℕ) (u : FPoint) (w : FWorld) (k : ℕ) → IsLater u.world w → At s f b known u k → At s f b known (point u.words w) k
at_later s f b known u w k l at = record {
  at = at.at;
  frame = at.frame;
  agrees = agrees_later s f u.world w (after s k) l at.agrees;
  soon = omega (arith, at.soon, l.time);
  kept = kept_later s u.world w l at.kept;
}

module _ (laws : Laws) (s : Loaded) (scene : IsLoaded s) (f : Frame) (room : HasRoom f) where
  -- the machine stands where its program counter does
  pub stands_at : (n place : ℕ) → (after s n).machine.core.pc ≡ place → (after s n).machine.ending ≡ None → IsAt s.text place (after s n)
  stands_at n place here running = record { core = record { here = here; stands = scene.stands n; form = scene.form n }; running = running }

  -- ---- Jumps

  -- at another place, with the same bytes and the same registers but x5
  pub goes_to : (a b : ℕ) (known : Option ℕ) (u : FPoint) (k count : ℕ) (events : List Event) (d : Core) → AreUnnoticed events → k + count ≤ u.world.time
      → d.pc ≡ b → d.memory ≡ (after s k).machine.core.memory → ((r : ℕ) → r ≢ 5 → register_of d r ≡ register_of (after s k).machine.core r)
      → steps count (after s k) ≡ gone events d (after s k) → At s f a known u k → At s f b None u (k + count)
  goes_to a b known u k count events d quiet soon here memory registers comes at =
      let v = after s k in
      let same : after s (k + count) ≡ gone events d v = sym (laws.steps_add k count s.start) ∙ comes in
      record {
        at = stands_at (k + count) b (ap (λ x. x.machine.core.pc) same ∙ here) (ap (λ x. x.machine.ending) same ∙ at.at.running);
        frame = subst (λ x. HoldsFrame f None u.words x.machine.core) (sym same) (frame_moves f known u.words v.machine.core d memory (registers 0 (apart 0 5 refl)) (registers 2 (apart 2 5 refl)) at.frame);
        agrees = subst (Agrees s f u.world) (sym same) (agrees_gone laws s f u.world v d events room.high quiet (λ at low. ap (λ m. slice_index m at) memory)
            (registers 8 (apart 8 5 refl)) (registers 26 (apart 26 5 refl)) at.agrees);
        soon = soon;
        kept = at.kept;
      }

  pub record Moved (place : ℕ) (u : FPoint) (k most : ℕ) : Type 0 where
    pub count : ℕ
    pub some : 1 ≤ count
    pub few : count ≤ most
    pub there : At s f place None u (k + count)
    pub registers : (r : ℕ) → r ≢ 5 → register_of (after s (k + count)).machine.core r ≡ register_of (after s k).machine.core r

  -- what takes a while to another place
  takes_to : (most a b : ℕ) (known : Option ℕ) (u : FPoint) (k : ℕ) (events : List Event) → AreUnnoticed events → k + most ≤ u.world.time
      → Takes most (after s k) b events (after s k).machine.core → At s f a known u k → Moved b u k most
  takes_to most a b known u k events quiet soon go at = record {
    count = go.count;
    some = go.some;
    few = go.few;
    there = goes_to a b known u k go.count events (at_place b (set_register 5 go.scratch (after s k).machine.core)) quiet (omega (arith, soon, go.few)) refl refl
        (λ r ne. scratch_other (after s k).machine.core go.scratch r ne) go.comes at;
    registers = λ r ne. ap (λ x. register_of x.machine.core r) (sym (laws.steps_add k go.count s.start) ∙ go.comes) ∙ scratch_other (after s k).machine.core go.scratch r ne;
  }

  pub jumps_to : (l a b : ℕ) (known : Option ℕ) (u : FPoint) (k : ℕ) → PartAt s.text s.all s.labels a (Jump 0 l) b → k + 2 ≤ u.world.time
      → At s f a known u k → Moved (s.labels l) u k 2
  jumps_to l a b known u k part soon at = takes_to 2 a (s.labels l) known u k [] unnoticed_none soon (part.0 (after s k) at.at) at

  -- a branch on x5, which holds a value, and x0
  pub branches_to : (op : BranchOp) (l a b v : ℕ) (u : FPoint) (k : ℕ) → PartAt s.text s.all s.labels a (Branch op 5 0 l) b → k + 3 ≤ u.world.time
      → At s f a (Some v) u k → Moved (if is_taken op (u.words v) 0 then s.labels l else b) u k 3
  branches_to op l a b v u k part soon at =
      by_test (is_taken op (u.words v) 0) (subst (λ t. Branches t (after s k) (s.labels l) b) (ap (λ x. is_taken op x (register_of c 0)) at.frame.stands.five ∙ ap (is_taken op (u.words v)) at.frame.stands.zero) (part.0 (after s k) at.at))
    where
      c : Core
      c = (after s k).machine.core

      by_test : (t : Bool) → Branches t (after s k) (s.labels l) b → Moved (if t then s.labels l else b) u k 3
      by_test true go = takes_to 3 a (s.labels l) (Some v) u k [] unnoticed_none soon go at
      by_test false go = record {
        count = 1;
        some = omega arith;
        few = omega arith;
        there = goes_to a b (Some v) u k 1 [] (at_place b c) unnoticed_none (omega (arith, soon)) refl refl (λ r ne. refl) (one_step (after s k) ∙ go) at;
        registers = λ r ne. ap (λ x. register_of x.machine.core r) (sym (laws.steps_add k 1 s.start) ∙ one_step (after s k) ∙ go);
      }

  -- ---- Straight code

  frame_at : IsFrameAt f.sp (f.values + 1)
  frame_at = record { low = omega (arith, room.low); high = room.high; aligned = room.aligned }

  known_moves : (next : Option ℕ) (words : Words) (g h : Held) → g.register 5 ≡ h.register 5 → IsKnown next words h → IsKnown next words g
  known_moves None words g h e n = tt
  known_moves (Some v) words g h e n = e ∙ n

  pub behind_apart : (v : ℕ) → v < f.values → 4 * f.values ≢ cell v
  behind_apart v lt = λ e. absurd (let q : f.values < f.values = omega (arith, e, cell_is v (omega (arith, lt, room.few)), lt) in omega (arith, q))

  -- what straight code leaves as it is: the stack number, where the table is, and the place to return to
  pub record Leaves (old new : Held) : Type 0 where
    pub eight : new.register 8 ≡ old.register 8
    pub table : new.register 26 ≡ old.register 26
    pub behind : new.word (4 * f.values) ≡ old.word (4 * f.values)

  pub leaves : (old new : Held) → KeepsRegisters f.values old new → Leaves old new
  leaves old new keeps = record {
    eight = keeps.registers 8 (apart 8 5 refl) (apart 8 6 refl);
    table = keeps.registers 26 (apart 26 5 refl) (apart 26 6 refl);
    behind = keeps.others (4 * f.values) behind_apart;
  }

  abbrev pub held : ℕ → Held
  held k = held_of f.sp (after s k).machine.core

  -- after straight code: the point, and the registers
  pub record Done (code : List Instr) (b : ℕ) (next : Option ℕ) (words : Words) (w : FWorld) (k : ℕ) : Type 0 where
    pub there : At s f b next (point words w) (k + length code)
    pub registers : (r : ℕ) → r < 32 → register_of (after s (k + length code)).machine.core r ≡ (does_all code (held k)).register r

  pub row : (code : List Instr) (a b : ℕ) (known next : Option ℕ) (u : FPoint) (words : Words) (w : FWorld) (k : ℕ)
      → AreStraight (f.values + 1) code → PartsAt s.text s.all s.labels a (plains code) b → IsLater u.world w → k + length code ≤ w.time
      → Stands f.values next words (does_all code (held k)) → Leaves (held k) (does_all code (held k))
      → At s f a known u k → Done code b next words w k
  row code a b known next u words w k straight parts later soon stands stay at =
      let v = after s k in
      let h = held k in
      let g = does_all code h in
      let holds : HoldsAt f.sp (f.values + 1) h v.machine.core = record { registers = λ r lt. refl; frame = λ n lt. refl; base = at.frame.base } in
      let did = laws.straight s.text s.all s.labels a b f.sp (f.values + 1) code h v scene.room frame_at parts at.at holds straight in
      let d = did.core in
      let same : after s (k + length code) ≡ gone did.events d v = sym (laws.steps_add k (length code) s.start) ∙ did.comes in
      let register : (r : ℕ) → r < 32 → register_of d r ≡ g.register r = did.holds.registers in
      let frame : HoldsFrame f next words d = record {
        base = register 2 (omega arith) ∙ did.holds.base;
        stands = record {
          cells = λ n lt.
              ap (λ o. word_at d.memory (f.sp + o)) (cell_is n (omega (arith, lt, room.few))) ∙ did.holds.frame n (omega (arith, lt))
              ∙ ap g.word (sym (cell_is n (omega (arith, lt, room.few)))) ∙ stands.cells n lt;
          five = known_moves next words (held_of f.sp d) g (register 5 (omega arith)) stands.five;
          zero = register 0 (omega arith) ∙ stands.zero;
        };
        behind = did.holds.frame f.values (omega arith) ∙ stay.behind ∙ at.frame.behind;
      } in
      record {
        there = record {
          at = stands_at (k + length code) b (ap (λ x. x.machine.core.pc) same ∙ did.place.here) (ap (λ x. x.machine.ending) same ∙ at.at.running);
          frame = subst (λ x. HoldsFrame f next words x.machine.core) (sym same) frame;
          agrees = subst (Agrees s f w) (sym same) (agrees_gone laws s f w v d did.events room.high (frame_unnoticed f.sp (f.values + 1) frame_at did.events did.each)
              (λ q low. did.beside q (inr low)) (register 8 (omega arith) ∙ stay.eight) (register 26 (omega arith) ∙ stay.table)
              (agrees_later s f u.world w v later at.agrees));
          soon = soon;
          kept = kept_later s u.world w later at.kept;
        };
        registers = λ r lt. ap (λ x. register_of x.machine.core r) same ∙ register r lt;
      }
