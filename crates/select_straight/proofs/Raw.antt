-- Straight code wherever x2 stands, also while a control frame is pushed; and changes of x2.
use Rattle.std.proofs.Common.{◌≡◌, ◌≢◌, ◌==◌, ℕ, zero, suc, ◌+◌, ◌-◌, ◌*◌, ◌%◌, ◌^◌, ◌<◌, ◌≤◌, ◌⊎◌, inl, inr, Bool, true, false, if◌then◌else◌, List, [], ◌∷◌, length, None, refl, sym, ap, ◌∙◌, subst, arith}
use Rattle.std.specs.Prelude.{slice_index}
use Rattle.std.proofs.lemmas.List.{get_or-set_same, get_or-set_other}
use Rattle.std.proofs.lemmas.Bool.{lt-ltb, le-ltb, cases_lt, cases_eq}
use Rattle.bb_words.specs.Numbers.{sum}
use Rattle.size_table.specs.Memory.{word_at}
use Rattle.size_table.specs.declared.memory_map.TheConstants.{GLOBALS_START}
use Rattle.flat_code.specs.World.{FWorld}
use Rattle.rv_asm.specs.declared.parts.BranchOp.{BranchOp}
use Rattle.rv_asm.specs.declared.parts.Part.TheVariants.{Plain, Branch}
use Rattle.rv_asm.specs.Text.{upper_part, lower_part}
use Rattle.rv_asm.specs.Runs.{IsCoreAt, IsAt, PartAt, PartsAt, Branches, is_taken, at_place, gone}
use Rattle.rv_code.specs.declared.instr.Instr.{Instr}
use Rattle.rv_code.specs.declared.instr.Instr.TheVariants.{Lui, Addi}
use Rattle.rv_machine.specs.State.{Core, register_of, set_register, gives}
use Rattle.rv_machine.specs.Instruction.{Goes}
use Rattle.rv_machine.specs.Machine.{step, steps}
use Rattle.rv_selected.specs.Registers.{cell, store, constant, is_short}
use Rattle.rv_selected.specs.Selection.{zeros, parameters}
use Rattle.rv_selected.specs.Steps.{plains}
use Rattle.rv_selected.specs.Straight.{Held, changed, with_register, with_word, does_all, AreStraight}
use Rattle.bb_watch.specs.declared.event.Event.{Event}
use Rattle.select_scope.specs.Frame.{IsFrameAt, HoldsAt}
use Rattle.select_scope.specs.Loaded.{Loaded, IsLoaded, after, Frame, edge, held_of, Agrees}
use Rattle.select_straight.proofs.Straight.{step_acts}
use Rattle.select_scope.proofs.Agree.{Laws, unnoticed_none, frame_unnoticed, agrees_gone}
use Rattle.select_scope.proofs.Moves.{apart, cell_is, one_step}
use Rattle.select_scope.proofs.Pieces.{is_set, changed_here, changed_other}

-- ---- Constants

parts_sum : (n : ℕ) → n < 2 ^ 32 → sum (upper_part n) (lower_part n) ≡ n
parts_sum n lt = by_cases (cases_lt (n % 4096) 2048)
  where
    by_cases : (n % 4096 < 2048) ⊎ (2048 ≤ n % 4096) → sum (upper_part n) (lower_part n) ≡ n
    by_cases (inl small) = ap (λ t. sum (upper_part n) (if t then n % 4096 else n % 4096 + (2 ^ 32 - 2 ^ 12))) (lt-ltb (n % 4096) 2048 small) ∙ omega (arith, small, lt)
    by_cases (inr large) = ap (λ t. sum (upper_part n) (if t then n % 4096 else n % 4096 + (2 ^ 32 - 2 ^ 12))) (le-ltb (n % 4096) 2048 large) ∙ omega (arith, large, lt)

-- a register has become a word, and nothing else has changed
pub record Gives (r n : ℕ) (old new : Held) : Type 0 where
  pub is : new.register r ≡ n
  pub others : (q : ℕ) → q ≢ r → new.register q ≡ old.register q
  pub word : new.word ≡ old.word

pub constant_gives : (r n : ℕ) (h : Held) → r ≢ 0 → n < 2 ^ 32 → h.register 0 ≡ 0 → Gives r n h (does_all (constant r n) h)
constant_gives r n h some lt z = by_tests (is_short n) (n % 4096 == 0)
  where
    one : (x : ℕ) → x ≡ n → Gives r n h (with_register r x h)
    one x e = record { is = changed_here h.register r x r refl ∙ e; others = λ q ne. changed_other h.register r x q ne; word = refl }

    up : ℕ
    up = upper_part n

    low : ℕ
    low = lower_part n

    by_tests : (short whole : Bool) → Gives r n h (does_all (if short then Addi r 0 n ∷ [] else if whole then Lui r n ∷ [] else Lui r (upper_part n) ∷ Addi r r (lower_part n) ∷ []) h)
    by_tests true whole = one (sum (h.register 0) n) (let e : sum (h.register 0) n ≡ n = omega (arith, z, lt) in e)
    by_tests false true = one n refl
    by_tests false false = record {
      is = changed_here (changed h.register r up) r (sum (changed h.register r up r) low) r refl ∙ ap (λ x. sum x low) (changed_here h.register r up r refl) ∙ parts_sum n lt;
      others = λ q ne. changed_other (changed h.register r up) r (sum (changed h.register r up r) low) q ne ∙ changed_other h.register r up q ne;
      word = refl;
    }

-- its code is straight, whatever stands at x2, and has at most two instructions
pub constant_straight_at : (words r n : ℕ) → 3 ≤ r → r < 32 → n < 2 ^ 32 → AreStraight words (constant r n) × (length (constant r n) ≤ 2)
constant_straight_at words r n low high lt = by_tests (is_short n) (n % 4096 == 0)
  where
    by_tests : (short whole : Bool) → AreStraight words (if short then Addi r 0 n ∷ [] else if whole then Lui r n ∷ [] else Lui r (upper_part n) ∷ Addi r r (lower_part n) ∷ [])
        × (length (if short then Addi r 0 n ∷ [] else if whole then Lui r n ∷ [] else Lui r (upper_part n) ∷ Addi r r (lower_part n) ∷ []) ≤ 2)
    by_tests true whole = (((is_set r low high, omega arith), tt), omega arith)
    by_tests false true = (((is_set r low high, lt), tt), omega arith)
    by_tests false false = (((is_set r low high, omega arith), ((is_set r low high, high), tt)), omega arith)

module _ (laws : Laws) (s : Loaded) (scene : IsLoaded s) where
  abbrev pub core_at : ℕ → Core
  core_at k = (after s k).machine.core

  -- ---- Straight code

  -- after straight code that began after k instructions, with x2 at `sp` and so many words there
  pub record Ran (code : List Instr) (b sp words k : ℕ) : Type 0 where
    pub at : IsAt s.text b (after s (k + length code))
    pub registers : (r : ℕ) → r < 32 → register_of (core_at (k + length code)) r ≡ (does_all code (held_of sp (core_at k))).register r
    pub frame : (v : ℕ) → v < words → word_at (core_at (k + length code)).memory (sp + 4 * v) ≡ (does_all code (held_of sp (core_at k))).word (4 * v)
    pub beside : (q : ℕ) → (q < sp) ⊎ (sp + 4 * words ≤ q) → slice_index (core_at (k + length code)).memory q ≡ slice_index (core_at k).memory q
    pub agrees : (f : Frame) (w : FWorld) → edge f ≤ GLOBALS_START → sp + 4 * words ≤ edge f
        → (does_all code (held_of sp (core_at k))).register 8 ≡ register_of (core_at k) 8 → (does_all code (held_of sp (core_at k))).register 26 ≡ register_of (core_at k) 26
        → Agrees s f w (after s k) → Agrees s f w (after s (k + length code))

  pub runs_straight : (code : List Instr) (a b sp words k : ℕ) → IsFrameAt sp words → AreStraight words code → PartsAt s.text s.all s.labels a (plains code) b
      → register_of (core_at k) 2 ≡ sp → IsAt s.text a (after s k) → Ran code b sp words k
  runs_straight code a b sp words k frame straight parts base at =
      let v = after s k in
      let h = held_of sp v.machine.core in
      let holds : HoldsAt sp words h v.machine.core = record { registers = λ r lt. refl; frame = λ n lt. refl; base = base } in
      let did = laws.straight s.text s.all s.labels a b sp words code h v scene.room frame parts at holds straight in
      let same : after s (k + length code) ≡ gone did.events did.core v = sym (laws.steps_add k (length code) s.start) ∙ did.comes in
      record {
        at = record {
          core = subst (λ x. IsCoreAt s.text b x.machine.core) (sym same) did.place;
          running = ap (λ x. x.machine.ending) same ∙ at.running;
        };
        registers = λ r lt. ap (λ x. register_of x.machine.core r) same ∙ did.holds.registers r lt;
        frame = λ n lt. ap (λ x. word_at x.machine.core.memory (sp + 4 * n)) same ∙ did.holds.frame n lt;
        beside = λ q o. ap (λ x. slice_index x.machine.core.memory q) same ∙ did.beside q o;
        agrees = λ f w high within eight table a. subst (Agrees s f w) (sym same)
            (agrees_gone laws s f w v did.core did.events high (frame_unnoticed sp words frame did.events did.each) (λ q low. did.beside q (inr (omega (arith, within, low))))
            (did.holds.registers 8 (omega arith) ∙ eight) (did.holds.registers 26 (omega arith) ∙ table) a);
      }

  -- ---- Changes of x2

  pub record Shifted (b to k : ℕ) : Type 0 where
    pub at : IsAt s.text b (after s (k + 1))
    pub base : register_of (core_at (k + 1)) 2 ≡ to
    pub registers : (r : ℕ) → r ≢ 2 → register_of (core_at (k + 1)) r ≡ register_of (core_at k) r
    pub memory : (core_at (k + 1)).memory ≡ (core_at k).memory
    pub agrees : (f : Frame) (w : FWorld) → edge f ≤ GLOBALS_START → Agrees s f w (after s k) → Agrees s f w (after s (k + 1))

  pub shifts : (a b n to k : ℕ) → PartAt s.text s.all s.labels a (Plain (Addi 2 2 n)) b → sum (register_of (core_at k) 2) n ≡ to → IsAt s.text a (after s k) → Shifted b to k
  shifts a b n to k part is at =
      let v = after s k in
      let c = core_at k in
      let d = gives 2 (sum (register_of c 2) n) c in
      let comes : step v ≡ gone [] d v = step_acts v (Goes d) at.running (part.0.step c at.core) ∙ ap (λ (es : List Event). gone es d v) (part.0.events c at.core) in
      let same : after s (k + 1) ≡ gone [] d v = sym (laws.steps_add k 1 s.start) ∙ one_step v ∙ comes in
      let core : core_at (k + 1) ≡ d = ap (λ x. x.machine.core) same in
      let other : (r : ℕ) → r ≢ 2 → register_of d r ≡ register_of c r = λ r ne. get_or-set_other c.registers 2 r (sum (register_of c 2) n) 0 ne in
      record {
        at = record {
          core = record { here = ap (λ x. x.pc) core ∙ ap (λ x. x + 4) at.core.here ∙ sym part.1; stands = scene.stands (k + 1); form = scene.form (k + 1) };
          running = ap (λ x. x.machine.ending) same ∙ at.running;
        };
        base = ap (λ x. register_of x 2) core ∙ get_or-set_same c.registers 2 (sum (register_of c 2) n) 0 (omega (arith, (scene.form k).registers)) ∙ is;
        registers = λ r ne. ap (λ x. register_of x r) core ∙ other r ne;
        memory = ap (λ x. x.memory) core;
        agrees = λ f w high a. subst (Agrees s f w) (sym same) (agrees_gone laws s f w v d [] high unnoticed_none (λ q low. refl) (other 8 (apart 8 2 refl)) (other 26 (apart 26 2 refl)) a);
      }

  -- ---- Branches

  pub record Branched (place k : ℕ) : Type 0 where
    pub count : ℕ
    pub some : 1 ≤ count
    pub few : count ≤ 3
    pub at : IsAt s.text place (after s (k + count))
    pub registers : (r : ℕ) → r ≢ 5 → register_of (core_at (k + count)) r ≡ register_of (core_at k) r
    pub memory : (core_at (k + count)).memory ≡ (core_at k).memory
    pub agrees : (f : Frame) (w : FWorld) → edge f ≤ GLOBALS_START → Agrees s f w (after s k) → Agrees s f w (after s (k + count))

  -- another core with the same bytes and registers but x5, at another place
  moved : (count place k : ℕ) (d : Core) → 1 ≤ count → count ≤ 3 → d.pc ≡ place → d.memory ≡ (core_at k).memory → ((r : ℕ) → r ≢ 5 → register_of d r ≡ register_of (core_at k) r)
      → steps count (after s k) ≡ gone [] d (after s k) → (after s k).machine.ending ≡ None → Branched place k
  moved count place k d some few here memory registers comes running =
      let v = after s k in
      let same : after s (k + count) ≡ gone [] d v = sym (laws.steps_add k count s.start) ∙ comes in
      record {
        count = count;
        some = some;
        few = few;
        at = record {
          core = record { here = ap (λ x. x.machine.core.pc) same ∙ here; stands = scene.stands (k + count); form = scene.form (k + count) };
          running = ap (λ x. x.machine.ending) same ∙ running;
        };
        registers = λ r ne. ap (λ x. register_of x.machine.core r) same ∙ registers r ne;
        memory = ap (λ x. x.machine.core.memory) same ∙ memory;
        agrees = λ f w high a. subst (Agrees s f w) (sym same) (agrees_gone laws s f w v d [] high unnoticed_none (λ q low. ap (λ m. slice_index m q) memory) (registers 8 (apart 8 5 refl)) (registers 26 (apart 26 5 refl)) a);
      }

  pub branches : (op : BranchOp) (rs1 rs2 l a b k : ℕ) → PartAt s.text s.all s.labels a (Branch op rs1 rs2 l) b → IsAt s.text a (after s k)
      → Branched (if is_taken op (register_of (core_at k) rs1) (register_of (core_at k) rs2) then s.labels l else b) k
  branches op rs1 rs2 l a b k part at = by_test (is_taken op (register_of (core_at k) rs1) (register_of (core_at k) rs2)) (part.0 (after s k) at)
    where
      by_test : (t : Bool) → Branches t (after s k) (s.labels l) b → Branched (if t then s.labels l else b) k
      by_test true go = moved go.count (s.labels l) k (at_place (s.labels l) (set_register 5 go.scratch (core_at k))) go.some go.few refl refl
          (λ r ne. get_or-set_other (core_at k).registers 5 r go.scratch 0 ne) go.comes at.running
      by_test false go = moved 1 b k (at_place b (core_at k)) (omega arith) (omega arith) refl refl (λ r ne. refl) (one_step (after s k) ∙ go) at.running

-- ---- Words in a row that are stored

-- registers are stored in so many words from one on
abbrev pub fill : (register : ℕ → ℕ) → (count v : ℕ) → List Instr
fill register zero v = []
fill register (suc n) v = store (register v) v ∷ fill register n (v + 1)

pub fill_zeros : (n v : ℕ) → zeros n v ≡ fill (λ i. 0) n v
fill_zeros zero v = refl
fill_zeros (suc n) v = ap (λ l. store 0 v ∷ l) (fill_zeros n (v + 1))

pub fill_parameters : (n v : ℕ) → parameters n v ≡ fill (λ i. 18 + i) n v
fill_parameters zero v = refl
fill_parameters (suc n) v = ap (λ l. store (18 + v) v ∷ l) (fill_parameters n (v + 1))

pub fill_length : (register : ℕ → ℕ) (n v : ℕ) → length (fill register n v) ≡ n
fill_length register zero v = refl
fill_length register (suc n) v = ap suc (fill_length register n (v + 1))

pub fill_straight : (register : ℕ → ℕ) (n v words : ℕ) → v + n ≤ words → words ≤ 256 → ((i : ℕ) → i < v + n → register i < 32) → AreStraight words (fill register n v)
fill_straight register zero v words fit few small = tt
fill_straight register (suc n) v words fit few small = (
  (refl, small v (omega arith), record { number = v; few = omega (arith, fit); is = cell_is v (omega (arith, fit, few)) }),
  fill_straight register n (v + 1) words (omega (arith, fit)) few (λ i lt. small i (omega (arith, lt))),
)

pub fill_registers : (register : ℕ → ℕ) (n v : ℕ) (h : Held) → (does_all (fill register n v) h).register ≡ h.register
fill_registers register zero v h = refl
fill_registers register (suc n) v h = fill_registers register n (v + 1) (with_word (cell v) (h.register (register v)) h)

pub fill_out : (register : ℕ → ℕ) (n v i : ℕ) (h : Held) → v + n ≤ 256 → i < 256 → (i < v) ⊎ (v + n ≤ i) → (does_all (fill register n v) h).word (4 * i) ≡ h.word (4 * i)
fill_out register zero v i h few small out = refl
fill_out register (suc n) v i h few small (inl lt) =
    fill_out register n (v + 1) i (with_word (cell v) (h.register (register v)) h) (omega (arith, few)) small (inl (omega (arith, lt)))
    ∙ changed_other h.word (cell v) (h.register (register v)) (4 * i) (λ e. absurd (let q : i < i = omega (arith, e, cell_is v (omega (arith, few)), lt) in omega (arith, q)))
fill_out register (suc n) v i h few small (inr le) =
    fill_out register n (v + 1) i (with_word (cell v) (h.register (register v)) h) (omega (arith, few)) small (inr (omega (arith, le)))
    ∙ changed_other h.word (cell v) (h.register (register v)) (4 * i) (λ e. absurd (let q : i < i = omega (arith, e, cell_is v (omega (arith, few)), le) in omega (arith, q)))

pub fill_in : (register : ℕ → ℕ) (n v i : ℕ) (h : Held) → v + n ≤ 256 → v ≤ i → i < v + n → (does_all (fill register n v) h).word (4 * i) ≡ h.register (register i)
fill_in register zero v i h few low high = absurd (omega (arith, low, high))
fill_in register (suc n) v i h few low high =
    by_cases (λ ne. fill_in register n (v + 1) i (with_word (cell v) (h.register (register v)) h) (omega (arith, few)) (omega (arith, low, ne)) (omega (arith, high))) (cases_eq i v)
  where
    g : Held
    g = with_word (cell v) (h.register (register v)) h

    by_cases : ((i ≡ v → ⊥) → (does_all (fill register n (v + 1)) g).word (4 * i) ≡ h.register (register i)) → (i ≡ v) ⊎ (i ≡ v → ⊥) → (does_all (fill register n (v + 1)) g).word (4 * i) ≡ h.register (register i)
    by_cases later (inl is) =
        fill_out register n (v + 1) i g (omega (arith, few)) (omega (arith, high, few)) (inl (omega (arith, is)))
        ∙ changed_here h.word (cell v) (h.register (register v)) (4 * i) (omega (arith, is, cell_is v (omega (arith, few)))) ∙ ap (λ x. h.register (register x)) (sym is)
    by_cases later (inr ne) = later ne
