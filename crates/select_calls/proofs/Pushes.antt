-- How a control frame is pushed: the place to return to, the values that are not parameters, and the parameters.
use Rattle.std.proofs.Common.{◌≡◌, ◌≢◌, ℕ, zero, suc, ◌+◌, ◌-◌, ◌*◌, ◌/◌, ◌%◌, ◌<◌, ◌≤◌, ◌⊎◌, inl, inr, min, true, false, not, if◌then◌else◌, [], ◌∷◌, ◌++◌, length, refl, sym, ap, ◌∙◌, subst, arith}
use Rattle.std.specs.Prelude.{slice_index}
use Rattle.std.proofs.lemmas.Bool.{eq-eqb, ne_eqb, cases_lt}
use Rattle.bb_words.specs.Numbers.{sum, product}
use Rattle.size_table.specs.Memory.{word_at}
use Rattle.size_table.specs.declared.memory_map.TheConstants.{CONTROL_START, GLOBALS_START}
use Rattle.flat_code.specs.World.{FWorld}
use Rattle.rv_asm.specs.declared.parts.BranchOp.TheVariants as branch
use Rattle.rv_asm.specs.declared.parts.Part.TheVariants.{Plain, Label, Branch}
use Rattle.rv_asm.specs.Runs.{IsAt, PartAt, PartsAt, is_taken}
use Rattle.rv_code.specs.declared.instr.Instr.TheVariants.{Addi}
use Rattle.rv_machine.specs.State.{register_of}
use Rattle.rv_selected.specs.Registers.{cell, frame_bytes, negative, store}
use Rattle.rv_selected.specs.Selection.{zeros, zero_loop, zero_loop_if, parameters, parameters_code, parameters_if, frame_parts}
use Rattle.rv_selected.specs.Steps.{plains}
use Rattle.rv_selected.specs.Straight.{Held, with_word, does_all}
use Rattle.select_scope.specs.Frame.{IsFrameAt}
use Rattle.select_scope.specs.Loaded.{Loaded, IsLoaded, after, Frame, edge, held_of, Agrees}
use Rattle.select_straight.proofs.Straight.{same_word}
use Rattle.select_scope.proofs.Agree.{Laws}
use Rattle.select_scope.proofs.Moves.{apart, cell_is}
use Rattle.select_scope.proofs.Pieces.{is_set, parts_split, changed_here, changed_other}
use Rattle.select_straight.proofs.Raw.{core_at, runs_straight, shifts, Branched, branches, fill, fill_zeros, fill_parameters, fill_length, fill_straight, fill_registers, fill_out, fill_in}

-- Where a frame may lie, whatever stands in it.
pub record HasPlace (f : Frame) : Type 0 where
  pub low : CONTROL_START ≤ f.sp
  pub high : edge f ≤ GLOBALS_START
  pub aligned : f.sp % 4 ≡ 0
  pub few : f.values ≤ 255

module _ (laws : Laws) (s : Loaded) (scene : IsLoaded s) (f : Frame) (w : FWorld) (place : HasPlace f) (args : ℕ → ℕ) where
  -- After k instructions x2 is p, n words from there on are zero, and the place to return to is behind them.
  pub record Building (b p n k : ℕ) : Type 0 where
    pub at : IsAt s.text b (after s k)
    pub base : register_of (core_at laws s scene k) 2 ≡ p
    pub size : p + 4 * n + 4 ≡ edge f
    pub low : f.sp ≤ p
    pub blank : (i : ℕ) → i < n → word_at (core_at laws s scene k).memory (p + 4 * i) ≡ 0
    pub behind : word_at (core_at laws s scene k).memory (p + 4 * n) ≡ f.back
    pub given : (i : ℕ) → i < 8 → register_of (core_at laws s scene k) (18 + i) ≡ args i
    pub agrees : Agrees s f w (after s k)

  -- a word of memory beside what was written stays
  word_stays : (k j lo hi at : ℕ) → ((q : ℕ) → (q < lo) ⊎ (hi ≤ q) → slice_index (core_at laws s scene j).memory q ≡ slice_index (core_at laws s scene k).memory q) → hi ≤ at
      → word_at (core_at laws s scene j).memory at ≡ word_at (core_at laws s scene k).memory at
  word_stays k j lo hi at beside le = same_word (core_at laws s scene k).memory (core_at laws s scene j).memory at (λ q low high. beside q (inr (omega (arith, low, le))))

  frame_at : (p words : ℕ) → f.sp ≤ p → p + 4 * words ≤ edge f → p % 4 ≡ 0 → IsFrameAt p words
  frame_at p words low high aligned = record { low = omega (arith, low, place.low); high = omega (arith, high, place.high); aligned = aligned }

  -- at another place, after a branch
  branched : (a b p n k : ℕ) → Building a p n k → (go : Branched laws s scene b k) → Building b p n (k + go.count)
  branched a b p n k h go = record {
    at = go.at;
    base = go.registers 2 (apart 2 5 refl) ∙ h.base;
    size = h.size;
    low = h.low;
    blank = λ i lt. ap (λ m. word_at m (p + 4 * i)) go.memory ∙ h.blank i lt;
    behind = ap (λ m. word_at m (p + 4 * n)) go.memory ∙ h.behind;
    given = λ i lt. go.registers (18 + i) (λ e. absurd (let q : 18 ≤ 5 = omega (arith, e) in omega (arith, q))) ∙ h.given i lt;
    agrees = go.agrees f w place.high h.agrees;
  }

  -- the place to return to, and less than eight values
  pub first_push : (r a b k : ℕ) → r < 8 → r ≤ f.values → PartsAt s.text s.all s.labels a (Plain (Addi 2 2 (negative (frame_bytes r))) ∷ Plain (store 1 r) ∷ plains (zeros r 0)) b
      → IsAt s.text a (after s k) → register_of (core_at laws s scene k) 2 ≡ edge f → register_of (core_at laws s scene k) 1 ≡ f.back
      → ((i : ℕ) → i < 8 → register_of (core_at laws s scene k) (18 + i) ≡ args i) → Agrees s f w (after s k)
      → Building b (edge f - (4 * r + 4)) r (k + 1 + (1 + r))
  first_push r a b k small le parts at base from given agrees =
      let p = edge f - (4 * r + 4) in
      let high = place.high in
      let few = place.few in
      let shift = shifts laws s scene a parts.0 (negative (frame_bytes r)) p k parts.1 (ap (λ x. sum x (negative (frame_bytes r))) base ∙ omega (arith, high, small, le)) at in
      let code = store 1 r ∷ fill (λ i. 0) r 0 in
      let j = k + 1 in
      let c = core_at laws s scene j in
      let h = held_of p c in
      let g = with_first r h in
      let rest : PartsAt s.text s.all s.labels parts.0 (plains code) b = subst (λ l. PartsAt s.text s.all s.labels parts.0 (Plain (store 1 r) ∷ plains l) b) (fill_zeros r 0) parts.2 in
      let low : f.sp ≤ p = omega (arith, le) in
      let size : p + 4 * r + 4 ≡ edge f = omega (arith, le) in
      let ran = runs_straight laws s scene code parts.0 b p (r + 1) j (frame_at p (r + 1) low (omega (arith, size)) (omega (arith, place.aligned, size)))
      ((refl, omega arith, record { number = r; few = omega arith; is = cell_is r (omega (arith, small)) }), fill_straight (λ i. 0) r 0 (r + 1) (omega arith) (omega (arith, small)) (λ i lt. omega arith))
      rest shift.base shift.at in
      let count : k + 1 + (1 + r) ≡ j + length code = omega (arith, fill_length (λ i. 0) r 0) in
      let keep : (does_all code h).register ≡ h.register = fill_registers (λ i. 0) r 0 g in
      let zero : register_of c 0 ≡ 0 = (scene.form j).zero in
      subst (Building b p r) (sym count) (record {
        at = ran.at;
        base = ran.registers 2 (omega arith) ∙ ap (λ x. x 2) keep ∙ shift.base;
        size = size;
        low = low;
        blank = λ i lt. ran.frame i (omega (arith, lt)) ∙ fill_in (λ i. 0) r 0 i g (omega (arith, small)) (omega arith) (omega (arith, lt)) ∙ zero;
        behind = ran.frame r (omega arith) ∙ fill_out (λ i. 0) r 0 r g (omega (arith, small)) (omega (arith, small)) (inr (omega arith))
            ∙ changed_here h.word (cell r) (h.register 1) (4 * r) (sym (cell_is r (omega (arith, small)))) ∙ shift.registers 1 (apart 1 2 refl) ∙ from;
        given = λ i lt. ran.registers (18 + i) (omega (arith, lt)) ∙ ap (λ x. x (18 + i)) keep
            ∙ shift.registers (18 + i) (λ e. absurd (let q : 18 ≤ 2 = omega (arith, e) in omega (arith, q))) ∙ given i lt;
        agrees = ran.agrees f w place.high (omega (arith, size)) (ap (λ x. x 8) keep) (ap (λ x. x 26) keep) (shift.agrees f w place.high agrees);
      })
    where
      with_first : (r : ℕ) → Held → Held
      with_first r h = with_word (cell r) (h.register 1) h

  -- ---- Eight words in each turn

  aligned_at : (p n : ℕ) → p + 4 * n + 4 ≡ edge f → p % 4 ≡ 0
  aligned_at p n size = omega (arith, size, place.aligned)

  pub record Turned (b p n six k : ℕ) : Type 0 where
    pub there : Building b p n k
    pub limit : register_of (core_at laws s scene k) 6 ≡ six

  one_turn : (a b p n six k : ℕ) → PartsAt s.text s.all s.labels a (Plain (Addi 2 2 (negative 32)) ∷ plains (zeros 8 0)) b → f.sp + 32 ≤ p
      → Turned a p n six k → Turned b (p - 32) (n + 8) six (k + 1 + 8)
  one_turn a b p n six k parts deep turned =
      let old = turned.there in
      let p' = p - 32 in
      let high = place.high in
      let size = old.size in
      let shift = shifts laws s scene a parts.0 (negative 32) p' k parts.1 (ap (λ x. sum x (negative 32)) old.base ∙ omega (arith, deep, high, size)) old.at in
      let j = k + 1 in
      let c = core_at laws s scene j in
      let h = held_of p' c in
      let code = fill (λ i. 0) 8 0 in
      let rest : PartsAt s.text s.all s.labels parts.0 (plains code) b = subst (λ l. PartsAt s.text s.all s.labels parts.0 (plains l) b) (fill_zeros 8 0) parts.2 in
      let low : f.sp ≤ p' = omega (arith, deep) in
      let size' : p' + 4 * (n + 8) + 4 ≡ edge f = omega (arith, size, deep) in
      let ran = runs_straight laws s scene code parts.0 b p' 8 j (frame_at p' 8 low (omega (arith, size')) (aligned_at p' (n + 8) size'))
      (fill_straight (λ i. 0) 8 0 8 (omega arith) (omega arith) (λ i lt. omega arith)) rest shift.base shift.at in
      let keep : (does_all code h).register ≡ h.register = fill_registers (λ i. 0) 8 0 h in
      let zero : register_of c 0 ≡ 0 = (scene.form j).zero in
      record {
        there = record {
          at = ran.at;
          base = ran.registers 2 (omega arith) ∙ ap (λ x. x 2) keep ∙ shift.base;
          size = size';
          low = low;
          blank = λ i lt. blank p n k j old shift.memory ran.beside (omega (arith, deep)) (λ q small. ran.frame q small ∙ fill_in (λ e. 0) 8 0 q h (omega arith) (omega arith) (omega (arith, small)) ∙ zero) i lt (cases_lt i 8);
          behind = let e : p' + 4 * (n + 8) ≡ p + 4 * n = omega (arith, deep) in
              ap (word_at (core_at laws s scene (k + 1 + 8)).memory) e ∙ word_stays j (k + 1 + 8) p' (p' + 4 * 8) (p + 4 * n) ran.beside (omega (arith, deep)) ∙ ap (λ m. word_at m (p + 4 * n)) shift.memory ∙ old.behind;
          given = λ i lt. ran.registers (18 + i) (omega (arith, lt)) ∙ ap (λ x. x (18 + i)) keep
              ∙ shift.registers (18 + i) (λ e. absurd (let q : 18 ≤ 2 = omega (arith, e) in omega (arith, q))) ∙ old.given i lt;
          agrees = ran.agrees f w place.high (omega (arith, size')) (ap (λ x. x 8) keep) (ap (λ x. x 26) keep) (shift.agrees f w place.high old.agrees);
        };
        limit = ran.registers 6 (omega arith) ∙ ap (λ x. x 6) keep ∙ shift.registers 6 (apart 6 2 refl) ∙ turned.limit;
      }
    where
      blank : (p n k j : ℕ) (old : Building a p n k) → (core_at laws s scene j).memory ≡ (core_at laws s scene k).memory
          → ((q : ℕ) → (q < p - 32) ⊎ (p - 32 + 4 * 8 ≤ q) → slice_index (core_at laws s scene (k + 1 + 8)).memory q ≡ slice_index (core_at laws s scene j).memory q)
          → 32 ≤ p → ((i : ℕ) → i < 8 → word_at (core_at laws s scene (k + 1 + 8)).memory (p - 32 + 4 * i) ≡ 0) → (i : ℕ) → i < n + 8 → (i < 8) ⊎ (8 ≤ i)
          → word_at (core_at laws s scene (k + 1 + 8)).memory (p - 32 + 4 * i) ≡ 0
      blank p n k j old memory beside deep first i lt (inl small) = first i small
      blank p n k j old memory beside deep first i lt (inr large) =
          let e : p - 32 + 4 * i ≡ p + 4 * (i - 8) = omega (arith, deep, large) in
          ap (word_at (core_at laws s scene (k + 1 + 8)).memory) e ∙ word_stays j (k + 1 + 8) (p - 32) (p - 32 + 4 * 8) (p + 4 * (i - 8)) beside (omega (arith, deep))
          ∙ ap (λ m. word_at m (p + 4 * (i - 8))) memory ∙ old.blank (i - 8) (omega (arith, lt, large))

  -- a frame that has been built so far, after at most so many instructions
  pub record Built (b p n k most : ℕ) : Type 0 where
    pub count : ℕ
    pub few : count ≤ most
    pub there : Building b p n (k + count)

  same_building : (b p p' n n' k k' : ℕ) → p ≡ p' → n ≡ n' → k ≡ k' → Building b p n k → Building b p' n' k'
  same_building b p p' n n' k k' e1 e2 e3 h = subst (λ x. Building b x n' k') e1 (subst (λ x. Building b p x k') e2 (subst (λ x. Building b p n x) e3 h))

  -- t + 1 turns of eight words each, from the label of the loop on
  loops : (l a m b six : ℕ) → s.labels l ≡ a → PartsAt s.text s.all s.labels a (Plain (Addi 2 2 (negative 32)) ∷ plains (zeros 8 0)) m
      → PartAt s.text s.all s.labels m (Branch branch.Bne 2 6 l) b → (t p n k : ℕ) → p ≡ six + 32 * (t + 1) → f.sp + 32 * (t + 1) ≤ p → Turned a p n six k
      → Built b (p - 32 * (t + 1)) (n + 8 * (t + 1)) k (12 * (t + 1))
  loops l a m b six label parts part zero p n k is deep turned =
      let next = one_turn a m p n six k parts (omega (arith, deep)) turned in
      let j = k + 1 + 8 in
      let go = branches laws s scene branch.Bne 2 6 l m b j part next.there.at in
      let test : is_taken branch.Bne (register_of (core_at laws s scene j) 2) (register_of (core_at laws s scene j) 6) ≡ false =
      ap (λ t. not t) (eq-eqb (register_of (core_at laws s scene j) 2) (register_of (core_at laws s scene j) 6) (next.there.base ∙ omega (arith, is) ∙ sym next.limit)) in
      falls next (subst (λ t. Branched laws s scene (if t then s.labels l else b) j) test go)
    where
      falls : Turned m (p - 32) (n + 8) six (k + 1 + 8) → Branched laws s scene b (k + 1 + 8) → Built b (p - 32 * (zero + 1)) (n + 8 * (zero + 1)) k (12 * (zero + 1))
      falls next go = record {
        count = 1 + 8 + go.count;
        few = omega (arith, go.few);
        there = same_building b (p - 32) (p - 32 * (zero + 1)) (n + 8) (n + 8 * (zero + 1)) (k + 1 + 8 + go.count) (k + (1 + 8 + go.count)) (omega arith) (omega arith) (omega arith)
            (branched m b (p - 32) (n + 8) (k + 1 + 8) next.there go);
      }
  loops l a m b six label parts part (suc t) p n k is deep turned =
      let next = one_turn a m p n six k parts (omega (arith, deep)) turned in
      let j = k + 1 + 8 in
      let go = branches laws s scene branch.Bne 2 6 l m b j part next.there.at in
      let apart_so : register_of (core_at laws s scene j) 2 ≢ register_of (core_at laws s scene j) 6 =
      λ e. absurd (let same : p - 32 ≡ six = sym next.there.base ∙ e ∙ next.limit in let q : p - 32 < p - 32 = omega (arith, is, same) in omega (arith, q)) in
      let test : is_taken branch.Bne (register_of (core_at laws s scene j) 2) (register_of (core_at laws s scene j) 6) ≡ true =
      ap (λ t. not t) (ne_eqb (register_of (core_at laws s scene j) 2) (register_of (core_at laws s scene j) 6) apart_so) in
      taken (λ p' n' k' is' deep' here. loops l a m b six label parts part t p' n' k' is' deep' here) next (subst (λ t. Branched laws s scene (if t then s.labels l else b) j) test go)
    where
      taken : ((p' n' k' : ℕ) → p' ≡ six + 32 * (t + 1) → f.sp + 32 * (t + 1) ≤ p' → Turned a p' n' six k' → Built b (p' - 32 * (t + 1)) (n' + 8 * (t + 1)) k' (12 * (t + 1)))
          → Turned m (p - 32) (n + 8) six (k + 1 + 8) → Branched laws s scene (s.labels l) (k + 1 + 8) → Built b (p - 32 * (suc t + 1)) (n + 8 * (suc t + 1)) k (12 * (suc t + 1))
      taken later next go =
          let j = k + 1 + 8 in
          let here : Turned a (p - 32) (n + 8) six (j + go.count) = record {
            there = subst (λ x. Building x (p - 32) (n + 8) (j + go.count)) label (branched m (s.labels l) (p - 32) (n + 8) j next.there go);
            limit = go.registers 6 (apart 6 5 refl) ∙ next.limit;
          } in
          let rest = later (p - 32) (n + 8) (j + go.count) (omega (arith, is)) (omega (arith, deep)) here in
          record {
            count = 1 + 8 + go.count + rest.count;
            few = omega (arith, go.few, rest.few);
            there = same_building b (p - 32 - 32 * (t + 1)) (p - 32 * (suc t + 1)) (n + 8 + 8 * (t + 1)) (n + 8 * (suc t + 1)) (j + go.count + rest.count) (k + (1 + 8 + go.count + rest.count))
                (omega arith) (omega arith) (omega arith) rest.there;
          }

  -- x6 becomes the last place of x2
  limited : (a b p n t k : ℕ) → PartAt s.text s.all s.labels a (Plain (Addi 6 2 (negative (product 32 t)))) b → f.sp + 32 * t ≤ p → Building a p n k → Turned b p n (p - 32 * t) (k + 1)
  limited a b p n t k part deep h =
      let code = Addi 6 2 (negative (product 32 t)) ∷ [] in
      let c = core_at laws s scene k in
      let high = place.high in
      let size = h.size in
      let ran = runs_straight laws s scene code a b p 0 k (frame_at p 0 h.low (omega (arith, size)) (aligned_at p n size)) ((is_set 6 (omega arith) (omega arith), omega arith), tt) (b, part, refl) h.base h.at in
      let same : (at : ℕ) → word_at (core_at laws s scene (k + 1)).memory at ≡ word_at c.memory at =
      λ at. same_word c.memory (core_at laws s scene (k + 1)).memory at (λ q low up. beside ran.beside q (cases_lt q p)) in
      record {
        there = record {
          at = ran.at;
          base = ran.registers 2 (omega arith) ∙ h.base;
          size = size;
          low = h.low;
          blank = λ i lt. same (p + 4 * i) ∙ h.blank i lt;
          behind = same (p + 4 * n) ∙ h.behind;
          given = λ i lt. ran.registers (18 + i) (omega (arith, lt)) ∙ changed_other (held_of p c).register 6 (sum (register_of c 2) (negative (product 32 t))) (18 + i) (λ e. absurd (let q : 18 ≤ 6 = omega (arith, e) in omega (arith, q))) ∙ h.given i lt;
          agrees = ran.agrees f w place.high (omega (arith, size)) refl refl h.agrees;
        };
        limit = ran.registers 6 (omega arith) ∙ ap (λ x. sum x (negative (product 32 t))) h.base ∙ omega (arith, deep, high, size);
      }
    where
      beside : ((q : ℕ) → (q < p) ⊎ (p + 4 * 0 ≤ q) → slice_index (core_at laws s scene (k + 1)).memory q ≡ slice_index (core_at laws s scene k).memory q)
          → (q : ℕ) → (q < p) ⊎ (p ≤ q) → slice_index (core_at laws s scene (k + 1)).memory q ≡ slice_index (core_at laws s scene k).memory q
      beside h q (inl lt) = h q (inl lt)
      beside h q (inr le) = h q (inr (omega (arith, le)))

  -- t turns, if there are any
  pub zero_push : (l a b t p n k : ℕ) → l < scene.count → PartsAt s.text s.all s.labels a (zero_loop_if l t) b → f.sp + 32 * t ≤ p → Building a p n k
      → Built b (p - 32 * t) (n + 8 * t) k (1 + 12 * t)
  zero_push l a b zero p n k small parts deep h = record {
    count = 0;
    few = omega arith;
    there = same_building b p (p - 32 * zero) n (n + 8 * zero) k (k + 0) (omega arith) (omega arith) (omega arith) (subst (λ x. Building x p n k) (sym (parts.2 ∙ parts.1.1)) h);
  }
  zero_push l a b (suc t) p n k small parts deep h =
      let loop : PartsAt s.text s.all s.labels a (zero_loop l (suc t)) b =
      subst (λ x. PartsAt s.text s.all s.labels a (if x then Label l ∷ [] else zero_loop l (suc t)) b) (ne_eqb (suc t) 0 (λ e. absurd (let q : 1 ≤ 0 = omega (arith, e) in omega (arith, q)))) parts in
      let start = limited a loop.0 p n (suc t) k loop.1 deep h in
      let label : s.labels l ≡ loop.0 = loop.2.1.0 (scene.once l small) in
      let turns = parts_split s (Plain (Addi 2 2 (negative 32)) ∷ plains (zeros 8 0)) (Branch branch.Bne 2 6 l ∷ []) loop.2.0 b loop.2.2 in
      let x = loop.2.0 in
      let here : x ≡ loop.0 = loop.2.1.1 in
      let last : PartAt s.text s.all s.labels turns.0 (Branch branch.Bne 2 6 l) b = subst (λ y. PartAt s.text s.all s.labels turns.0 (Branch branch.Bne 2 6 l) y) (sym turns.2.2) turns.2.1 in
      let one : suc t ≡ t + 1 = omega arith in
      let go = loops l x turns.0 b (p - 32 * suc t) (label ∙ sym here) turns.1 last t p n (k + 1) (omega (arith, deep)) (omega (arith, deep)) (subst (λ y. Turned y p n (p - 32 * suc t) (k + 1)) (sym here) start) in
      record {
        count = 1 + go.count;
        few = omega (arith, go.few);
        there = same_building b (p - 32 * (t + 1)) (p - 32 * suc t) (n + 8 * (t + 1)) (n + 8 * suc t) (k + 1 + go.count) (k + (1 + go.count)) (omega arith) (omega arith) (omega arith) go.there;
      }

  -- ---- Parameters

  -- the frame is there
  pub record Pushed (b params k most : ℕ) : Type 0 where
    pub count : ℕ
    pub few : count ≤ most
    pub at : IsAt s.text b (after s (k + count))
    pub base : register_of (core_at laws s scene (k + count)) 2 ≡ f.sp
    pub given : (v : ℕ) → v < params → word_at (core_at laws s scene (k + count)).memory (f.sp + 4 * v) ≡ args v
    pub blank : (v : ℕ) → params ≤ v → v < f.values → word_at (core_at laws s scene (k + count)).memory (f.sp + 4 * v) ≡ 0
    pub behind : word_at (core_at laws s scene (k + count)).memory (f.sp + 4 * f.values) ≡ f.back
    pub agrees : Agrees s f w (after s (k + count))

  pub parameters_push : (params a b n k : ℕ) → params ≤ 8 → params + n ≡ f.values → PartsAt s.text s.all s.labels a (plains (parameters_if params)) b → Building a (f.sp + 4 * params) n k
      → Pushed b params k 9
  parameters_push zero a b n k few is parts h =
      let none : k + 0 ≡ k = omega arith in
      let all : n ≡ f.values = omega (arith, is) in
      let p : f.sp + 4 * zero ≡ f.sp = omega arith in
      let at : Building b f.sp f.values (k + 0) = same_building b (f.sp + 4 * zero) f.sp n f.values k (k + 0) p all (sym none) (subst (λ x. Building x (f.sp + 4 * zero) n k) (sym parts) h) in
      record { count = 0; few = omega arith; at = at.at; base = at.base; given = λ v lt. absurd (omega (arith, lt)); blank = λ v le lt. at.blank v lt; behind = at.behind; agrees = at.agrees }
  parameters_push (suc q) a b n k few is parts h =
      let m = suc q in
      let p = f.sp + 4 * m in
      let listed : PartsAt s.text s.all s.labels a (plains (parameters_code m)) b =
      subst (λ x. PartsAt s.text s.all s.labels a (plains (if x then [] else parameters_code m)) b) (ne_eqb m 0 (λ e. absurd (let z : 1 ≤ 0 = omega (arith, e) in omega (arith, z)))) parts in
      let all : min m 8 ≡ m = omega (arith, few) in
      let code = fill (λ i. 18 + i) m 0 in
      let rest : PartsAt s.text s.all s.labels listed.0 (plains code) b = subst (λ l. PartsAt s.text s.all s.labels listed.0 (plains l) b) (ap (λ c. parameters c 0) all ∙ fill_parameters m 0) listed.2 in
      let high = place.high in
      let size = h.size in
      let values = place.few in
      let shift = shifts laws s scene a listed.0 (negative (cell m)) f.sp k listed.1 (ap (λ x. sum x (negative (cell m))) h.base ∙ omega (arith, few, high)) h.at in
      let j = k + 1 in
      let c = core_at laws s scene j in
      let g = held_of f.sp c in
      let ran = runs_straight laws s scene code listed.0 b f.sp m j (frame_at f.sp m (omega arith) (omega (arith, is)) place.aligned)
      (fill_straight (λ i. 18 + i) m 0 m (omega arith) (omega (arith, few)) (λ i lt. omega (arith, lt, few))) rest shift.base shift.at in
      let keep : (does_all code g).register ≡ g.register = fill_registers (λ i. 18 + i) m 0 g in
      let count : k + (1 + m) ≡ j + length code = omega (arith, fill_length (λ i. 18 + i) m 0) in
      let stays : (at : ℕ) → f.sp + 4 * m ≤ at → word_at (core_at laws s scene (j + length code)).memory at ≡ word_at (core_at laws s scene k).memory at =
      λ at le. word_stays j (j + length code) f.sp (f.sp + 4 * m) at ran.beside le ∙ ap (λ x. word_at x at) shift.memory in
      pushed m k (1 + m) (j + length code) (omega (arith, few)) (sym count) ran.at (ran.registers 2 (omega arith) ∙ ap (λ x. x 2) keep ∙ shift.base)
      (λ v lt. ran.frame v lt ∙ fill_in (λ i. 18 + i) m 0 v g (omega (arith, few)) (omega arith) (omega (arith, lt))
      ∙ shift.registers (18 + v) (λ e. absurd (let z : 18 ≤ 2 = omega (arith, e) in omega (arith, z))) ∙ h.given v (omega (arith, lt, few)))
      (λ v le lt. let e : f.sp + 4 * v ≡ p + 4 * (v - m) = omega (arith, le) in
      stays (f.sp + 4 * v) (omega (arith, le)) ∙ ap (word_at (core_at laws s scene k).memory) e ∙ h.blank (v - m) (omega (arith, le, lt, is)))
      (let e : f.sp + 4 * f.values ≡ p + 4 * n = omega (arith, is) in
      stays (f.sp + 4 * f.values) (omega (arith, is)) ∙ ap (word_at (core_at laws s scene k).memory) e ∙ h.behind)
      (ran.agrees f w place.high (omega (arith, is)) (ap (λ x. x 8) keep) (ap (λ x. x 26) keep) (shift.agrees f w place.high h.agrees))
    where
      pushed : (params k count j : ℕ) → count ≤ 9 → j ≡ k + count → IsAt s.text b (after s j) → register_of (core_at laws s scene j) 2 ≡ f.sp
          → ((v : ℕ) → v < params → word_at (core_at laws s scene j).memory (f.sp + 4 * v) ≡ args v)
          → ((v : ℕ) → params ≤ v → v < f.values → word_at (core_at laws s scene j).memory (f.sp + 4 * v) ≡ 0)
          → word_at (core_at laws s scene j).memory (f.sp + 4 * f.values) ≡ f.back → Agrees s f w (after s j) → Pushed b params k 9
      pushed params k count j few e at base given blank behind agrees = record {
        count = count;
        few = few;
        at = subst (λ x. IsAt s.text b (after s x)) e at;
        base = ap (λ x. register_of (core_at laws s scene x) 2) (sym e) ∙ base;
        given = λ v lt. ap (λ x. word_at (core_at laws s scene x).memory (f.sp + 4 * v)) (sym e) ∙ given v lt;
        blank = λ v le lt. ap (λ x. word_at (core_at laws s scene x).memory (f.sp + 4 * v)) (sym e) ∙ blank v le lt;
        behind = ap (λ x. word_at (core_at laws s scene x).memory (f.sp + 4 * f.values)) (sym e) ∙ behind;
        agrees = subst (λ x. Agrees s f w (after s x)) e agrees;
      }

  -- ---- The whole frame

  -- all of it, where x1 has the place to return to and x18 to x25 have the arguments
  pub frame_push : (l params a b k : ℕ) → l < scene.count → params ≤ 8 → params ≤ f.values → PartsAt s.text s.all s.labels a (frame_parts l params f.values) b
      → IsAt s.text a (after s k) → register_of (core_at laws s scene k) 2 ≡ edge f → register_of (core_at laws s scene k) 1 ≡ f.back
      → ((i : ℕ) → i < 8 → register_of (core_at laws s scene k) (18 + i) ≡ args i) → Agrees s f w (after s k) → Pushed b params k (19 + 2 * f.values)
  frame_push l params a b k small few le parts at base from given agrees =
      let others = f.values - params in
      let r = others % 8 in
      let t = others / 8 in
      let part1 = Plain (Addi 2 2 (negative (frame_bytes r))) ∷ Plain (store 1 r) ∷ plains (zeros r 0) in
      let two = parts_split s (part1 ++ zero_loop_if l t) (plains (parameters_if params)) a b parts in
      let one = parts_split s part1 (zero_loop_if l t) a two.0 two.1 in
      let split : others ≡ r + 8 * t = omega arith in
      let first = first_push r a one.0 k (omega arith) (omega (arith, split, le)) one.1 at base from given agrees in
      let j = k + 1 + (1 + r) in
      let zeroed = zero_push l one.0 two.0 t (edge f - (4 * r + 4)) r j small one.2 (omega (arith, split, le)) first in
      let p : edge f - (4 * r + 4) - 32 * t ≡ f.sp + 4 * params = omega (arith, split, le) in
      let last = parameters_push params two.0 b (r + 8 * t) (j + zeroed.count) few (omega (arith, split, le)) two.2 (subst (λ x. Building two.0 x (r + 8 * t) (j + zeroed.count)) p zeroed.there) in
      let e : j + zeroed.count + last.count ≡ k + (1 + (1 + r) + zeroed.count + last.count) = omega arith in
      record {
        count = 1 + (1 + r) + zeroed.count + last.count;
        few = omega (arith, zeroed.few, last.few, split);
        at = subst (λ x. IsAt s.text b (after s x)) e last.at;
        base = ap (λ x. register_of (core_at laws s scene x) 2) (sym e) ∙ last.base;
        given = λ v lt. ap (λ x. word_at (core_at laws s scene x).memory (f.sp + 4 * v)) (sym e) ∙ last.given v lt;
        blank = λ v low lt. ap (λ x. word_at (core_at laws s scene x).memory (f.sp + 4 * v)) (sym e) ∙ last.blank v low lt;
        behind = ap (λ x. word_at (core_at laws s scene x).memory (f.sp + 4 * f.values)) (sym e) ∙ last.behind;
        agrees = subst (λ x. Agrees s f w (after s x)) e last.agrees;
      }
