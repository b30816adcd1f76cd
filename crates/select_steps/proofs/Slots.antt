-- How a machine follows the step that finds the slot of a word.
use Rattle.std.proofs.Common.{◌≡◌, ◌==◌, ℕ, ◌+◌, ◌-◌, ◌*◌, ◌/◌, ◌%◌, ◌^◌, ◌<◌, ◌≤◌, ◌⊎◌, inl, inr, if◌then◌else◌, [], ◌∷◌, ◌++◌, Option, Some, None, refl, sym, ap, ◌∙◌, arith}
use Rattle.std.specs.Prelude.{bit_and}
use Rattle.std.proofs.lemmas.Bool.{lt-ltb, le-ltb, eq-eqb, ne_eqb, cases_eq, cases_lt}
use Rattle.std.specs.Int.Bits.{and_zero_r}
use Rattle.std.proofs.lemmas.Nat.{and_mask}
use Rattle.std.proofs.lemmas.Nat.Bits.{and_high}
use Rattle.bb_words.specs.Numbers.{sum, difference, left_shift, right_shift}
use Rattle.marked_ptr.specs.Marked.{marked_slot}
use Rattle.flat_code.specs.World.{with_word, FPoint, point, spend}
use Rattle.flat_code.specs.Run.{slot_or_ones, slot_word}
use Rattle.rv_asm.specs.Runs.{PartsAt}
use Rattle.rv_selected.specs.Registers.{cell, store}
use Rattle.rv_selected.specs.Steps.{plains, fetch, owner_code, slot_code}
use Rattle.rv_selected.specs.Straight.{does_all, AreStraight}
use Rattle.select_scope.specs.Loaded.{Loaded, IsLoaded, Frame, HasRoom, At}
use Rattle.select_scope.proofs.Agree.{Laws, itself}
use Rattle.select_scope.proofs.Reach.{Arrives}
use Rattle.select_scope.proofs.Moves.{behind_apart, held, row}
use Rattle.select_scope.proofs.Pieces.{is_set, plains_split, plains_join, straight_append, store_straight, stored, changed_other}
use Rattle.select_steps.proofs.Steps.{values_small, fetches}

-- ---- Words

-- a word without bit 31, shifted up and down
abbrev cleared : ℕ → ℕ
cleared x = right_shift (left_shift x 1) 1

-- all bits where bit 31 is set, else none; z is 0
abbrev mask : (z x : ℕ) → ℕ
mask z x = difference z (right_shift x 31)

-- one more or one less, by bit 3
abbrev beside : ℕ → ℕ
beside x = sum (bit_and (right_shift (cleared x) 2) 2) 0xffff_ffff

third_bit : (x : ℕ) → bit_and (right_shift (cleared x) 2) 2 ≡ right_shift (cleared x) 2 / 2 % 2 * 2
third_bit x = and_high (right_shift (cleared x) 2) 1 1

unmarked_slot : (z x : ℕ) → z ≡ 0 → x < 2 ^ 31 → sum (right_shift (cleared x) 4) (bit_and (beside x) (mask z x)) ≡ slot_word 4 x
unmarked_slot z x none lt =
    let m : mask z x ≡ 0 = omega (arith, none, lt) in
    let b : bit_and (beside x) (mask z x) ≡ 0 = ap (bit_and (beside x)) m ∙ and_zero_r (beside x) in
    ap (sum (right_shift (cleared x) 4)) b ∙ (let e : sum (right_shift (cleared x) 4) 0 ≡ x / 16 = omega (arith, lt) in e)
    ∙ sym (ap (λ t. slot_or_ones (if t then Some (x / 2 ^ 4) else marked_slot 4 (x % 2 ^ 31))) (lt-ltb x (2 ^ 31) lt))

-- the slot beside that of an address, by the half in which it lies
by_half : (x : ℕ) → 2 ^ 31 ≤ x → x < 2 ^ 32 → sum (right_shift (cleared x) 4) (beside x) ≡ slot_or_ones (marked_slot 4 (x % 2 ^ 31))
by_half x high small = by_cases (cases_lt (x % 2 ^ 31 % 2 ^ 4) (2 ^ 3)) (cases_eq (x % 2 ^ 31 / 2 ^ 4) 0)
  where
    a : ℕ
    a = x % 2 ^ 31

    same : cleared x ≡ x % 2 ^ 31
    same = omega arith

    by_cases : (x % 2 ^ 31 % 2 ^ 4 < 2 ^ 3) ⊎ (2 ^ 3 ≤ x % 2 ^ 31 % 2 ^ 4) → (x % 2 ^ 31 / 2 ^ 4 ≡ 0) ⊎ (x % 2 ^ 31 / 2 ^ 4 ≡ 0 → ⊥)
        → sum (right_shift (cleared x) 4) (beside x) ≡ slot_or_ones (marked_slot 4 (x % 2 ^ 31))
    by_cases (inl lt) (inl zero) =
        (let e : sum (right_shift (cleared x) 4) (beside x) ≡ 0xffff_ffff = omega (arith, third_bit x, same, lt, zero) in e)
        ∙ sym (ap (λ t. slot_or_ones (if t then (if x % 2 ^ 31 / 2 ^ 4 == 0 then None else Some (x % 2 ^ 31 / 2 ^ 4 - 1)) else Some (x % 2 ^ 31 / 2 ^ 4 + 1))) (lt-ltb (x % 2 ^ 31 % 2 ^ 4) (2 ^ 3) lt)
        ∙ ap (λ t. slot_or_ones (if t then None else Some (x % 2 ^ 31 / 2 ^ 4 - 1))) (eq-eqb (x % 2 ^ 31 / 2 ^ 4) 0 zero))
    by_cases (inl lt) (inr some) =
        (let e : sum (right_shift (cleared x) 4) (beside x) ≡ x % 2 ^ 31 / 2 ^ 4 - 1 = omega (arith, third_bit x, same, lt, some) in e)
        ∙ sym (ap (λ t. slot_or_ones (if t then (if x % 2 ^ 31 / 2 ^ 4 == 0 then None else Some (x % 2 ^ 31 / 2 ^ 4 - 1)) else Some (x % 2 ^ 31 / 2 ^ 4 + 1))) (lt-ltb (x % 2 ^ 31 % 2 ^ 4) (2 ^ 3) lt)
        ∙ ap (λ t. slot_or_ones (if t then None else Some (x % 2 ^ 31 / 2 ^ 4 - 1))) (ne_eqb (x % 2 ^ 31 / 2 ^ 4) 0 some))
    by_cases (inr le) any =
        (let e : sum (right_shift (cleared x) 4) (beside x) ≡ x % 2 ^ 31 / 2 ^ 4 + 1 = omega (arith, third_bit x, same, le) in e)
        ∙ sym (ap (λ t. slot_or_ones (if t then (if x % 2 ^ 31 / 2 ^ 4 == 0 then None else Some (x % 2 ^ 31 / 2 ^ 4 - 1)) else Some (x % 2 ^ 31 / 2 ^ 4 + 1))) (le-ltb (x % 2 ^ 31 % 2 ^ 4) (2 ^ 3) le))

slot_is : (z x : ℕ) → z ≡ 0 → x < 2 ^ 32 → sum (right_shift (cleared x) 4) (bit_and (beside x) (mask z x)) ≡ slot_word 4 x
slot_is z x none small = by_cases (cases_lt x (2 ^ 31))
  where
    by_cases : (x < 2 ^ 31) ⊎ (2 ^ 31 ≤ x) → sum (right_shift (cleared x) 4) (bit_and (beside x) (mask z x)) ≡ slot_word 4 x
    by_cases (inl lt) = unmarked_slot z x none lt
    by_cases (inr le) =
        let m : mask z x ≡ 0xffff_ffff = omega (arith, none, le, small) in
        let b : bit_and (beside x) (mask z x) ≡ beside x % 2 ^ 32 = ap (bit_and (beside x)) m ∙ and_mask (beside x) 32 in
        let e : beside x % 2 ^ 32 ≡ beside x = omega arith in
        ap (sum (right_shift (cleared x) 4)) (b ∙ e) ∙ by_half x le small
        ∙ sym (ap (λ t. slot_or_ones (if t then Some (x / 2 ^ 4) else marked_slot 4 (x % 2 ^ 31))) (le-ltb x (2 ^ 31) le))

-- ---- The step

owner_straight : (words : ℕ) → AreStraight words (owner_code 4)
owner_straight words = (
  (is_set 6 (omega arith) (omega arith), omega arith),
  (
    (is_set 6 (omega arith) (omega arith), omega arith, omega arith),
    (
      (is_set 7 (omega arith) (omega arith), omega arith),
      (
        (is_set 7 (omega arith) (omega arith), omega arith),
        (
          (is_set 12 (omega arith) (omega arith), omega arith),
          (
            (is_set 12 (omega arith) (omega arith), omega arith),
            (
              (is_set 12 (omega arith) (omega arith), omega arith),
              (
                (is_set 12 (omega arith) (omega arith), omega arith, omega arith),
                (
                  (is_set 7 (omega arith) (omega arith), omega arith),
                  ((is_set 7 (omega arith) (omega arith), omega arith, omega arith), tt),
                ),
              ),
            ),
          ),
        ),
      ),
    ),
  ),
)

module _ (laws : Laws) (s : Loaded) (scene : IsLoaded s) (f : Frame) (room : HasRoom f) where
  pub slot_runs : (to from a b : ℕ) (known : Option ℕ) (u : FPoint) (k : ℕ) → to < f.values → from < f.values
      → PartsAt s.text s.all s.labels a (plains (slot_code 4 known to from)) b → At s f a known u k
      → Arrives s f b None (point (with_word u.words to (slot_word 4 (u.words from))) (spend 12 u.world)) k u.world.time
  slot_runs to from a b known u k lt lf parts at =
      let code = owner_code 4 ++ store 7 to ∷ [] in
      let last = plains_split s (fetch known from ++ owner_code 4) (store 7 to ∷ []) a b parts in
      let two = plains_split s (fetch known from) (owner_code 4) a last.0 last.1 in
      let rest = plains_join s (owner_code 4) (store 7 to ∷ []) two.0 last.0 b two.2 last.2 in
      let got = fetches laws s scene f room a two.0 known from 12 u k lf (omega arith) two.1 at in
      let w = spend 12 u.world in
      let j = k + got.count in
      let h = held laws s scene f room j in
      let stands = got.there.frame.stands in
      let small = values_small laws s scene f room two.0 (Some from) (point u.words w) j got.there from lf in
      let five : h.register 5 ≡ u.words from = stands.five in
      let word = slot_word 4 (u.words from) in
      let value : (does_all (owner_code 4) h).register 7 ≡ word =
      slot_is (h.register 0) (h.register 5) stands.zero (omega (arith, five, small)) ∙ ap (slot_word 4) five in
      let done = row laws s scene f room code two.0 b (Some from) None (point u.words w) (with_word u.words to word) w j
      (straight_append (f.values + 1) (owner_code 4) (store 7 to ∷ []) (owner_straight (f.values + 1)) (store_straight f.values room.few 7 to (omega arith) (omega (arith, lt)))) rest
      (itself w) (omega (arith, at.soon, got.few))
      (record {
        cells = λ v lv. stored f.values u.words h.word to ((does_all (owner_code 4) h).register 7) v room.few lt lv (stands.cells v lv) ∙ ap (λ x. with_word u.words to x v) value;
        five = tt;
        zero = stands.zero;
      })
      (record { eight = refl; table = refl; behind = changed_other h.word (cell to) ((does_all (owner_code 4) h).register 7) (4 * f.values) (behind_apart laws s scene f room to lt) }) got.there in
      record { count = j + 11; later = omega arith; within = omega (arith, got.few); there = done.there }
