-- The slots that own the words of pointers, and the moves of those words.
use Rattle.std.proofs.Common.{◌≡◌, ◌⊎◌, ℕ, ◌+◌, ◌*◌, ◌-◌, ◌/◌, ◌^◌, ◌<◌, ◌≤◌, Bool, true, false, cond, ◌&&◌, nat_lt, nat_le, List, [], ◌∷◌, Option, Some, None, slice_get, ℤ, pos, negsuc, ◌+ℤ◌, refl, sym, ap, ◌∙◌, subst, inl, inr, arith, pow_pos}
use Rattle.std.proofs.lemmas.Option.{same_Some, none-some}
use Rattle.std.proofs.lemmas.Bool.Decides.{nat_tests}
use Rattle.std.proofs.lemmas.Nat.{div-mul-add}
use Rattle.bb_words.specs.Answers.{Goes, Ends}
use Rattle.bb_words.specs.declared.kinds.ReportKind.TheVariants.{Bounds}
use Rattle.bb_words.specs.Numbers.{signed}
use Rattle.marked_ptr.specs.Marked.{word_at, owner_slot, in_memory, moved, inside, outside}
use Rattle.marked_ptr.specs.Laws.{IsInReach, OwnerIsBlock, MovesAreOffsets, answer_at}
use Rattle.marked_ptr.specs.declared.answer.MoveAnswer.TheVariants.{Report}
use Rattle.size_table.specs.Blocks.{holds}
use Rattle.size_table.specs.Table.{byte_of}
use Rattle.source_meaning.specs.declared.values.Pointer.{Pointer}
use Rattle.source_meaning.specs.declared.values.Pointer.TheVariants.{Null, To}
use Rattle.source_meaning.specs.declared.values.OutsideCause.TheVariants.{Dead}
use Rattle.source_meaning.specs.declared.values.Ending.TheVariants.{Reported}
use Rattle.source_meaning.specs.Objects.{Object}
use Rattle.source_meaning.specs.Worlds as worlds
use Rattle.source_meaning.specs.Worlds.{World, Does, Moved, noted, live_blocks}
use Rattle.source_meaning.specs.Moves.{is_within, move_in, move}
use Rattle.injection.specs.Words.{word_in, word_of}
use Rattle.injection.specs.Memory.{IsLive, AreLaidOut, IsPointerIn, IsPointer}
use Rattle.injection.specs.Laws.{IsOwned, MovesAlike}
use Rattle.injection.proofs.Blocks.{byte_among, disjoint_live, among_live, laid_out_rest, block_of}
use Rattle.injection.proofs.Tests.{no_lt, was_lt, not_lt}

zero_over : (p : ℕ) → 0 < p → 0 / p ≡ 0
zero_over p h = ap (λ x. x / p) (let q : 0 ≡ 0 * p + 0 = omega arith in q) ∙ div-mul-add 0 p 0 h

-- no block of a live object holds slot 0
nothing_low : (g : ℕ) (os : List Object) → AreLaidOut g os → byte_of g (live_blocks os) 0 ≡ 0
nothing_low g [] out = refl
nothing_low g (o ∷ os) out = at_flag o.live (out.accounts 0 o refl).placed.low (nothing_low g os (laid_out_rest g o os out))
  where
    missed : (b x y n : ℕ) → 10485760 ≤ b → x ≡ 0 → (nat_le b x && nat_le y n) ≡ false
    missed b x y n low e = grind (arith, nat_tests)

    at_flag : (t : Bool) → 10485760 ≤ o.base → byte_of g (live_blocks os) 0 ≡ 0 → byte_of g (cond t (block_of o ∷ live_blocks os) (live_blocks os)) 0 ≡ 0
    at_flag false h k = k
    at_flag true h k =
        ap (λ x. cond x o.exponent (byte_of g (live_blocks os) 0)) (missed o.base (2 ^ g * 0) (2 ^ g * 0 + 2 ^ g) (o.base + 2 ^ o.exponent) h (omega arith)) ∙ k

-- an exponent of a live object's block is at most 24
byte_small : (g : ℕ) (os : List Object) (slot : ℕ) → AreLaidOut g os → byte_of g (live_blocks os) slot ≤ 24
byte_small g [] slot out = omega arith
byte_small g (o ∷ os) slot out = at_flag o.live (out.accounts 0 o refl).placed.most (byte_small g os slot (laid_out_rest g o os out))
  where
    at_held : (t : Bool) → o.exponent ≤ 24 → byte_of g (live_blocks os) slot ≤ 24 → cond t o.exponent (byte_of g (live_blocks os) slot) ≤ 24
    at_held true h k = h
    at_held false h k = k

    at_flag : (t : Bool) → o.exponent ≤ 24 → byte_of g (live_blocks os) slot ≤ 24 → byte_of g (cond t (block_of o ∷ live_blocks os) (live_blocks os)) slot ≤ 24
    at_flag false h k = k
    at_flag true h k = at_held (holds g (block_of o) slot) h k

record InMemory (g : ℕ) (slot : Option ℕ) (number : ℕ) : Type 0 where
  is : slot ≡ Some number
  small : number < 2 ^ (25 - g)

in_memory_is : (g : ℕ) (slot : Option ℕ) (number : ℕ) → in_memory g slot ≡ Some number → InMemory g slot number
in_memory_is g None number h = absurd (none-some _ h)
in_memory_is g (Some s) number h = at (nat_lt s (2 ^ (25 - g))) refl h
  where
    below : (n p : ℕ) → nat_lt n p ≡ true → n < p
    below n p e = grind (arith, nat_tests)

    at : (t : Bool) → nat_lt s (2 ^ (25 - g)) ≡ t → cond t (Some s) None ≡ Some number → InMemory g (Some s) number
    at false e k = absurd (none-some _ k)
    at true e k = record { is = k; small = subst (λ n. n < 2 ^ (25 - g)) (same_Some _ _ k) (below s (2 ^ (25 - g)) e) }

module _ (owners : OwnerIsBlock) where
  -- the word of a pointer to an object that there is or was
  object_owned : (g : ℕ) (os : List Object) (k : ℕ) (o : Object) (z : ℤ) → AreLaidOut g os → slice_get os k ≡ Some o → IsInReach g o.exponent z → IsOwned g os (word_at o.base o.exponent z)
  object_owned g os k o z out e r =
      let own = owners g o.base o.exponent z (out.accounts k o e).placed r in
      let m = in_memory_is g _ own.number own.is in
      record { slot = own.number; is = m.is; small = m.small; byte = byte_small g os own.number out }

  null_owned : (g : ℕ) (os : List Object) → AreLaidOut g os → IsOwned g os 0
  null_owned g os out =
      record { slot = 0 / 2 ^ g; is = refl; small = subst (λ n. n < 2 ^ (25 - g)) (sym (zero_over (2 ^ g) (pow_pos g))) (pow_pos (25 - g)); byte = byte_small g os _ out }

  pub owned : (g : ℕ) (os : List Object) (q : Pointer) → AreLaidOut g os → IsPointer g os q → IsOwned g os (word_of os q)
  owned g os Null out f = null_owned g os out
  owned g os (To k z) out f = at (slice_get os k) refl f
    where
      at : (x : Option Object) → slice_get os k ≡ x → IsPointerIn g x z → IsOwned g os (word_in x z)
      at None e f' = absurd f'
      at (Some o) e f' = object_owned g os k o z out e f'

  -- the owner of a live object's pointer is a slot of its block
  pub object_byte : (g : ℕ) (os : List Object) (k : ℕ) (o : Object) (z : ℤ) (slot : ℕ) → AreLaidOut g os → IsLive os k o → IsInReach g o.exponent z → owner_slot g (word_at o.base o.exponent z) ≡ Some slot → byte_of g (live_blocks os) slot ≡ o.exponent
  object_byte g os k o z slot out l r e =
      let own = owners g o.base o.exponent z (out.accounts k o l.there).placed r in
      let m = in_memory_is g _ own.number own.is in
      let same : own.number ≡ slot = same_Some _ _ (sym m.is ∙ e) in
      ap (byte_of g (live_blocks os)) (sym same)
      ∙ byte_among g (block_of o) (live_blocks os) own.number (disjoint_live g os out) (among_live os k o l)
      (held o.base (2 ^ g * own.number) (2 ^ g * own.number + 2 ^ g) (o.base + 2 ^ o.exponent) own.low own.high)
    where
      held : (b x y n : ℕ) → b ≤ x → y ≤ n → (nat_le b x && nat_le y n) ≡ true
      held b x y n lo hi = grind (arith, nat_tests)

  pub owner_has_exponent : (g : ℕ) (os : List Object) (k : ℕ) (o : Object) (z : ℤ) (slot : ℕ) → AreLaidOut g os → IsLive os k o → IsInReach g o.exponent z → owner_slot g (word_of os (To k z)) ≡ Some slot → byte_of g (live_blocks os) slot ≡ o.exponent
  owner_has_exponent g os k o z slot out l r e = object_byte g os k o z slot out l r (sym (ap (λ x. owner_slot g (word_in x z)) l.there) ∙ e)

pub null_byte : (g : ℕ) (os : List Object) (slot : ℕ) → AreLaidOut g os → owner_slot g 0 ≡ Some slot → byte_of g (live_blocks os) slot ≡ 0
null_byte g os slot out e = ap (byte_of g (live_blocks os)) (sym (same_Some (0 / 2 ^ g) slot e) ∙ zero_over (2 ^ g) (pow_pos g)) ∙ nothing_low g os out

-- ---- Moves

in_reach : (g e : ℕ) (z : ℤ) → is_within g e z ≡ true → IsInReach g e z
in_reach g e (pos n) h = was_lt n (2 ^ e + 2 ^ (g - 1)) h
in_reach g e (negsuc n) h = was_lt n (2 ^ (g - 1)) h

lands : (g base e : ℕ) (z : ℤ) → is_within g e z ≡ true → (answer_at g base e z ≡ inside (word_at base e z)) ⊎ (answer_at g base e z ≡ outside (word_at base e z))
lands g base e (negsuc n) h = inr (ap (λ t. cond t (outside (word_at base e (negsuc n))) Report) h)
lands g base e (pos n) h = at (nat_lt n (2 ^ e))
  where
    at : (t : Bool) → (cond t (inside (word_at base e (pos n))) (cond (nat_lt n (2 ^ e + 2 ^ (g - 1))) (outside (word_at base e (pos n))) Report) ≡ inside (word_at base e (pos n))) ⊎ (cond t (inside (word_at base e (pos n))) (cond (nat_lt n (2 ^ e + 2 ^ (g - 1))) (outside (word_at base e (pos n))) Report) ≡ outside (word_at base e (pos n)))
    at true = inl refl
    at false = inr (ap (λ t. cond t (outside (word_at base e (pos n))) Report) h)

refused : (g base e : ℕ) (z : ℤ) → is_within g e z ≡ false → answer_at g base e z ≡ Report
refused g base e (negsuc n) h = ap (λ t. cond t (outside (word_at base e (negsuc n))) Report) h
refused g base e (pos n) h =
    let l : 2 ^ e + 2 ^ (g - 1) ≤ n = not_lt n (2 ^ e + 2 ^ (g - 1)) h in
    ap (λ t. cond t (inside (word_at base e (pos n))) (cond (nat_lt n (2 ^ e + 2 ^ (g - 1))) (outside (word_at base e (pos n))) Report)) (no_lt n (2 ^ e) (omega arith))
    ∙ ap (λ t. cond t (outside (word_at base e (pos n))) Report) h

module _ (owners : OwnerIsBlock) (offsets : MovesAreOffsets) (g site line d slot : ℕ) (w : World) (out : AreLaidOut g w.objects) (small : d < 2 ^ 32) where
  live_moves : (k : ℕ) (z : ℤ) (o : Object) → IsLive w.objects k o → IsInReach g o.exponent z → owner_slot g (word_at o.base o.exponent z) ≡ Some slot
      → MovesAlike g site line w (To k z) (moved g (word_at o.base o.exponent z) d (byte_of g (live_blocks w.objects) slot)) (cond (is_within g o.exponent (z +ℤ signed d)) (Goes (To k (z +ℤ signed d)) (noted (Moved site (To k z) (To k (z +ℤ signed d))) w)) (Ends (Reported Bounds line) w))
  live_moves k z o l r own = at (is_within g o.exponent (z +ℤ signed d)) refl
    where
      answers : moved g (word_at o.base o.exponent z) d (byte_of g (live_blocks w.objects) slot) ≡ answer_at g o.base o.exponent (z +ℤ signed d)
      answers =
          ap (moved g (word_at o.base o.exponent z) d) (object_byte owners g w.objects k o z slot out l r own)
          ∙ offsets g o.base o.exponent d z (out.accounts k o l.there).placed r small

      word : word_of w.objects (To k (z +ℤ signed d)) ≡ word_at o.base o.exponent (z +ℤ signed d)
      word = ap (λ x. word_in x (z +ℤ signed d)) l.there

      at : (t : Bool) → is_within g o.exponent (z +ℤ signed d) ≡ t → MovesAlike g site line w (To k z) (moved g (word_at o.base o.exponent z) d (byte_of g (live_blocks w.objects) slot)) (cond t (Goes (To k (z +ℤ signed d)) (noted (Moved site (To k z) (To k (z +ℤ signed d))) w)) (Ends (Reported Bounds line) w))
      at true e = record {
        world = refl;
        formed = subst (λ x. IsPointerIn g x (z +ℤ signed d)) (sym l.there) (in_reach g o.exponent (z +ℤ signed d) e);
        word = elim (lands g o.base o.exponent (z +ℤ signed d) e) [ inl a ↦ inl (answers ∙ a ∙ ap inside (sym word)) | inr a ↦ inr (answers ∙ a ∙ ap outside (sym word)) ];
      }
      at false e = (refl, refl, refl, answers ∙ refused g o.base o.exponent (z +ℤ signed d) e)

  null_moves : owner_slot g 0 ≡ Some slot → moved g 0 d (byte_of g (live_blocks w.objects) slot) ≡ Report
  null_moves e = ap (moved g 0 d) (null_byte g w.objects slot out e)

  pub moves_alike : (q : Pointer) → IsPointer g w.objects q → owner_slot g (word_of w.objects q) ≡ Some slot
      → MovesAlike g site line w q (moved g (word_of w.objects q) d (byte_of g (live_blocks w.objects) slot)) (move g site line (signed d) q w)
  moves_alike Null f own = (refl, refl, refl, null_moves own)
  moves_alike (To k z) f own = at (slice_get w.objects k) refl f own
    where
      at : (x : Option Object) → slice_get w.objects k ≡ x → IsPointerIn g x z → owner_slot g (word_in x z) ≡ Some slot → MovesAlike g site line w (To k z) (moved g (word_in x z) d (byte_of g (live_blocks w.objects) slot)) (move_in g site line k z (signed d) x w)
      at None e f' own' = refl
      at (Some o) e f' own' = at_flag o.live refl
        where
          at_flag : (t : Bool) → o.live ≡ t → MovesAlike g site line w (To k z) (moved g (word_at o.base o.exponent z) d (byte_of g (live_blocks w.objects) slot)) (cond t (cond (is_within g o.exponent (z +ℤ signed d)) (Goes (To k (z +ℤ signed d)) (noted (Moved site (To k z) (To k (z +ℤ signed d))) w)) (Ends (Reported Bounds line) w)) (worlds.outside Dead w))
          at_flag false le = refl
          at_flag true le = live_moves k z o (record { there = e; live = le }) f' own'
