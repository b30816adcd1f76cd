-- Blocks, the slots that they hold, and words that may be used as addresses.
use Rattle.std.proofs.Common.{◌≡◌, ◌⊎◌, ℕ, ◌+◌, ◌-◌, ◌*◌, ◌/◌, ◌%◌, ◌^◌, ◌<◌, ◌≤◌, List, [], ◌∷◌, ◌++◌, Some, None, Bool, true, false, cond, inl, inr, refl, sym, ap, ◌∙◌, subst, arith, true≢false, pow_pos, pow-add, mul_assoc, nat_lt, nat_le}
use Rattle.std.specs.Prelude.{◌&&◌, ◌||◌}
use Rattle.std.proofs.Math.Nat.{mul-le-mul_left, le-div_iff_mul-le}
use Rattle.std.proofs.lemmas.Bool.Decides.{nat_tests}
use Rattle.std.proofs.lemmas.Nat.{div-add-mod', mod_below}
use Rattle.marked_ptr.specs.Marked.{owner_slot, in_memory}
use Rattle.marked_ptr.specs.Laws.{IsPlaced, OwnedBy}
use Rattle.bb_watch.specs.Live.{holder}
use Rattle.bb_watch.specs.Safety.{LieIn}
use Rattle.size_table.specs.Blocks.{Block, holds, end_of}
use Rattle.size_table.specs.Table.{byte_of}

-- ---- Tests

pub both : (a b : Bool) → (a && b) ≡ true → (a ≡ true) × (b ≡ true)
both true b h = (refl, h)
both false b h = absurd (true≢false (sym h))

pub two : (a b : Bool) → a ≡ true → b ≡ true → (a && b) ≡ true
two true b h k = k
two false b h k = h

pub le_of : (a b : ℕ) → nat_le a b ≡ true → a ≤ b
le_of a b h = grind (arith, nat_tests)

pub lt_of : (a b : ℕ) → nat_lt a b ≡ true → a < b
lt_of a b h = grind (arith, nat_tests)

pub ge_of : (a b : ℕ) → nat_lt a b ≡ false → b ≤ a
ge_of a b h = grind (arith, nat_tests)

pub gt_of : (a b : ℕ) → nat_le a b ≡ false → b < a
gt_of a b h = grind (arith, nat_tests)

pub is_le : (a b : ℕ) → a ≤ b → nat_le a b ≡ true
is_le a b h = grind (arith, nat_tests)

pub is_lt : (a b : ℕ) → a < b → nat_lt a b ≡ true
is_lt a b h = grind (arith, nat_tests)

-- ---- Blocks of whole slots

-- a block of k slots of w bytes, from the c-th on
pub record InSlots (w base size : ℕ) : Type 0 where
  pub some : 0 < w
  pub c : ℕ
  pub k : ℕ
  pub from : base ≡ c * w
  pub bytes : size ≡ k * w

pub in_slots : (g base e : ℕ) → IsPlaced g base e → InSlots (2 ^ g) base (2 ^ e)
in_slots g base e is =
    let r = 2 ^ (e - g) in
    let d = base / 2 ^ e in
    let up : e ≡ (e - g) + g = omega (arith, is.least) in
    let size : 2 ^ e ≡ r * 2 ^ g = ap (λ n. 2 ^ n) up ∙ pow-add 2 (e - g) g in
    let whole : d * 2 ^ e + base % 2 ^ e ≡ base = div-add-mod' base (2 ^ e) in
    let at : base ≡ d * 2 ^ e = omega (arith, whole, is.aligned) in
    record { some = pow_pos g; c = d * r; k = r; from = at ∙ ap (λ n. d * n) size ∙ sym (mul_assoc d r (2 ^ g)); bytes = size }

sum_times : (c k w : ℕ) → c * w + k * w ≡ (c + k) * w
sum_times c k w = grind arith

one_more : (a w : ℕ) → w * a + w ≡ (a + 1) * w
one_more a w = grind arith

swap : (a w : ℕ) → w * a ≡ a * w
swap a w = grind arith

-- the slot of an address in the block is one of its slots
slot_in : (w c k a : ℕ) → 0 < w → c * w ≤ a → a < c * w + k * w → (c * w ≤ w * (a / w)) × (w * (a / w) + w ≤ c * w + k * w)
slot_in w c k a some low high =
    let up : c ≤ a / w = (le-div_iff_mul-le some).1 low in
    let below : a / w + 1 ≤ c + k = less (Rattle.std.proofs.lemmas.Bool.cases_lt (a / w) (c + k)) in
    let lower : w * c ≤ w * (a / w) = mul-le-mul_left w up in
    let upper : w * (a / w + 1) ≤ w * (c + k) = mul-le-mul_left w below in
    (omega (arith, lower, swap c w), omega (arith, upper, swap (a / w + 1) w, swap (c + k) w, one_more (a / w) w, sum_times c k w))
  where
    less : ((a / w < c + k) ⊎ (c + k ≤ a / w)) → a / w + 1 ≤ c + k
    less (inl h) = omega (arith, h)
    less (inr h) = absurd (let z : (c + k) * w ≤ a = (le-div_iff_mul-le some).0 h in let n : ⊥ = omega (arith, z, high, sum_times c k w) in n)

-- an address of the block is in a slot that it holds
pub holds_slot : (g : ℕ) (b : Block) (a : ℕ) → IsPlaced g b.base b.exponent → b.base ≤ a → a < end_of b → holds g b (a / 2 ^ g) ≡ true
holds_slot g b a is low high =
    let s = in_slots g b.base b.exponent is in
    let r = slot_in (2 ^ g) s.c s.k a s.some (omega (arith, low, s.from)) (omega (arith, high, s.from, s.bytes)) in
    two (nat_le b.base (2 ^ g * (a / 2 ^ g))) (nat_le (2 ^ g * (a / 2 ^ g) + 2 ^ g) (end_of b))
    (is_le b.base (2 ^ g * (a / 2 ^ g)) (omega (arith, r.0, s.from)))
    (is_le (2 ^ g * (a / 2 ^ g) + 2 ^ g) (end_of b) (omega (arith, r.1, s.from, s.bytes)))

pub holds_tells : (g : ℕ) (b : Block) (s : ℕ) → holds g b s ≡ true → (b.base ≤ 2 ^ g * s) × (2 ^ g * s + 2 ^ g ≤ end_of b)
holds_tells g b s h =
    let r = both (nat_le b.base (2 ^ g * s)) (nat_le (2 ^ g * s + 2 ^ g) (end_of b)) h in
    (le_of b.base (2 ^ g * s) r.0, le_of (2 ^ g * s + 2 ^ g) (end_of b) r.1)

-- the addresses of a slot
pub slot_addresses : (g a : ℕ) → (2 ^ g * (a / 2 ^ g) ≤ a) × (a < 2 ^ g * (a / 2 ^ g) + 2 ^ g)
slot_addresses g a =
    let w = 2 ^ g in
    let whole : a / w * w + a % w ≡ a = div-add-mod' a w in
    let below : a % w < w = mod_below a w (pow_pos g) in
    (omega (arith, whole, below, swap (a / w) w), omega (arith, whole, below, swap (a / w) w))

-- a block that holds the slot of an address has the address
pub holds_address : (g : ℕ) (b : Block) (a : ℕ) → holds g b (a / 2 ^ g) ≡ true → (b.base ≤ a) × (a < end_of b)
holds_address g b a h =
    let r = holds_tells g b (a / 2 ^ g) h in
    let s = slot_addresses g a in
    (omega (arith, r.0, s.0), omega (arith, r.1, s.1))

-- ---- Lists of blocks

-- each of them may hold an object
abbrev pub ArePlaced : (g : ℕ) → List Block → Type 0
ArePlaced g [] = Unit {0}
ArePlaced g (b ∷ bs) = IsPlaced g b.base b.exponent × ArePlaced g bs

-- some of them holds the slot
abbrev pub is_held : (g : ℕ) → List Block → (slot : ℕ) → Bool
is_held g [] s = false
is_held g (b ∷ bs) s = holds g b s || is_held g bs s

abbrev pub Within : (g : ℕ) → List Block → List Block → Type 0
Within g bs cs = (s : ℕ) → is_held g bs s ≡ true → is_held g cs s ≡ true

pub placed_append : (g : ℕ) (bs cs : List Block) → ArePlaced g bs → ArePlaced g cs → ArePlaced g (bs ++ cs)
placed_append g [] cs h k = k
placed_append g (b ∷ bs) cs h k = (h.0, placed_append g bs cs h.1 k)

either_true : (a b : Bool) → (a || b) ≡ true → (a ≡ true) ⊎ (b ≡ true)
either_true true b h = inl refl
either_true false b h = inr h

or_left : (a b : Bool) → a ≡ true → (a || b) ≡ true
or_left true b h = refl
or_left false b h = absurd (true≢false (sym h))

or_right : (a b : Bool) → b ≡ true → (a || b) ≡ true
or_right true b h = refl
or_right false b h = h

pub held_left : (g : ℕ) (bs cs : List Block) (s : ℕ) → is_held g bs s ≡ true → is_held g (bs ++ cs) s ≡ true
held_left g [] cs s h = absurd (true≢false (sym h))
held_left g (b ∷ bs) cs s h = by (either_true (holds g b s) (is_held g bs s) h) (λ k. held_left g bs cs s k)
  where
    by : ((holds g b s ≡ true) ⊎ (is_held g bs s ≡ true)) → (is_held g bs s ≡ true → is_held g (bs ++ cs) s ≡ true) → is_held g (b ∷ (bs ++ cs)) s ≡ true
    by (inl k) more = or_left (holds g b s) (is_held g (bs ++ cs) s) k
    by (inr k) more = or_right (holds g b s) (is_held g (bs ++ cs) s) (more k)

pub held_right : (g : ℕ) (bs cs : List Block) (s : ℕ) → is_held g cs s ≡ true → is_held g (bs ++ cs) s ≡ true
held_right g [] cs s h = h
held_right g (b ∷ bs) cs s h = or_right (holds g b s) (is_held g (bs ++ cs) s) (held_right g bs cs s h)

pub held_append : (g : ℕ) (bs cs ds : List Block) → Within g bs ds → Within g cs ds → Within g (bs ++ cs) ds
held_append g [] cs ds h k s x = k s x
held_append g (b ∷ bs) cs ds h k s x = by (either_true (holds g b s) (is_held g (bs ++ cs) s) x) (λ y. held_append g bs cs ds (λ t z. h t (or_right (holds g b t) (is_held g bs t) z)) k s y)
  where
    by : ((holds g b s ≡ true) ⊎ (is_held g (bs ++ cs) s ≡ true)) → (is_held g (bs ++ cs) s ≡ true → is_held g ds s ≡ true) → is_held g ds s ≡ true
    by (inl y) more = h s (or_left (holds g b s) (is_held g bs s) y)
    by (inr y) more = more y

-- the block that holds a slot
pub record Holder (g : ℕ) (bs : List Block) (s : ℕ) : Type 0 where
  pub block : Block
  pub is : holder g s bs ≡ Some block
  pub placed : IsPlaced g block.base block.exponent
  pub has : holds g block s ≡ true
  pub byte : byte_of g bs s ≡ block.exponent

pub holder_of : (g : ℕ) (bs : List Block) (s : ℕ) → ArePlaced g bs → is_held g bs s ≡ true → Holder g bs s
holder_of g [] s are h = absurd (true≢false (sym h))
holder_of g (b ∷ bs) s are h = by (holds g b s) refl (λ k. holder_of g bs s are.1 k)
  where
    by : (t : Bool) → holds g b s ≡ t → (is_held g bs s ≡ true → Holder g bs s) → Holder g (b ∷ bs) s
    by true k more = record {
      block = b;
      is = ap (λ t. cond t (Some b) (holder g s bs)) k;
      placed = are.0;
      has = k;
      byte = ap (λ t. cond t b.exponent (byte_of g bs s)) k;
    }
    by false k more =
        let r = more (sym (ap (λ t. t || is_held g bs s) k) ∙ h) in
        record {
          block = r.block;
          is = ap (λ t. cond t (Some b) (holder g s bs)) k ∙ r.is;
          placed = r.placed;
          has = r.has;
          byte = ap (λ t. cond t b.exponent (byte_of g bs s)) k ∙ r.byte;
        }

pub no_holder : (g : ℕ) (bs : List Block) (s : ℕ) → is_held g bs s ≡ false → (holder g s bs ≡ None) × (byte_of g bs s ≡ 0)
no_holder g [] s h = (refl, refl)
no_holder g (b ∷ bs) s h = by (holds g b s) refl (λ k. no_holder g bs s k)
  where
    by : (t : Bool) → holds g b s ≡ t → (is_held g bs s ≡ false → (holder g s bs ≡ None) × (byte_of g bs s ≡ 0)) → (holder g s (b ∷ bs) ≡ None) × (byte_of g (b ∷ bs) s ≡ 0)
    by true k more = absurd (true≢false (sym (or_left (holds g b s) (is_held g bs s) k) ∙ h))
    by false k more =
        let r = more (sym (ap (λ t. t || is_held g bs s) k) ∙ h) in
        (ap (λ t. cond t (Some b) (holder g s bs)) k ∙ r.0, ap (λ t. cond t b.exponent (byte_of g bs s)) k ∙ r.1)

pub byte_small : (g : ℕ) (bs : List Block) (s : ℕ) → ArePlaced g bs → byte_of g bs s ≤ 24
byte_small g bs s are = by (is_held g bs s) refl
  where
    by : (t : Bool) → is_held g bs s ≡ t → byte_of g bs s ≤ 24
    by true k = let r = holder_of g bs s are k in omega (arith, r.byte, r.placed.most)
    by false k = omega (arith, (no_holder g bs s k).1)

-- an address of one of the blocks
pub lies_in_block : (g : ℕ) (bs : List Block) (a size : ℕ) → ArePlaced g bs → (b : Block) → holder g (a / 2 ^ g) bs ≡ Some b → b.base ≤ a → a + size ≤ end_of b → LieIn a size bs
lies_in_block g [] a size are b h low high = absurd (let z : ⊥ = cc in z)
lies_in_block g (c ∷ bs) a size are b h low high = by (holds g c (a / 2 ^ g)) h (λ k. lies_in_block g bs a size are.1 b k low high)
  where
    by : (t : Bool) → cond t (Some c) (holder g (a / 2 ^ g) bs) ≡ Some b → (holder g (a / 2 ^ g) bs ≡ Some b → LieIn a size bs) → LieIn a size (c ∷ bs)
    by true k more = let same : c ≡ b = cc in inl (subst (λ x. x.base ≤ a) (sym same) low, subst (λ x. a + size ≤ end_of x) (sym same) high)
    by false k more = inr (more k)

-- ---- Words

-- the word is null, or the slot that owns it is held
abbrev pub Good : (g : ℕ) → List Block → (word : ℕ) → Type 0
Good g ever x = (x ≡ 0) ⊎ ((s : ℕ) × (owner_slot g x ≡ Some s) × (is_held g ever s ≡ true))

pub good_more : (g : ℕ) (bs cs : List Block) (x : ℕ) → Within g bs cs → Good g bs x → Good g cs x
good_more g bs cs x more (inl h) = inl h
good_more g bs cs x more (inr h) = inr (h.0, h.1, more h.0 h.2)

-- an address of memory is owned by its slot
pub plain_owner : (g a : ℕ) → a < 2 ^ 31 → owner_slot g a ≡ Some (a / 2 ^ g)
plain_owner g a l = grind (arith, nat_tests)

pub good_address : (g : ℕ) (bs : List Block) (a : ℕ) → a < 2 ^ 31 → is_held g bs (a / 2 ^ g) ≡ true → Good g bs a
good_address g bs a small h = inr (a / 2 ^ g, plain_owner g a small, h)

-- a slot that a block holds is one of memory's
pub slot_small : (g : ℕ) (b : Block) (s : ℕ) → IsPlaced g b.base b.exponent → holds g b s ≡ true → s < 2 ^ (25 - g)
slot_small g b s is h =
    let w = 2 ^ g in
    let n = 2 ^ (25 - g) in
    let total : 2 ^ 25 ≡ w * n = (let z : 25 ≡ g + (25 - g) = omega (arith, is.least, is.most) in ap (λ k. 2 ^ k) z ∙ pow-add 2 g (25 - g)) in
    let r = holds_tells g b s h in
    less (Rattle.std.proofs.lemmas.Bool.cases_lt s n) (omega (arith, r.1, is.high, total, pow_pos g))
  where
    less : ((s < 2 ^ (25 - g)) ⊎ (2 ^ (25 - g) ≤ s)) → 2 ^ g * s + 2 ^ g ≤ 2 ^ g * 2 ^ (25 - g) → s < 2 ^ (25 - g)
    less (inl l) k = l
    less (inr l) k = absurd (let z : 2 ^ g * 2 ^ (25 - g) ≤ 2 ^ g * s = mul-le-mul_left (2 ^ g) l in let n : ⊥ = omega (arith, z, k, pow_pos g) in n)

-- the owner of a good word is one of memory's slots
pub good_owner : (g : ℕ) (ever : List Block) (x : ℕ) → ArePlaced g ever → Good g ever x → (s : ℕ) × (owner_slot g x ≡ Some s) × (s < 2 ^ (25 - g))
good_owner g ever x are (inl h) =
    let zero_slot : 0 / 2 ^ g ≡ 0 = nothing_over (2 ^ g) in
    (0, ap (owner_slot g) h ∙ plain_owner g 0 (omega arith) ∙ ap Some zero_slot, pow_pos (25 - g))
  where
    nothing_over : (w : ℕ) → 0 / w ≡ 0
    nothing_over w = grind arith
good_owner g ever x are (inr h) =
    let r = holder_of g ever h.0 are h.2 in
    (h.0, h.1, slot_small g r.block h.0 r.placed r.has)

-- what holds a slot owns it
pub owned_by : (g : ℕ) (b : Block) (x s : ℕ) → IsPlaced g b.base b.exponent → holds g b s ≡ true → owner_slot g x ≡ Some s → OwnedBy g b.base b.exponent (in_memory g (owner_slot g x))
owned_by g b x s is h own =
    let r = holds_tells g b s h in
    let small = slot_small g b s is h in
    record { number = s; is = ap (in_memory g) own ∙ ap (λ t. cond t (Some s) None) (is_lt s (2 ^ (25 - g)) small); low = r.0; high = r.1 }
