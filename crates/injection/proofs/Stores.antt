-- What cells hold, memory holds; and writes keep it so.
use Rattle.std.proofs.Common.{◌≡◌, ◌≢◌, ◌⊎◌, ℕ, zero, suc, ◌+◌, ◌^◌, ◌<◌, ◌≤◌, List, [], ◌∷◌, length, map, All, slice_get, refl, sym, ap, ◌∙◌, subst, inl, inr, arith}
use Rattle.std.proofs.lemmas.Option.{same_Some}
use Rattle.std.proofs.lemmas.Bool.{cases_eq}
use Rattle.std.proofs.lemmas.Bool.Decides.{nat_tests}
use Rattle.std.proofs.lemmas.List.Elements.{All-head, All-tail}
use Rattle.source_meaning.specs.declared.values.Cell.{Cell}
use Rattle.source_meaning.specs.declared.values.Cell.TheVariants.{Byte}
use Rattle.source_meaning.specs.Objects.{Object, Cells, with_cell, cells_at, with_cells, cleared}
use Rattle.flat_code.specs.World.{Memory, with_byte, bytes_at, with_bytes, zeroed}
use Rattle.injection.specs.Words.{byte_of}
use Rattle.injection.specs.Memory.{IsLive, AreLaidOut, IsCell, Holds, Injects}

pub with_byte_same : (memory : Memory) (at byte a : ℕ) → a ≡ at → with_byte memory at byte a ≡ byte
with_byte_same memory at byte a e = grind (arith, nat_tests)

pub with_byte_other : (memory : Memory) (at byte a : ℕ) → a ≢ at → with_byte memory at byte a ≡ memory a
with_byte_other memory at byte a e = grind (arith, nat_tests)

pub with_cell_same : (cs : Cells) (k i : ℕ) (c : Cell) (j n : ℕ) → j ≡ k → n ≡ i → with_cell cs k i c j n ≡ c
with_cell_same cs k i c j n e f = grind (arith, nat_tests)

pub with_cell_object : (cs : Cells) (k i : ℕ) (c : Cell) (j n : ℕ) → j ≢ k → with_cell cs k i c j n ≡ cs j n
with_cell_object cs k i c j n e = grind (arith, nat_tests)

pub with_cell_place : (cs : Cells) (k i : ℕ) (c : Cell) (j n : ℕ) → n ≢ i → with_cell cs k i c j n ≡ cs j n
with_cell_place cs k i c j n e = grind (arith, nat_tests)

pub cleared_same : (cs : Cells) (k j n : ℕ) → j ≡ k → cleared cs k j n ≡ Byte 0
cleared_same cs k j n e = grind (arith, nat_tests)

pub cleared_other : (cs : Cells) (k j n : ℕ) → j ≢ k → cleared cs k j n ≡ cs j n
cleared_other cs k j n e = grind (arith, nat_tests)

pub zeroed_in : (memory : Memory) (at n a : ℕ) → at ≤ a → a < at + n → zeroed memory at n a ≡ 0
zeroed_in memory at n a h l = grind (arith, nat_tests)

pub zeroed_out : (memory : Memory) (at n a : ℕ) → (at ≤ a → a < at + n → ⊥) → zeroed memory at n a ≡ memory a
zeroed_out memory at n a h = grind (arith, nat_tests)

-- one object at one number
pub same_object : (os : List Object) (j k : ℕ) (p q : Object) → IsLive os j p → IsLive os k q → j ≡ k → p ≡ q
same_object os j k p q g h e = same_Some _ _ (sym g.there ∙ ap (slice_get os) e ∙ h.there)

-- two places of live objects with one address are one
pub other_address : (g : ℕ) (os : List Object) (j k : ℕ) (p q : Object) (n i : ℕ) → AreLaidOut g os → IsLive os j p → IsLive os k q → n < p.length → i < q.length → j ≢ k → p.base + n ≢ q.base + i
other_address g os j k p q n i out l r a b ne =
    let f = (out.accounts j p l.there).fits in
    let f' = (out.accounts k q r.there).fits in
    let apart = out.apart j k p q l r ne in
    omega arith

cell_stored : (g : ℕ) (os : List Object) (cs : Cells) (memory : Memory) (k : ℕ) (o : Object) (i : ℕ) (c : Cell) → AreLaidOut g os → Holds os cs memory → IsLive os k o → i < o.length → Holds os (with_cell cs k i c) (with_byte memory (o.base + i) (byte_of os c))
cell_stored g os cs memory k o i c out h l within = record { bytes = λ j p n r at. at_object j p n r at (cases_eq j k) }
  where
    at_object : (j : ℕ) (p : Object) (n : ℕ) → IsLive os j p → n < p.length → (j ≡ k) ⊎ (j ≡ k → ⊥) → with_byte memory (o.base + i) (byte_of os c) (p.base + n) ≡ byte_of os (with_cell cs k i c j n)
    at_object j p n r at (inr ne) =
        with_byte_other memory (o.base + i) (byte_of os c) (p.base + n) (other_address g os j k p o n i out r l at within ne) ∙ h.bytes j p n r at ∙ sym (ap (byte_of os) (with_cell_object cs k i c j n ne))
    at_object j p n r at (inl e) = at_place (cases_eq n i)
      where
        b : p.base ≡ o.base
        b = ap (λ (x : Object). x.base) (same_object os j k p o r l e)

        at_place : (n ≡ i) ⊎ (n ≡ i → ⊥) → with_byte memory (o.base + i) (byte_of os c) (p.base + n) ≡ byte_of os (with_cell cs k i c j n)
        at_place (inl f) = with_byte_same memory (o.base + i) (byte_of os c) (p.base + n) (omega (arith, b)) ∙ sym (ap (byte_of os) (with_cell_same cs k i c j n e f))
        at_place (inr f) = with_byte_other memory (o.base + i) (byte_of os c) (p.base + n) (omega (arith, b)) ∙ h.bytes j p n r at ∙ sym (ap (byte_of os) (with_cell_place cs k i c j n f))

cell_formed : (g : ℕ) (os : List Object) (cs : Cells) (k i : ℕ) (c : Cell) → ((j n : ℕ) → IsCell g os (cs j n)) → IsCell g os c → (j n : ℕ) → IsCell g os (with_cell cs k i c j n)
cell_formed g os cs k i c h here j n = at (cases_eq j k) (cases_eq n i)
  where
    at : (j ≡ k) ⊎ (j ≡ k → ⊥) → (n ≡ i) ⊎ (n ≡ i → ⊥) → IsCell g os (with_cell cs k i c j n)
    at (inl e) (inl f) = subst (IsCell g os) (sym (with_cell_same cs k i c j n e f)) here
    at (inl e) (inr f) = subst (IsCell g os) (sym (with_cell_place cs k i c j n f)) (h j n)
    at (inr e) f = subst (IsCell g os) (sym (with_cell_object cs k i c j n e)) (h j n)

-- a cell is written, and its byte
pub cell_keeps : (g : ℕ) (os : List Object) (cs : Cells) (memory : Memory) (k : ℕ) (o : Object) (i : ℕ) (c : Cell) → IsLive os k o → i < o.length → IsCell g os c → Injects g os cs memory → Injects g os (with_cell cs k i c) (with_byte memory (o.base + i) (byte_of os c))
cell_keeps g os cs memory k o i c l lt is h = record {
  out = h.out;
  cells = cell_formed g os cs k i c h.cells is;
  holds = cell_stored g os cs memory k o i c h.out h.holds l lt;
}

-- cells are written, and their bytes
pub cells_keep : (g : ℕ) (os : List Object) (cs : Cells) (memory : Memory) (k : ℕ) (o : Object) (i : ℕ) (xs : List Cell) → IsLive os k o → i + length xs ≤ o.length → All (IsCell g os) xs → Injects g os cs memory → Injects g os (with_cells cs k i xs) (with_bytes memory (o.base + i) (map (byte_of os) xs))
cells_keep g os cs memory k o i [] l lt is h = h
cells_keep g os cs memory k o i (x ∷ xs) l lt is h =
    let here = cell_keeps g os cs memory k o i x l (omega arith) (All-head (IsCell g os) x xs is) h in
    let a : o.base + i + 1 ≡ o.base + (i + 1) = omega arith in
    subst (λ n. Injects g os (with_cells (with_cell cs k i x) k (i + 1) xs) (with_bytes (with_byte memory (o.base + i) (byte_of os x)) n (map (byte_of os) xs))) (sym a)
    (cells_keep g os (with_cell cs k i x) (with_byte memory (o.base + i) (byte_of os x)) k o (i + 1) xs l (omega arith) (All-tail (IsCell g os) x xs is) here)

-- bytes are read where cells are
pub cells_read : (os : List Object) (cs : Cells) (memory : Memory) (k : ℕ) (o : Object) (i n : ℕ) → Holds os cs memory → IsLive os k o → i + n ≤ o.length → bytes_at memory (o.base + i) n ≡ map (byte_of os) (cells_at cs k i n)
cells_read os cs memory k o i zero h l within = refl
cells_read os cs memory k o i (suc n) h l within =
    let a : o.base + i + 1 ≡ o.base + (i + 1) = omega arith in
    let here = h.bytes k o i l (omega arith) in
    let rest = cells_read os cs memory k o (i + 1) n h l (omega arith) in
    ap (λ b. b ∷ bytes_at memory (o.base + i + 1) n) here ∙ ap (λ t. byte_of os (cs k i) ∷ t) (ap (λ x. bytes_at memory x n) a ∙ rest)

-- an object is cleared, and the bytes of its block from its start on, as far as it reaches or further
pub clear_keeps : (g : ℕ) (os : List Object) (cs : Cells) (memory : Memory) (k : ℕ) (o : Object) (n : ℕ) → IsLive os k o → o.length ≤ n → n ≤ 2 ^ o.exponent → Injects g os cs memory → Injects g os (cleared cs k) (zeroed memory o.base n)
clear_keeps g os cs memory k o n l least most h = record {
  out = h.out;
  cells = λ j i. formed j i (cases_eq j k);
  holds = record { bytes = λ j p i r at. at_object j p i r at (cases_eq j k) };
}
  where
    formed : (j i : ℕ) → (j ≡ k) ⊎ (j ≡ k → ⊥) → IsCell g os (cleared cs k j i)
    formed j i (inl e) = subst (IsCell g os) (sym (cleared_same cs k j i e)) (let q : 0 < 256 = omega arith in q)
    formed j i (inr e) = subst (IsCell g os) (sym (cleared_other cs k j i e)) (h.cells j i)

    at_object : (j : ℕ) (p : Object) (i : ℕ) → IsLive os j p → i < p.length → (j ≡ k) ⊎ (j ≡ k → ⊥) → zeroed memory o.base n (p.base + i) ≡ byte_of os (cleared cs k j i)
    at_object j p i r at (inl e) =
        let same = same_object os j k p o r l e in
        let b : p.base ≡ o.base = ap (λ (x : Object). x.base) same in
        let m : p.length ≡ o.length = ap (λ (x : Object). x.length) same in
        zeroed_in memory o.base n (p.base + i) (omega arith) (omega arith) ∙ sym (ap (byte_of os) (cleared_same cs k j i e))
    at_object j p i r at (inr e) =
        let f = (h.out.accounts j p r.there).fits in
        let apart = h.out.apart j k p o r l e in
        zeroed_out memory o.base n (p.base + i) (λ x y. omega arith) ∙ h.holds.bytes j p i r at ∙ sym (ap (byte_of os) (cleared_other cs k j i e))
