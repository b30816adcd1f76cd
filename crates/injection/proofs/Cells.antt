-- What cells hold as numbers and pointers, and the numbers of their bytes.
use Rattle.std.proofs.Common.{◌≡◌, ℕ, zero, suc, ◌+◌, ◌*◌, ◌/◌, ◌%◌, ◌^◌, ◌<◌, Bool, true, false, ◌&&◌, ◌==◌, cond, List, [], ◌∷◌, map, length, All, Option, Some, None, ℤ, pos, negsuc, refl, sym, ap, ◌∙◌, arith, eqb-true, true≢false}
use Rattle.std.proofs.lemmas.Option.{same_Some, none-some}
use Rattle.std.proofs.lemmas.List.Elements.{All-nil, All-cons}
use Rattle.source_meaning.specs.declared.values.Pointer.{Pointer}
use Rattle.source_meaning.specs.declared.values.Pointer.TheVariants.{Null, To}
use Rattle.source_meaning.specs.declared.values.Cell.{Cell}
use Rattle.source_meaning.specs.declared.values.Cell.TheVariants.{Byte, Part}
use Rattle.source_meaning.specs.Objects as objects
use Rattle.source_meaning.specs.Objects.{Object, pointer_cells, same_int, same_pointer, same_cell, same_cells, candidate, pointer_in, number_in, with_low_byte}
use Rattle.flat_code.specs.World.{number_of, bytes_of}
use Rattle.injection.specs.Words.{word_of, byte_of}
use Rattle.injection.specs.Memory.{IsPointer, IsCell}

pub and_left : (a b : Bool) → (a && b) ≡ true → a ≡ true
and_left true b h = refl
and_left false b h = h

pub and_right : (a b : Bool) → (a && b) ≡ true → b ≡ true
and_right true b h = h
and_right false b h = absurd (true≢false (sym h))

pub int_from : (a b : ℤ) → same_int a b ≡ true → a ≡ b
int_from (pos a) (pos b) h = ap pos (eqb-true a b h)
int_from (pos a) (negsuc b) h = absurd (true≢false (sym h))
int_from (negsuc a) (pos b) h = absurd (true≢false (sym h))
int_from (negsuc a) (negsuc b) h = ap negsuc (eqb-true a b h)

pub pointer_from : (p q : Pointer) → same_pointer p q ≡ true → p ≡ q
pointer_from Null Null h = refl
pointer_from Null (To k z) h = absurd (true≢false (sym h))
pointer_from (To k z) Null h = absurd (true≢false (sym h))
pointer_from (To j y) (To k z) h = ap (λ n. To n y) (eqb-true j k (and_left (j == k) _ h)) ∙ ap (To k) (int_from y z (and_right (j == k) _ h))

cell_from : (c d : Cell) → same_cell c d ≡ true → c ≡ d
cell_from (Byte a) (Byte b) h = ap Byte (eqb-true a b h)
cell_from (Byte a) (Part k p) h = absurd (true≢false (sym h))
cell_from (Part k p) (Byte b) h = absurd (true≢false (sym h))
cell_from (Part j p) (Part k q) h = ap (λ n. Part n p) (eqb-true j k (and_left (j == k) _ h)) ∙ ap (Part k) (pointer_from p q (and_right (j == k) _ h))

cells_from : (cs ds : List Cell) → same_cells cs ds ≡ true → cs ≡ ds
cells_from [] [] h = refl
cells_from [] (d ∷ ds) h = absurd (true≢false (sym h))
cells_from (c ∷ cs) [] h = absurd (true≢false (sym h))
cells_from (c ∷ cs) (d ∷ ds) h = ap (λ x. x ∷ cs) (cell_from c d (and_left (same_cell c d) _ h)) ∙ ap (λ x. d ∷ x) (cells_from cs ds (and_right (same_cell c d) _ h))

pub pointer_in_cells : (cs : List Cell) (p : Pointer) → pointer_in cs ≡ Some p → cs ≡ pointer_cells p
pointer_in_cells cs p h = at_test (same_cells cs (pointer_cells (candidate cs))) refl h
  where
    at_test : (t : Bool) → same_cells cs (pointer_cells (candidate cs)) ≡ t → cond t (Some (candidate cs)) None ≡ Some p → cs ≡ pointer_cells p
    at_test true e k = cells_from cs _ e ∙ ap pointer_cells (same_Some _ _ k)
    at_test false e k = absurd (none-some _ k)

four_bytes : (w : ℕ) → w < 2 ^ 32 → w % 256 + 256 * (w / 256 % 256 + 256 * (w / 65536 % 256 + 256 * (w / 16777216 % 256 + 256 * 0))) ≡ w
four_bytes w h = omega arith

-- the four bytes of a pointer's cells are those of its word
pub pointer_number : (os : List Object) (p : Pointer) → word_of os p < 2 ^ 32 → number_of (map (byte_of os) (pointer_cells p)) ≡ word_of os p
pointer_number os Null h = refl
pointer_number os (To k z) h =
    let w = word_of os (To k z) in
    let one : w / 1 ≡ w = omega arith in
    ap (λ n. n % 256 + 256 * (w / 256 % 256 + 256 * (w / 65536 % 256 + 256 * (w / 16777216 % 256 + 256 * 0)))) one ∙ four_bytes w h

at_next : (b v n : ℕ) (o : Option ℕ) → ((k : ℕ) → o ≡ Some k → v ≡ k) → with_low_byte b o ≡ Some n → b + 256 * v ≡ n
at_next b v n None ih h = absurd (none-some _ h)
at_next b v n (Some k) ih h = ap (λ m. b + 256 * m) (ih k refl) ∙ same_Some _ _ h

pub number_value : (os : List Object) (cs : List Cell) (n : ℕ) → number_in cs ≡ Some n → number_of (map (byte_of os) cs) ≡ n
number_value os [] n h = same_Some _ _ h
number_value os (Byte b ∷ cs) n h = at_next b (number_of (map (byte_of os) cs)) n (number_in cs) (λ k e. number_value os cs k e) h
number_value os (Part k p ∷ cs) n h = absurd (none-some _ h)

-- ---- What is stored

-- the bytes of a number's cells
pub number_bytes : (os : List Object) (n word : ℕ) → map (byte_of os) (map Byte (objects.bytes_of n word)) ≡ bytes_of n word
number_bytes os zero word = refl
number_bytes os (suc n) word = ap (λ xs. word % 256 ∷ xs) (number_bytes os n (word / 256))

pub number_length : (n word : ℕ) → length (map Byte (objects.bytes_of n word)) ≡ n
number_length zero word = refl
number_length (suc n) word = ap suc (number_length n (word / 256))

pub number_formed : (g : ℕ) (os : List Object) (n word : ℕ) → All (IsCell g os) (map Byte (objects.bytes_of n word))
number_formed g os zero word = All-nil (IsCell g os)
number_formed g os (suc n) word = All-cons (IsCell g os) (Byte (word % 256)) _ (let q : word % 256 < 256 = omega arith in q) (number_formed g os n (word / 256))

-- the bytes of a pointer's cells
pub pointer_bytes : (os : List Object) (q : Pointer) → map (byte_of os) (pointer_cells q) ≡ bytes_of 4 (word_of os q)
pointer_bytes os Null = refl
pointer_bytes os (To k z) = parts (word_of os (To k z))
  where
    parts : (w : ℕ) → (w / 1 % 256) ∷ (w / 256 % 256) ∷ (w / 65536 % 256) ∷ (w / 16777216 % 256) ∷ [] ≡ (w % 256) ∷ (w / 256 % 256) ∷ (w / 256 / 256 % 256) ∷ (w / 256 / 256 / 256 % 256) ∷ []
    parts w =
        let a : w / 1 % 256 ≡ w % 256 = omega arith in
        let c : w / 65536 % 256 ≡ w / 256 / 256 % 256 = omega arith in
        let d : w / 16777216 % 256 ≡ w / 256 / 256 / 256 % 256 = omega arith in
        ap (λ x. x ∷ (w / 256 % 256) ∷ (w / 65536 % 256) ∷ (w / 16777216 % 256) ∷ []) a
        ∙ ap (λ x. (w % 256) ∷ (w / 256 % 256) ∷ x ∷ (w / 16777216 % 256) ∷ []) c
        ∙ ap (λ x. (w % 256) ∷ (w / 256 % 256) ∷ (w / 256 / 256 % 256) ∷ x ∷ []) d

pub pointer_length : (q : Pointer) → length (pointer_cells q) ≡ 4
pointer_length Null = refl
pointer_length (To k z) = refl

four_formed : (g : ℕ) (os : List Object) (a b c d : Cell) → IsCell g os a → IsCell g os b → IsCell g os c → IsCell g os d → All (IsCell g os) (a ∷ b ∷ c ∷ d ∷ [])
four_formed g os a b c d ha hb hc hd =
    All-cons (IsCell g os) a (b ∷ c ∷ d ∷ []) ha (All-cons (IsCell g os) b (c ∷ d ∷ []) hb (All-cons (IsCell g os) c (d ∷ []) hc (All-cons (IsCell g os) d [] hd (All-nil (IsCell g os)))))

pub pointer_formed : (g : ℕ) (os : List Object) (q : Pointer) → IsPointer g os q → All (IsCell g os) (pointer_cells q)
pointer_formed g os Null h = let z : 0 < 256 = omega arith in four_formed g os (Byte 0) (Byte 0) (Byte 0) (Byte 0) z z z z
pointer_formed g os (To k z) h =
    four_formed g os (Part 0 (To k z)) (Part 1 (To k z)) (Part 2 (To k z)) (Part 3 (To k z))
    ((let q : 0 < 4 = omega arith in q), h) ((let q : 1 < 4 = omega arith in q), h) ((let q : 2 < 4 = omega arith in q), h) ((let q : 3 < 4 = omega arith in q), h)
