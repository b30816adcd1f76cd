-- The text that was read so far is the file's front.
use Rattle.std.proofs.Common.{◌≡◌, ℕ, ◌+◌, ◌≤◌, List, [], ◌++◌, length, take, drop, refl, sym, ap, subst, ◌∙◌, arith, take-add}
use Rattle.std.specs.Prelude.{Result, Ok, Err}
use Rattle.std.proofs.lemmas.Grind.{common_steps}
use Rattle.bb_outside.specs.Files.{Told, Untold, Missing, Holds, Stays}
use Rattle.baggy_tool.specs.declared.reader.ReadError.{ReadError}
use Rattle.baggy_tool.specs.declared.reader.ReadError.TheVariants as read
use Rattle.baggy_tool.specs.Files.{IsFile}
use Rattle.baggy_tool.specs.Building.{FileRead, PieceRead}

abbrev pub IsFront : Told → List ℕ → Type 0
IsFront Untold text = Unit {0}
IsFront Missing text = text ≡ []
IsFront (Holds bytes) text = text ≡ take (length text) bytes

take_own : (xs ys : List ℕ) (k : ℕ) → xs ≡ take k ys → xs ≡ take (length xs) ys
take_own xs ys k h = grind (arith, common_steps)

whole_is : (n : ℕ) (old new bytes : List ℕ) → new ≡ old ++ take 0 (drop (length old) bytes) → old ≡ take (length old) bytes → length bytes ≤ length old → length old ≤ n → new ≡ take n bytes
whole_is n old new bytes p f e l = grind (arith, common_steps)

piece_told : (told told' : Told) (old new : List ℕ) (r : Result ℕ ReadError) → Stays told told' → PieceRead told' old new r → PieceRead told old new r
piece_told Untold told' old new r s h = tt
piece_told Missing told' old new r s h = subst (λ (t : Told). PieceRead t old new r) s h
piece_told (Holds bytes) told' old new r s h = subst (λ (t : Told). PieceRead t old new r) s h

pub front_empty : (told : Told) → IsFront told []
front_empty Untold = tt
front_empty Missing = refl
front_empty (Holds bytes) = refl

pub front_more : (told told' : Told) (old new : List ℕ) (n : ℕ) → IsFront told old → Stays told told' → PieceRead told' old new (Ok n) → IsFront told new
front_more told told' old new n f s h = more told (piece_told told told' old new (Ok n) s h) f
  where
    more : (t : Told) → PieceRead t old new (Ok n) → IsFront t old → IsFront t new
    more Untold p f = tt
    more Missing p f = absurd p
    more (Holds bytes) p f = take_own new bytes (length old + n) (p.0 ∙ ap (λ (l : List ℕ). l ++ take n (drop (length old) bytes)) f ∙ sym (take-add (length old) n bytes))

-- none was left of the file
pub front_end : (most : ℕ) (told told' : Told) (old new : List ℕ) (n : ℕ) → IsFront told old → Stays told told' → length old ≤ most + 1 → length new ≤ most + 1 → n ≡ 0 → PieceRead told' old new (Ok n) → IsFile most told new
front_end most told told' old new n f s l k z h = end told (piece_told told told' old new (Ok 0) s (subst (λ (i : ℕ). PieceRead told' old new (Ok i)) z h)) f
  where
    end : (t : Told) → PieceRead t old new (Ok 0) → IsFront t old → IsFile most t new
    end Untold p f = k
    end Missing p f = p
    end (Holds bytes) p f = whole_is (most + 1) old new bytes p.0 f (p.1 refl) l

-- as many were read as may be
pub front_full : (most : ℕ) (told : Told) (text : List ℕ) → IsFront told text → length text ≡ most + 1 → IsFile most told text
front_full most Untold text f l = omega (arith, l)
front_full most Missing text f l = omega (arith, ap length f)
front_full most (Holds bytes) text f l = f ∙ ap (λ (n : ℕ). take n bytes) l

pub front_err : (A : Type 0) (most : ℕ) (told told' : Told) (old new : List ℕ) (e : ReadError) → Stays told told' → PieceRead told' old new (Err e) → FileRead {A = A} most told (Err e)
front_err A most told told' old new e s h = err A told old new e (piece_told told told' old new (Err e) s h)
  where
    err : (A : Type 0) (t : Told) (old new : List ℕ) (e : ReadError) → PieceRead t old new (Err e) → FileRead {A = A} most t (Err e)
    err A Untold old new read.NoFile p = tt
    err A Missing old new read.NoFile p = tt
    err A (Holds bytes) old new read.NoFile p = p
    err A t old new read.Fault p = tt
    err A t old new read.Memory p = tt
