-- The blocks of the live objects.
use Rattle.std.proofs.Common.{◌≡◌, ◌≢◌, ◌⊎◌, ℕ, zero, suc, ◌+◌, ◌*◌, ◌^◌, ◌<◌, ◌≤◌, Bool, true, false, ◌&&◌, cond, nat_le, List, [], ◌∷◌, ◌++◌, Some, refl, sym, ap, ◌∙◌, subst, inl, inr, arith, true≢false, pow_pos, eq-eqb, ne_eqb}
use Rattle.std.proofs.lemmas.Option.{same_Some, none-some}
use Rattle.std.proofs.lemmas.Bool.Decides.{nat_tests}
use Rattle.size_table.specs.Blocks.{Block, block_at, end_of, holds, MissEachOther, MissesAll, AreDisjoint, without}
use Rattle.size_table.specs.Table.{byte_of}
use Rattle.source_meaning.specs.Objects.{Object, ended_in}
use Rattle.source_meaning.specs.Worlds.{live_blocks}
use Rattle.injection.specs.Memory.{IsLive, AreApart, AreLaidOut, IsFree}

abbrev pub IsAmong : Block → List Block → Type 0
IsAmong a [] = ⊥
IsAmong a (b ∷ bs) = (a ≡ b) ⊎ IsAmong a bs

abbrev pub block_of : Object → Block
block_of o = block_at o.base o.exponent

-- ---- The byte of a slot

-- a slot is held by one of two blocks that do not meet
held_once : (g : ℕ) (a b : Block) (slot : ℕ) → MissEachOther a b → holds g a slot ≡ true → holds g b slot ≡ false
held_once g a b slot m h = apart (2 ^ g) (pow_pos g) (2 ^ g * slot) a.base (end_of a) b.base (end_of b) m h
  where
    apart : (p : ℕ) → 0 < p → (x al ah bl bh : ℕ) → (ah ≤ bl) ⊎ (bh ≤ al) → (nat_le al x && nat_le (x + p) ah) ≡ true → (nat_le bl x && nat_le (x + p) bh) ≡ false
    apart p q x al ah bl bh (inl m) h = grind (arith, nat_tests)
    apart p q x al ah bl bh (inr m) h = grind (arith, nat_tests)

pub misses_among : (b a : Block) (bs : List Block) → MissesAll b bs → IsAmong a bs → MissEachOther b a
misses_among b a [] m h = absurd h
misses_among b a (c ∷ cs) m (inl e) = subst (MissEachOther b) (sym e) m.0
misses_among b a (c ∷ cs) m (inr h) = misses_among b a cs m.1 h

turned : (b a : Block) → MissEachOther b a → MissEachOther a b
turned b a (inl m) = inr m
turned b a (inr m) = inl m

-- the slots of a block have its exponent
pub byte_among : (g : ℕ) (a : Block) (bs : List Block) (slot : ℕ) → AreDisjoint bs → IsAmong a bs → holds g a slot ≡ true → byte_of g bs slot ≡ a.exponent
byte_among g a [] slot d h t = absurd h
byte_among g a (b ∷ bs) slot d (inl e) t = ap (λ x. cond x b.exponent (byte_of g bs slot)) (subst (λ y. holds g y slot ≡ true) e t) ∙ ap (λ (y : Block). y.exponent) (sym e)
byte_among g a (b ∷ bs) slot d (inr k) t = ap (λ x. cond x b.exponent (byte_of g bs slot)) (held_once g a b slot (turned b a (misses_among b a bs d.0 k)) t) ∙ byte_among g a bs slot d.1 k t

-- ---- The list of blocks

later : (o : Object) (os : List Object) (k : ℕ) (p : Object) → IsLive os k p → IsLive (o ∷ os) (suc k) p
later o os k p l = record { there = l.there; live = l.live }

sooner : (o : Object) (os : List Object) (k : ℕ) (p : Object) → IsLive (o ∷ os) (suc k) p → IsLive os k p
sooner o os k p l = record { there = l.there; live = l.live }

first : (o : Object) (os : List Object) → o.live ≡ true → IsLive (o ∷ os) 0 o
first o os e = record { there = refl; live = e }

pub laid_out_rest : (g : ℕ) (o : Object) (os : List Object) → AreLaidOut g (o ∷ os) → AreLaidOut g os
laid_out_rest g o os h = record {
  accounts = λ k p e. h.accounts (suc k) p e;
  apart = λ j k p q l r n. h.apart (suc j) (suc k) p q (later o os j p l) (later o os k q r) (λ e. n (omega arith));
}

free_rest : (o n : Object) (os : List Object) → IsFree (o ∷ os) n → IsFree os n
free_rest o n os h = record { apart = λ k p l. h.apart (suc k) p (later o os k p l) }

misses_step : (n : Object) (o : Object) (bs : List Block) (b : Bool) → (b ≡ true → AreApart n o) → MissesAll (block_of n) bs → MissesAll (block_of n) (cond b (block_of o ∷ bs) bs)
misses_step n o bs true a h = (a refl, h)
misses_step n o bs false a h = h

pub misses_live : (n : Object) (os : List Object) → IsFree os n → MissesAll (block_of n) (live_blocks os)
misses_live n [] h = tt
misses_live n (o ∷ os) h = misses_step n o (live_blocks os) o.live (λ e. h.apart 0 o (first o os e)) (misses_live n os (free_rest o n os h))

disjoint_step : (o : Object) (bs : List Block) (b : Bool) → (b ≡ true → MissesAll (block_of o) bs) → AreDisjoint bs → AreDisjoint (cond b (block_of o ∷ bs) bs)
disjoint_step o bs true a h = (a refl, h)
disjoint_step o bs false a h = h

pub disjoint_live : (g : ℕ) (os : List Object) → AreLaidOut g os → AreDisjoint (live_blocks os)
disjoint_live g [] h = tt
disjoint_live g (o ∷ os) h =
    disjoint_step o (live_blocks os) o.live
    (λ e. misses_live o os (record { apart = λ k p l. h.apart 0 (suc k) o p (first o os e) (later o os k p l) (omega arith) }))
    (disjoint_live g os (laid_out_rest g o os h))

pub among_live : (os : List Object) (k : ℕ) (o : Object) → IsLive os k o → IsAmong (block_of o) (live_blocks os)
among_live [] k o l = absurd (none-some _ l.there)
among_live (p ∷ os) zero o l = at_flag p.live (ap (λ (x : Object). x.live) e ∙ l.live)
  where
    e : p ≡ o
    e = same_Some _ _ l.there

    at_flag : (b : Bool) → b ≡ true → IsAmong (block_of o) (cond b (block_of p ∷ live_blocks os) (live_blocks os))
    at_flag true q = inl (ap block_of (sym e))
    at_flag false q = absurd (true≢false (sym q))
among_live (p ∷ os) (suc k) o l = at_flag p.live (among_live os k o (sooner p os k o l))
  where
    at_flag : (b : Bool) → IsAmong (block_of o) (live_blocks os) → IsAmong (block_of o) (cond b (block_of p ∷ live_blocks os) (live_blocks os))
    at_flag true h = inr h
    at_flag false h = h

pub live_blocks_made : (os : List Object) (o : Object) → o.live ≡ true → live_blocks (os ++ o ∷ []) ≡ live_blocks os ++ block_of o ∷ []
live_blocks_made [] o e = ap (λ b. cond b (block_of o ∷ []) []) e
live_blocks_made (p ∷ os) o e = at_flag p.live (live_blocks_made os o e)
  where
    at_flag : (b : Bool) → live_blocks (os ++ o ∷ []) ≡ live_blocks os ++ block_of o ∷ [] → cond b (block_of p ∷ live_blocks (os ++ o ∷ [])) (live_blocks (os ++ o ∷ [])) ≡ cond b (block_of p ∷ live_blocks os) (live_blocks os) ++ block_of o ∷ []
    at_flag true h = ap (λ t. block_of p ∷ t) h
    at_flag false h = h

apart_bases : (p q : Object) → AreApart p q → p.base ≢ q.base
apart_bases p q h = omega (arith, pow_pos p.exponent, pow_pos q.exponent)

without_step : (p : Object) (bs : List Block) (at : ℕ) (b : Bool) → (b ≡ true → p.base ≢ at) → cond b (block_of p ∷ without at bs) (without at bs) ≡ without at (cond b (block_of p ∷ bs) bs)
without_step p bs at true n = sym (ap (λ t. cond t bs (block_of p ∷ without at bs)) (ne_eqb p.base at (n refl)))
without_step p bs at false n = refl

ended_first : (p : Object) (bs : List Block) (at : ℕ) (b : Bool) → b ≡ true → p.base ≡ at → bs ≡ without at (cond b (block_of p ∷ bs) bs)
ended_first p bs at true e f = sym (ap (λ t. cond t bs (block_of p ∷ without at bs)) (eq-eqb p.base at f))
ended_first p bs at false e f = absurd (true≢false (sym e))

pub live_blocks_ended : (g : ℕ) (os : List Object) (k : ℕ) (o : Object) → AreLaidOut g os → IsLive os k o → live_blocks (ended_in os k (Some o)) ≡ without o.base (live_blocks os)
live_blocks_ended g [] k o out l = absurd (none-some _ l.there)
live_blocks_ended g (p ∷ os) zero o out l =
    let e = same_Some _ _ l.there in
    ended_first p (live_blocks os) o.base p.live (ap (λ (x : Object). x.live) e ∙ l.live) (ap (λ (x : Object). x.base) e)
live_blocks_ended g (p ∷ os) (suc k) o out l =
    ap (λ t. cond p.live (block_of p ∷ t) t) (live_blocks_ended g os k o (laid_out_rest g p os out) (sooner p os k o l))
    ∙ without_step p (live_blocks os) o.base p.live (λ e. apart_bases p o (out.apart 0 (suc k) p o (first p os e) (later p os k o (sooner p os k o l)) (omega arith)))
