-- Objects that come and go keep it that memory holds what objects hold.
use Rattle.std.proofs.Common.{◌≡◌, ◌≢◌, ◌⊎◌, ℕ, ◌+◌, ◌^◌, ◌<◌, false, List, [], ◌∷◌, ◌++◌, length, Some, slice_get, sym, ap, ◌∙◌, subst, inl, inr, arith}
use Rattle.std.proofs.lemmas.Option.{same_Some, slice_get_within}
use Rattle.std.proofs.lemmas.Bool.{cases_eq}
use Rattle.source_meaning.specs.Objects.{Object, Cells, cleared, ended_in}
use Rattle.flat_code.specs.World.{Memory, zeroed}
use Rattle.injection.specs.Words.{byte_of}
use Rattle.injection.specs.Memory.{IsLive, IsAccount, AreApart, AreLaidOut, IsFree, IsCell, Injects}
use Rattle.injection.proofs.Lists.{set_same, set_other, get_pushed}
use Rattle.injection.proofs.Accounts.{accounted_more, accounted_ended_at, cell_kept, byte_kept, live_made, live_before}
use Rattle.injection.proofs.Stores.{cleared_same, cleared_other, zeroed_in, zeroed_out}

laid_out_made : (g : ℕ) (os : List Object) (o : Object) → AreLaidOut g os → IsAccount g o → IsFree os o → AreLaidOut g (os ++ o ∷ [])
laid_out_made g os o out here free = record {
  accounts = λ k p e. elim (get_pushed os o p k e) [ inl t ↦ out.accounts k p t | inr r ↦ subst (IsAccount g) (sym r.1) here ];
  apart = λ i j p q l r ne. both i j p q ne (live_made os o i p l) (live_made os o j q r);
}
  where
    turn : (p q : Object) → AreApart p q → AreApart q p
    turn p q (inl h) = inr h
    turn p q (inr h) = inl h

    both : (i j : ℕ) (p q : Object) → i ≢ j → IsLive os i p ⊎ ((i ≡ length os) × (p ≡ o)) → IsLive os j q ⊎ ((j ≡ length os) × (q ≡ o)) → AreApart p q
    both i j p q ne (inl a) (inl b) = out.apart i j p q a b ne
    both i j p q ne (inl a) (inr b) = subst (AreApart p) (sym b.1) (turn o p (free.apart i p a))
    both i j p q ne (inr a) (inl b) = subst (λ x. AreApart x q) (sym a.1) (free.apart j q b)
    both i j p q ne (inr a) (inr b) = absurd (ne (a.0 ∙ sym b.0))

-- a new object, all of whose cells are zero, as the bytes of its padded block are
pub made_keeps : (g : ℕ) (os : List Object) (cs : Cells) (memory : Memory) (o : Object) → IsAccount g o → IsFree os o → Injects g os cs memory → Injects g (os ++ o ∷ []) (cleared cs (length os)) (zeroed memory o.base (2 ^ o.exponent))
made_keeps g os cs memory o here free h = record {
  out = laid_out_made g os o h.out here free;
  cells = λ k i. formed k i (cases_eq k (length os));
  holds = record { bytes = λ j p i l lt. at_object j p i lt (live_made os o j p l) };
}
  where
    formed : (k i : ℕ) → (k ≡ length os) ⊎ (k ≡ length os → ⊥) → IsCell g (os ++ o ∷ []) (cleared cs (length os) k i)
    formed k i (inl e) = subst (IsCell g (os ++ o ∷ [])) (sym (cleared_same cs (length os) k i e)) (let q : 0 < 256 = omega arith in q)
    formed k i (inr n) = subst (IsCell g (os ++ o ∷ [])) (sym (cleared_other cs (length os) k i n)) (cell_kept g os _ (cs k i) (accounted_more os _) (h.cells k i))

    at_object : (j : ℕ) (p : Object) (i : ℕ) → i < p.length → IsLive os j p ⊎ ((j ≡ length os) × (p ≡ o)) → zeroed memory o.base (2 ^ o.exponent) (p.base + i) ≡ byte_of (os ++ o ∷ []) (cleared cs (length os) j i)
    at_object j p i lt (inr r) =
        let b : p.base ≡ o.base = ap (λ (x : Object). x.base) r.1 in
        let n : p.length ≡ o.length = ap (λ (x : Object). x.length) r.1 in
        zeroed_in memory o.base (2 ^ o.exponent) (p.base + i) (omega arith) (omega (arith, here.fits)) ∙ sym (ap (byte_of (os ++ o ∷ [])) (cleared_same cs (length os) j i r.0))
    at_object j p i lt (inl t) =
        let w = slice_get_within os j p t.there in
        let f = (h.out.accounts j p t.there).fits in
        let a = free.apart j p t in
        zeroed_out memory o.base (2 ^ o.exponent) (p.base + i) (λ x y. omega arith) ∙ h.holds.bytes j p i t lt
        ∙ sym (ap (byte_of (os ++ o ∷ [])) (cleared_other cs (length os) j i (omega arith)) ∙ byte_kept g os _ (cs j i) (accounted_more os _) (h.cells j i))

accounts_ended : (g : ℕ) (os : List Object) (k : ℕ) (o : Object) → slice_get os k ≡ Some o → AreLaidOut g os → (j : ℕ) (p : Object) → slice_get (ended_in os k (Some o)) j ≡ Some p → IsAccount g p
accounts_ended g os k o e out j p f = at (cases_eq j k)
  where
    at : (j ≡ k) ⊎ (j ≡ k → ⊥) → IsAccount g p
    at (inr n) = out.accounts j p (sym (set_other os k j _ n) ∙ f)
    at (inl q) =
        let d : record o { live = false } ≡ p = same_Some _ _ (sym (ap (slice_get (ended_in os k (Some o))) q ∙ set_same os k o _ e) ∙ f) in
        let a = out.accounts k o e in
        subst (IsAccount g) d (record { placed = a.placed; fits = a.fits })

-- an object ends: its bytes stay in memory, and its cells are gone
pub ended_keeps : (g : ℕ) (os : List Object) (cs : Cells) (memory : Memory) (k : ℕ) (o : Object) → slice_get os k ≡ Some o → Injects g os cs memory → Injects g (ended_in os k (Some o)) (cleared cs k) memory
ended_keeps g os cs memory k o e h = record {
  out = record {
    accounts = accounts_ended g os k o e h.out;
    apart = λ i j p q l r ne. h.out.apart i j p q (live_before os k o i p e l).0 (live_before os k o j q e r).0 ne;
  };
  cells = λ j i. formed j i (cases_eq j k);
  holds = record {
    bytes = λ j p i l lt. let b = live_before os k o j p e l in
        h.holds.bytes j p i b.0 lt ∙ sym (ap (byte_of (ended_in os k (Some o))) (cleared_other cs k j i b.1) ∙ byte_kept g os _ (cs j i) (accounted_ended_at os k o e) (h.cells j i));
  };
}
  where
    formed : (j i : ℕ) → (j ≡ k) ⊎ (j ≡ k → ⊥) → IsCell g (ended_in os k (Some o)) (cleared cs k j i)
    formed j i (inl q) = subst (IsCell g (ended_in os k (Some o))) (sym (cleared_same cs k j i q)) (let z : 0 < 256 = omega arith in z)
    formed j i (inr n) = subst (IsCell g (ended_in os k (Some o))) (sym (cleared_other cs k j i n)) (cell_kept g os _ (cs j i) (accounted_ended_at os k o e) (h.cells j i))
