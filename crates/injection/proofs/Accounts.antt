-- Objects that keep their accounts keep the words of pointers, and all that is said by words.
use Rattle.std.proofs.Common.{◌≡◌, ◌⊎◌, ℕ, ◌/◌, ◌%◌, ◌^◌, ◌<◌, ◌≤◌, false, List, [], ◌∷◌, ◌++◌, length, Option, Some, None, slice_get, refl, sym, ap, ◌∙◌, subst, inl, inr, arith, true≢false, Bool, true}
use Rattle.std.proofs.lemmas.Option.{same_Some}
use Rattle.std.proofs.lemmas.Bool.{cases_eq}
use Rattle.marked_ptr.specs.Marked.{word_at}
use Rattle.marked_ptr.specs.Laws.{IsInReach}
use Rattle.size_table.specs.declared.memory_map.TheConstants.{HEAP_START}
use Rattle.source_meaning.specs.declared.values.Pointer.{Pointer}
use Rattle.source_meaning.specs.declared.values.Pointer.TheVariants.{Null, To}
use Rattle.source_meaning.specs.declared.values.Value.{Value}
use Rattle.source_meaning.specs.declared.values.Value.TheVariants.{Num, Ptr}
use Rattle.source_meaning.specs.declared.values.Cell.{Cell}
use Rattle.source_meaning.specs.declared.values.Cell.TheVariants.{Byte, Part}
use Rattle.source_meaning.specs.Objects.{Object, ended_in}
use Rattle.source_meaning.specs.Worlds.{Mark, Line, Moved}
use Rattle.flat_code.specs.World.{Words}
use Rattle.flat_code.specs.Told.Mark.{Begun}
use Rattle.injection.specs.Words.{word_in, word_of, word_of_value, byte_of}
use Rattle.injection.specs.Memory.{IsLive, IsPointerIn, IsPointer, IsValue, IsCell, SameValues}
use Rattle.injection.specs.Trail.{SafeSites, pair_unless, image_trail, TrailIsNamed}
use Rattle.injection.specs.Worlds.{Accounted, Stays, Since}
use Rattle.injection.proofs.Lists.{set_same, set_other, get_old, get_pushed}

-- ---- Over time

pub accounted_same : (os : List Object) → Accounted os os
accounted_same os = record { by = λ k o e. (o, e, refl, refl, refl) }

pub accounted_then : (a b c : List Object) → Accounted a b → Accounted b c → Accounted a c
accounted_then a b c h i = record { by = λ k o e. let y = h.by k o e in let z = i.by k y.0 y.1 in (z.0, z.1, z.2 ∙ y.2, z.3 ∙ y.3, z.4 ∙ y.4) }

pub stays_same : (os : List Object) → Stays os os
stays_same os = record { by = λ k o l low. l }

pub stays_then : (a b c : List Object) → Stays a b → Stays b c → Stays a c
stays_then a b c h i = record { by = λ k o l low. i.by k o (h.by k o l low) low }

pub since_same : (os : List Object) → Since os os
since_same os = record { by = λ k o l. inl l }

pub since_then : (a b c : List Object) → Since a b → Since b c → Since a c
since_then a b c h i = record { by = λ k o l. elim (i.by k o l) [ inl m ↦ h.by k o m | inr r ↦ inr r ] }

-- ---- What is kept

pub pointer_kept : (g : ℕ) (a b : List Object) (q : Pointer) → Accounted a b → IsPointer g a q → IsPointer g b q
pointer_kept g a b Null h f = tt
pointer_kept g a b (To k z) h f = at (slice_get a k) refl f
  where
    at : (o : Option Object) → slice_get a k ≡ o → IsPointerIn g o z → IsPointerIn g (slice_get b k) z
    at None e f' = absurd f'
    at (Some o) e f' = let y = h.by k o e in subst (λ x. IsPointerIn g x z) (sym y.1) (subst (λ n. IsInReach g n z) (sym y.3) f')

pub word_kept : (g : ℕ) (a b : List Object) (q : Pointer) → Accounted a b → IsPointer g a q → word_of b q ≡ word_of a q
word_kept g a b Null h f = refl
word_kept g a b (To k z) h f = at (slice_get a k) refl f
  where
    at : (o : Option Object) → slice_get a k ≡ o → IsPointerIn g o z → word_in (slice_get b k) z ≡ word_in (slice_get a k) z
    at None e f' = absurd f'
    at (Some o) e f' =
        let y = h.by k o e in
        ap (λ x. word_in x z) y.1 ∙ ap (λ n. word_at n y.0.exponent z) y.2 ∙ ap (λ n. word_at o.base n z) y.3 ∙ sym (ap (λ x. word_in x z) e)

pub value_kept : (g : ℕ) (a b : List Object) (v : Value) → Accounted a b → IsValue g a v → IsValue g b v
value_kept g a b (Num n) h f = f
value_kept g a b (Ptr q) h f = pointer_kept g a b q h f

pub value_word_kept : (g : ℕ) (a b : List Object) (v : Value) → Accounted a b → IsValue g a v → word_of_value b v ≡ word_of_value a v
value_word_kept g a b (Num n) h f = refl
value_word_kept g a b (Ptr q) h f = word_kept g a b q h f

pub cell_kept : (g : ℕ) (a b : List Object) (c : Cell) → Accounted a b → IsCell g a c → IsCell g b c
cell_kept g a b (Byte n) h f = f
cell_kept g a b (Part k q) h f = (f.0, pointer_kept g a b q h f.1)

pub byte_kept : (g : ℕ) (a b : List Object) (c : Cell) → Accounted a b → IsCell g a c → byte_of b c ≡ byte_of a c
byte_kept g a b (Byte n) h f = refl
byte_kept g a b (Part k q) h f = ap (λ w. w / 256 ^ k % 256) (word_kept g a b q h f.1)

pub values_kept : (g n : ℕ) (a b : List Object) (values : ℕ → Value) (words : Words) → Accounted a b → SameValues g n a values words → SameValues g n b values words
values_kept g n a b values words h s = record {
  each = λ i lt. s.each i lt ∙ sym (value_word_kept g a b (values i) h (s.formed i lt));
  formed = λ i lt. value_kept g a b (values i) h (s.formed i lt);
}

pub named_kept : (g : ℕ) (a b : List Object) (marks : List Mark) → Accounted a b → TrailIsNamed g a marks → TrailIsNamed g b marks
named_kept g a b [] h f = tt
named_kept g a b (Line line ∷ marks) h f = named_kept g a b marks h f
named_kept g a b (Moved site from to ∷ marks) h f = (pointer_kept g a b from h f.0, pointer_kept g a b to h f.1, named_kept g a b marks h f.2)

pub image_kept : (g : ℕ) (safe : SafeSites) (a b : List Object) (marks : List Mark) → Accounted a b → TrailIsNamed g a marks → image_trail safe b marks ≡ image_trail safe a marks
image_kept g safe a b [] h f = refl
image_kept g safe a b (Line line ∷ marks) h f = ap (λ x. Begun line ∷ x) (image_kept g safe a b marks h f)
image_kept g safe a b (Moved site from to ∷ marks) h f =
    ap (λ x. pair_unless (safe site) x (word_of b to) (image_trail safe b marks)) (word_kept g a b from h f.0)
    ∙ ap (λ x. pair_unless (safe site) (word_of a from) x (image_trail safe b marks)) (word_kept g a b to h f.1)
    ∙ ap (pair_unless (safe site) (word_of a from) (word_of a to)) (image_kept g safe a b marks h f.2)

pub named_append : (g : ℕ) (os : List Object) (xs ys : List Mark) → TrailIsNamed g os xs → TrailIsNamed g os ys → TrailIsNamed g os (xs ++ ys)
named_append g os [] ys f h = h
named_append g os (Line line ∷ xs) ys f h = named_append g os xs ys f h
named_append g os (Moved site from to ∷ xs) ys f h = (f.0, f.1, named_append g os xs ys f.2 h)

pub image_append : (safe : SafeSites) (os : List Object) (xs ys : List Mark) → image_trail safe os (xs ++ ys) ≡ image_trail safe os xs ++ image_trail safe os ys
image_append safe os [] ys = refl
image_append safe os (Line line ∷ xs) ys = ap (λ ms. Begun line ∷ ms) (image_append safe os xs ys)
image_append safe os (Moved site from to ∷ xs) ys =
    ap (pair_unless (safe site) (word_of os from) (word_of os to)) (image_append safe os xs ys) ∙ by (safe site)
  where
    by : (t : Bool) → pair_unless t (word_of os from) (word_of os to) (image_trail safe os xs ++ image_trail safe os ys) ≡ pair_unless t (word_of os from) (word_of os to) (image_trail safe os xs) ++ image_trail safe os ys
    by true = refl
    by false = refl

-- ---- Objects that come and go

pub accounted_more : (os more : List Object) → Accounted os (os ++ more)
accounted_more os more = record { by = λ k o e. (o, get_old os more k o e, refl, refl, refl) }

pub stays_more : (os more : List Object) → Stays os (os ++ more)
stays_more os more = record { by = λ k o l low. record { there = get_old os more k o l.there; live = l.live } }

pub live_made : (os : List Object) (o : Object) (k : ℕ) (p : Object) → IsLive (os ++ o ∷ []) k p → IsLive os k p ⊎ ((k ≡ length os) × (p ≡ o))
live_made os o k p l = elim (get_pushed os o p k l.there) [ inl t ↦ inl (record { there = t; live = l.live }) | inr r ↦ inr r ]

pub since_made : (os : List Object) (o : Object) → HEAP_START ≤ o.base → Since os (os ++ o ∷ [])
since_made os o high = record { by = λ k p l. elim (live_made os o k p l) [ inl m ↦ inl m | inr r ↦ inr (subst (λ (x : Object). HEAP_START ≤ x.base) (sym r.1) high) ] }

pub accounted_ended_at : (os : List Object) (k : ℕ) (o : Object) → slice_get os k ≡ Some o → Accounted os (ended_in os k (Some o))
accounted_ended_at os k o h = record { by = λ j p e. at j p e (cases_eq j k) }
  where
    at : (j : ℕ) (p : Object) → slice_get os j ≡ Some p → (j ≡ k) ⊎ (j ≡ k → ⊥) → (q : Object) × (slice_get (ended_in os k (Some o)) j ≡ Some q) × (q.base ≡ p.base) × (q.exponent ≡ p.exponent) × (q.length ≡ p.length)
    at j p e (inr n) = (p, set_other os k j _ n ∙ e, refl, refl, refl)
    at j p e (inl q) =
        let same : o ≡ p = same_Some _ _ (sym h ∙ sym (ap (slice_get os) q) ∙ e) in
        (record o { live = false }, ap (slice_get (ended_in os k (Some o))) q ∙ set_same os k o _ h, ap (λ (r : Object). r.base) same, ap (λ (r : Object). r.exponent) same, ap (λ (r : Object). r.length) same)

-- an object that lives once one has ended lived before, and is another
pub live_before : (os : List Object) (k : ℕ) (o : Object) (j : ℕ) (p : Object) → slice_get os k ≡ Some o → IsLive (ended_in os k (Some o)) j p → IsLive os j p × (j ≡ k → ⊥)
live_before os k o j p h l = at (cases_eq j k)
  where
    at : (j ≡ k) ⊎ (j ≡ k → ⊥) → IsLive os j p × (j ≡ k → ⊥)
    at (inr n) = (record { there = sym (set_other os k j _ n) ∙ l.there; live = l.live }, n)
    at (inl e) =
        let d = same_Some _ _ (sym l.there ∙ ap (slice_get (ended_in os k (Some o))) e ∙ set_same os k o _ h) in
        absurd (true≢false (sym l.live ∙ ap (λ (r : Object). r.live) d))

pub live_after : (os : List Object) (k : ℕ) (o : Object) (j : ℕ) (p : Object) → IsLive os j p → (j ≡ k → ⊥) → IsLive (ended_in os k (Some o)) j p
live_after os k o j p l n = record { there = set_other os k j _ n ∙ l.there; live = l.live }

pub accounted_ended : (os : List Object) (k : ℕ) → Accounted os (ended_in os k (slice_get os k))
accounted_ended os k = at (slice_get os k) refl
  where
    at : (x : Option Object) → slice_get os k ≡ x → Accounted os (ended_in os k x)
    at None e = accounted_same os
    at (Some o) e = accounted_ended_at os k o e

pub since_ended : (os : List Object) (k : ℕ) → Since os (ended_in os k (slice_get os k))
since_ended os k = at (slice_get os k) refl
  where
    at : (x : Option Object) → slice_get os k ≡ x → Since os (ended_in os k x)
    at None e = since_same os
    at (Some o) e = record { by = λ j p l. inl (live_before os k o j p e l).0 }

pub stays_ended : (os : List Object) (k : ℕ) (o : Object) → slice_get os k ≡ Some o → HEAP_START ≤ o.base → Stays os (ended_in os k (Some o))
stays_ended os k o e high = record { by = λ j p l low. at j p l low (cases_eq j k) }
  where
    at : (j : ℕ) (p : Object) → IsLive os j p → p.base < HEAP_START → (j ≡ k) ⊎ (j ≡ k → ⊥) → IsLive (ended_in os k (Some o)) j p
    at j p l low (inr n) = live_after os k o j p l n
    at j p l low (inl q) =
        let same : o ≡ p = same_Some _ _ (sym e ∙ sym (ap (slice_get os) q) ∙ l.there) in
        let b : o.base ≡ p.base = ap (λ (r : Object). r.base) same in
        absurd (omega (arith, b, high, low))
