-- Loops over lists of objects: what is there already, and then what the rest comes to, is the whole.
use Rattle.std.specs.Prelude.{drop, map}
use Rattle.std.proofs.Common.{◌≡◌, ℕ, zero, suc, ◌+◌, ◌<◌, ◌≤◌, List, [], ◌∷◌, ◌++◌, length, get_or, slice_index_or, refl, sym, ap, ◌∙◌, subst, arith, append_assoc}
use Rattle.std.proofs.lemmas.List.{at_drop_more, drop_all, length-map, length-append}
use Rattle.size_table.specs.declared.memory_map.TheConstants.{MOST_BYTES}
use Rattle.block_layout.specs.Layout.{Item, AreSmall}
use Rattle.block_layout.specs.Objects.{numbered}
use Rattle.block_layout.specs.declared.object.Object.{Object}
use Rattle.block_layout.specs.Views.{item_of}

pub next_in : {X Y : Type 0} (G : List X → Y) (xs : List X) (i : ℕ) (x : X) → i < length xs → x ≡ get_or xs i x → G (drop i xs) ≡ G (x ∷ drop (i + 1) xs)
next_in G xs i x lt is = at_drop_more G xs i x lt ∙ ap (λ z. G (z ∷ drop (i + 1) xs)) (sym is)

pub end_in : {X Y : Type 0} (G : List X → Y) (xs : List X) (i : ℕ) → length xs ≤ i → G (drop i xs) ≡ G []
end_in G xs i le = ap G (drop_all i xs le)

-- ---- Sizes

pub small_at : (xs : List Object) (i : ℕ) (o : Object) → AreSmall (map item_of xs) → i < length xs → (slice_index_or xs i o).length ≤ MOST_BYTES
small_at [] i o s lt = absurd (omega (arith, lt))
small_at (x ∷ xs) zero o s lt = s.0
small_at (x ∷ xs) (suc i) o s lt = small_at xs i o s.1 (omega (arith, lt))

small_end : (xs ys : List Item) → AreSmall (xs ++ ys) → AreSmall ys
small_end [] ys s = s
small_end (x ∷ xs) ys s = small_end xs ys s.1

pub small_rest : (xs ys whole : List Item) → xs ++ ys ≡ whole → AreSmall whole → AreSmall ys
small_rest xs ys whole e s = small_end xs ys (subst AreSmall (sym e) s)

-- ---- Objects that are numbered

one_longer : (old new : List Object) (o : Item) → map item_of new ≡ map item_of old ++ o ∷ [] → length new ≡ suc (length old)
one_longer old new o e = omega (arith, sym (length-map new item_of) ∙ ap length e ∙ length-append (map item_of old) (o ∷ []), length-map old item_of)

pub one_numbered : (old new : List Object) (n : ℕ) (rest : List ℕ) (total : List Item) → map item_of new ≡ map item_of old ++ record { number = length old; length = n } ∷ [] → map item_of old ++ numbered (length old) (n ∷ rest) ≡ total → map item_of new ++ numbered (length new) rest ≡ total
one_numbered old new n rest total e h =
    let o : Item = record { number = length old; length = n } in
    ap (λ l. l ++ numbered (length new) rest) e
    ∙ append_assoc (map item_of old) (o ∷ []) (numbered (length new) rest)
    ∙ ap (λ k. map item_of old ++ (o ∷ numbered k rest)) (one_longer old new o e)
    ∙ h
