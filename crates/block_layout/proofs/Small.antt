-- The objects of a typed program are small.
use Rattle.std.specs.Prelude.{map, slice_get, All, Some}
use Rattle.std.proofs.Common.{◌≡◌, ℕ, zero, suc, ◌+◌, ◌≤◌, Bool, true, false, cond, List, [], ◌∷◌, ◌++◌, length, refl, sym, ap, ◌∙◌, subst, arith}
use Rattle.std.proofs.lemmas.List.Elements.{All-nil, All-cons, All-head, All-tail}
use Rattle.size_table.specs.declared.memory_map.TheConstants.{MOST_BYTES}
use Rattle.typed_tree.specs.Sizes.{largest, size_of}
use Rattle.typed_tree.specs.TypedTree.{CLocal, CFunction, CGlobal, CProgram}
use Rattle.typed_tree.specs.TypedLaws.{TypesAreSmall}
use Rattle.typed_tree.specs.Typed.{IsGlobalObject, IsLocalObject, IsString, IsFunction, Typed}
use Rattle.block_layout.specs.Layout.{Item, AreSmall}
use Rattle.block_layout.specs.Objects.{Stored, numbered, items_of, globals_of, global_items, block_items_from, block_items, stored_global, stored_text}
use Rattle.block_layout.specs.Laws.{TypedHasSmallObjects}

-- lengths of objects that are laid out
abbrev Fit : List ℕ → Type 0
Fit [] = Unit {0}
Fit (n ∷ ns) = (n ≤ MOST_BYTES) × Fit ns

fit_numbered : (k : ℕ) (ns : List ℕ) → Fit ns → AreSmall (numbered k ns)
fit_numbered k [] h = tt
fit_numbered k (n ∷ ns) h = (h.0, fit_numbered (suc k) ns h.1)

texts_fit : (texts : List (List ℕ)) → All IsString texts → Fit (map (λ o. o.length) (map stored_text texts))
texts_fit [] h = tt
texts_fit (t ∷ ts) h =
    let here = (All-head IsString t ts h).1 in
    (omega (arith, here), texts_fit ts (All-tail IsString t ts h))

module _ (small : TypesAreSmall) (p : CProgram) (typed : Typed p) where
  globals_fit : (gs : List CGlobal) → All (IsGlobalObject p) gs → (rest : List Stored) → Fit (map (λ o. o.length) rest) → Fit (map (λ o. o.length) (map stored_global gs ++ rest))
  globals_fit [] h rest r = r
  globals_fit (g ∷ gs) h rest r =
      let here = All-head (IsGlobalObject p) g gs h in
      let fits = small p.structs g.ty typed.structs here.type in
      (omega (arith, fits, here.size), globals_fit gs (All-tail (IsGlobalObject p) g gs h) rest r)

  locals_fit : (f : CFunction) (k : ℕ) (ls : List CLocal) → ((j : ℕ) (l : CLocal) → slice_get ls j ≡ Some l → IsLocalObject p f (k + j) l) → AreSmall (block_items_from k ls)
  locals_fit f k [] h = tt
  locals_fit f k (l ∷ ls) h =
      let here = h 0 l refl in
      let fits = small p.structs l.ty typed.structs here.type in
      by l.is_block (omega (arith, fits, here.size))
      (locals_fit f (suc k) ls (λ j m found. let q : k + suc j ≡ suc k + j = omega arith in subst (λ n. IsLocalObject p f n m) q (h (suc j) m found)))
    where
      by : (t : Bool) → l.size ≤ MOST_BYTES → AreSmall (block_items_from (suc k) ls) → AreSmall (cond t (record { number = k; length = l.size } ∷ block_items_from (suc k) ls) (block_items_from (suc k) ls))
      by true s r = (s, r)
      by false s r = r

  frames_fit : (fs : List CFunction) → All (IsFunction p) fs → All (λ f. AreSmall (block_items f)) fs
  frames_fit [] h = All-nil (λ f. AreSmall (block_items f))
  frames_fit (f ∷ fs) h =
      All-cons (λ f. AreSmall (block_items f)) f fs
      (locals_fit f 0 f.locals (λ j l found. let q : j ≡ 0 + j = omega arith in subst (λ n. IsLocalObject p f n l) q ((All-head (IsFunction p) f fs h).locals j l found)))
      (frames_fit fs (All-tail (IsFunction p) f fs h))

pub typed_has_small_objects : TypesAreSmall → TypedHasSmallObjects
typed_has_small_objects small p typed = record {
  globals = fit_numbered 0 _ (globals_fit small p typed p.globals typed.globals (map stored_text p.texts) (texts_fit p.texts typed.texts));
  frames = frames_fit small p typed p.functions typed.functions;
}
