-- Names as the map keeps them.
use Rattle.std.proofs.Common.{◌-◌, ◌≤◌, length, take, drop, get_or, arith, ◌≡◌, ℕ, List, [], ◌∷◌, ◌++◌, refl, ap, ◌∙◌, sym, Bool, true, false, cond, nat_eq, Bor}
use Rattle.std.specs.Prelude.{Option, Some, None, map, option_map}
use Rattle.std.specs.Option.{option_copied}
use Rattle.std.specs.Cmp.Lexicographic.{pointwise}
use Rattle.std.specs.Map.{lookup}
use Rattle.indexmap.specs.IndexMap.{insert_entry}
use Rattle.typing_expressions.specs.Names.{found, option_at, or_else}
use Rattle.typing_expressions.specs.Scene.{named_by, local_of, local_in, scopes_of, CLocalName}
use Rattle.typing_expressions.specs.declared.scene.LocalName.{LocalName}
use Rattle.std.proofs.lemmas.Grind.{common_steps}

module _ {K V : Type 0} (f : K → List ℕ) where
  abbrev view : List (K × V) → List (List ℕ × V)
  view es = map (λ (e : K × V). (f e.0, e.1)) es

  -- a look-up in the map is one among what the entries stand for
  pub found_view : (x : List ℕ) (es : List (K × V)) → found x (view es) ≡ lookup (λ k. pointwise nat_eq x (f k)) es
  found_view x [] = refl
  found_view x (e ∷ es) = ap (cond (pointwise nat_eq x (f e.0)) (Some e.1)) (found_view x es)

  -- a new key goes last
  pub inserted : (es : List (K × V)) (k : K) (v : V) → found (f k) (view es) ≡ None → view (insert_entry (λ a b. pointwise nat_eq (f a) (f b)) es k v) ≡ view es ++ (f k, v) ∷ []
  inserted [] k v h = refl
  inserted (e ∷ es) k v h = by (pointwise nat_eq (f k) (f e.0)) _ _ _ h (inserted es k v)
    where
      by : (b : Bool) (r : Option V) (xs : List (K × V)) (ys : List (List ℕ × V)) → cond b (Some e.1) r ≡ None → (r ≡ None → view xs ≡ ys)
          → view (cond b ((e.0, v) ∷ es) (e ∷ xs)) ≡ (f e.0, e.1) ∷ ys
      by true r xs ys h go = cc
      by false r xs ys h go = ap (λ t. (f e.0, e.1) ∷ t) (go h)

-- an option that points to what another is
pub at_copied : {V A : Type 0} (g : V → A) (o : Option (Bor V)) (s : Option V) → option_copied o ≡ s → option_at g o ≡ option_map g s
at_copied g None s h = ap (option_map g) h
at_copied g (Some b) s h = ap (option_map g) h

-- what a name stands for, each seen by g
pub found_seen : {V A : Type 0} (g : V → A) (x : List ℕ) (es : List (List ℕ × V)) → found x (map (named_by g) es) ≡ option_map g (found x es)
found_seen g x [] = refl
found_seen {V} {A} g x (e ∷ es) = by (pointwise nat_eq x e.0) _ _ (found_seen g x es)
  where
    by : (b : Bool) (r : Option A) (s : Option V) → r ≡ option_map g s → cond b (Some (g e.1)) r ≡ option_map g (cond b (Some e.1) s)
    by true r s h = refl
    by false r s h = h

-- what a look-up returns, seen by g
pub get_seen : {V A : Type 0} (g : V → A) (x : List ℕ) (es : List (List ℕ × V)) (o : Option (Bor V)) → option_copied o ≡ found x es → option_at g o ≡ found x (map (named_by g) es)
get_seen g x es o h = at_copied g o _ h ∙ sym (found_seen g x es)

inner_scopes : {A : Type 0} (s : A) (ss : List A) → take (length (s ∷ ss) - 1) (drop 1 (s ∷ ss)) ≡ ss
inner_scopes s ss = grind (arith, common_steps)

-- no inner scope has the name, so the outermost decides
pub outermost : (ss : List (List (List ℕ × LocalName))) (d : List (List ℕ × LocalName)) (x : List ℕ) (o : Option CLocalName) → 1 ≤ length ss → d ≡ get_or ss 0 d → None ≡ local_in (scopes_of (take (length ss - 1) (drop 1 ss))) x → o ≡ found x (map (named_by local_of) d) → o ≡ local_in (scopes_of ss) x
outermost [] d x o h i n g = absurd (omega arith)
outermost (s ∷ ss) d x o h i n g =
    let same : d ≡ s = i in
    let none : None ≡ local_in (scopes_of ss) x = rw (inner_scopes s ss) at n in
    g ∙ ap (λ e. found x (map (named_by local_of) e)) same ∙ ap (λ r. or_else r (found x (map (named_by local_of) s))) none
