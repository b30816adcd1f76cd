-- The scopes of a scene, and the innermost of them.
use Rattle.std.proofs.Common.{◌≡◌, ℕ, zero, suc, ◌+◌, ◌-◌, List, [], ◌∷◌, ◌++◌, length, take, refl, sym, ◌∙◌, ap, false, Bor, arith}
use Rattle.std.specs.Prelude.{map, Option, Some, None, is_some, slice_get, option_map}
use Rattle.std.specs.Option.{option_copied}
use Rattle.std.proofs.lemmas.List.{map_push}
use Rattle.typing_expressions.specs.Names.{found}
use Rattle.typing_expressions.specs.Scene.{CLocalName, named_by, local_of, scope_of, scopes_of}
use Rattle.typing_expressions.specs.declared.scene.LocalName.{LocalName}
use Rattle.typing_declarations.specs.Declarators.{innermost, outer}
use Rattle.typing_expressions.proofs.Tables.{found_seen}

abbrev Scope : Type 0
Scope = List (List ℕ × LocalName)

pub scopes_pushed : (ss : List Scope) (s : Scope) → scopes_of (ss ++ s ∷ []) ≡ scopes_of ss ++ scope_of s ∷ []
scopes_pushed ss s = map_push scope_of ss s

pub scope_pushed : (s : Scope) (x : List ℕ) (l : LocalName) → scope_of (s ++ (x, l) ∷ []) ≡ scope_of s ++ (x, local_of l) ∷ []
scope_pushed s x l = map_push (named_by local_of) s (x, l)

outer_at : (ss : List Scope) (n : ℕ) → length ss ≡ n + 1 → scopes_of (take n ss) ≡ outer (scopes_of ss)
outer_at [] n h = absurd (omega (arith, h))
outer_at (s ∷ []) zero h = refl
outer_at (s ∷ []) (suc n) h = absurd (omega (arith, h))
outer_at (s ∷ t ∷ ts) zero h = absurd (omega (arith, h))
outer_at (s ∷ t ∷ ts) (suc n) h = ap (λ r. scope_of s ∷ r) (outer_at (t ∷ ts) n (omega (arith, h)))

-- the outer scopes are all but the last
pub outer_is : (ss : List Scope) → scopes_of (take (length ss - 1) ss) ≡ outer (scopes_of ss)
outer_is [] = refl
outer_is (s ∷ ss) = outer_at (s ∷ ss) (length (s ∷ ss) - 1) (omega arith)

abbrev scope_or_none : Option Scope → Scope
scope_or_none None = []
scope_or_none (Some s) = s

innermost_at : (ss : List Scope) (n : ℕ) → length ss ≡ n + 1 → innermost (scopes_of ss) ≡ scope_of (scope_or_none (slice_get ss n))
innermost_at [] n h = absurd (omega (arith, h))
innermost_at (s ∷ []) zero h = refl
innermost_at (s ∷ []) (suc n) h = absurd (omega (arith, h))
innermost_at (s ∷ t ∷ ts) zero h = absurd (omega (arith, h))
innermost_at (s ∷ t ∷ ts) (suc n) h = innermost_at (t ∷ ts) n (omega (arith, h))

-- the innermost scope is the last
pub innermost_is : (ss : List Scope) → innermost (scopes_of ss) ≡ scope_of (scope_or_none (slice_get ss (length ss - 1)))
innermost_is [] = refl
innermost_is (s ∷ ss) = innermost_at (s ∷ ss) (length (s ∷ ss) - 1) (omega arith)

pub outer_front : (ss : List Scope) (s : Scope) → outer (scopes_of (ss ++ s ∷ [])) ≡ scopes_of ss
outer_front [] s = refl
outer_front (t ∷ []) s = refl
outer_front (t ∷ u ∷ us) s = ap (λ r. scope_of t ∷ r) (outer_front (u ∷ us) s)

pub innermost_last : (ss : List Scope) (s : Scope) → innermost (scopes_of (ss ++ s ∷ [])) ≡ scope_of s
innermost_last [] s = refl
innermost_last (t ∷ []) s = refl
innermost_last (t ∷ u ∷ us) s = innermost_last (u ∷ us) s

pub is_some_map : {A B : Type 0} (f : A → B) (o : Option A) → is_some (option_map f o) ≡ is_some o
is_some_map f None = refl
is_some_map f (Some x) = refl

is_some_copied : {A : Type 0} (o : Option (Bor A)) → is_some (option_copied o) ≡ is_some o
is_some_copied None = refl
is_some_copied (Some b) = refl

-- whether a name is there, seen or not
pub is_there : {V A : Type 0} (g : V → A) (x : List ℕ) (es : List (List ℕ × V)) (o : Option (Bor V)) → option_copied o ≡ found x es → is_some o ≡ is_some (found x (map (named_by g) es))
is_there g x es o h = sym (is_some_copied o) ∙ ap is_some h ∙ sym (ap is_some (found_seen g x es) ∙ is_some_map g (found x es))

pub closed_by : (ss rest : List Scope) (n : ℕ) → n ≡ length ss → rest ≡ take (n - 1) ss → scopes_of rest ≡ outer (scopes_of ss)
closed_by ss rest n e h = ap scopes_of (h ∙ ap (λ m. take (m - 1) ss) e) ∙ outer_is ss

pub taken_in : (ss : List Scope) (s : Scope) (x : List ℕ) (o : Option (Bor LocalName)) → slice_get ss (length ss - 1) ≡ Some s → option_copied o ≡ found x s → is_some o ≡ is_some (found x (innermost (scopes_of ss)))
taken_in ss s x o e h =
    is_there local_of x s o h ∙ sym (ap (λ (r : List (List ℕ × CLocalName)). is_some (found x r)) (innermost_is ss ∙ ap (λ (o : Option Scope). scope_of (scope_or_none o)) e))

pub none_if : {A : Type 0} (o : Option A) → is_some o ≡ false → o ≡ None
none_if None h = refl
none_if (Some x) h = cc

pub not_there : (ss rest : List Scope) (s : Scope) (x : List ℕ) → ss ≡ rest ++ s ∷ [] → is_some (found x (innermost (scopes_of ss))) ≡ false → found x s ≡ None
not_there ss rest s x e h =
    none_if (found x s)
    (sym (is_some_map local_of (found x s)) ∙ sym (ap is_some (found_seen local_of x s))
    ∙ sym (ap (λ (r : List (List ℕ × CLocalName)). is_some (found x r)) (ap (λ (t : List Scope). innermost (scopes_of t)) e ∙ innermost_last rest s)) ∙ h)

-- the innermost scope with one more name
pub renamed : (ss rest us : List Scope) (s t : Scope) (x : List ℕ) (l : LocalName) → ss ≡ rest ++ s ∷ [] → t ≡ s ++ (x, l) ∷ [] → us ≡ rest ++ t ∷ []
    → scopes_of us ≡ outer (scopes_of ss) ++ (innermost (scopes_of ss) ++ (x, local_of l) ∷ []) ∷ []
renamed ss rest us s t x l h e u =
    ap scopes_of u ∙ scopes_pushed rest t
    ∙ ap (λ (a : List (List ℕ × CLocalName)). scopes_of rest ++ a ∷ []) (ap scope_of e ∙ scope_pushed s x l)
    ∙ sym (ap (λ (o : List (List (List ℕ × CLocalName))). o ++ (innermost (scopes_of ss) ++ (x, local_of l) ∷ []) ∷ []) (ap (λ (a : List Scope). outer (scopes_of a)) h ∙ outer_front rest s)
    ∙ ap (λ (i : List (List ℕ × CLocalName)). scopes_of rest ++ (i ++ (x, local_of l) ∷ []) ∷ []) (ap (λ (a : List Scope). innermost (scopes_of a)) h ∙ innermost_last rest s))
