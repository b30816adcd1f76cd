-- A closed table knows no fact that a chain shows to be lost.
use Rattle.std.proofs.Common.{◌≡◌, ℕ, ◌+◌, List, ◌∷◌, inl, inr, Option, Some, Bool, true, false, refl, sym, ap, ◌∙◌, subst, true≢false}
use Rattle.flat_discipline.specs.Items.{Item, Items, places, all_places, first_place}
use Rattle.flat_discipline.specs.Facts.{Fact, Source, Setting, Here, untold, branch, here_after, source}
use Rattle.flat_discipline.specs.Chains.{leading, leads, Edges, IsEdge, Edge, EdgeAll, Spot, fact_in, Lost}
use Rattle.flat_discipline.specs.Closed.{Known, holds, known_after, Each, EachAll, ClosedOn}

-- ---- From walks to edges, and back

at_edge : (P : Edges) (h : Here) (i : Item) (p : ℕ) (b : Option ℕ) (h' : Here) (t : Item) (a : ℕ) (b' : Option ℕ) → P h i p b → IsEdge h i p b h' t a b' → P h' t a b'
at_edge P h i p b h' t a b' x e =
    subst (λ z. P z t a b') (sym e.0) (subst (λ z. P h z a b') (sym e.1) (subst (λ z. P h i z b') (sym e.2) (subst (λ z. P h i p z) (sym e.3) x)))

module _ (g : ℕ) (P : Edges) where
  mutual
    pub each_edge : (i : Item) (h : Here) (p after : ℕ) (exits : List ℕ) → Each g P h i p after exits → (h' : Here) (t : Item) (a : ℕ) (b : Option ℕ) → Edge g h i p after exits h' t a b → P h' t a b
    each_edge (Item.Plain s) h p after exits c h' t a b e = at_edge P h (Item.Plain s) p (leads (leading s) after exits) h' t a b c e
    each_edge (Item.Checks q) h p after exits c h' t a b e = at_edge P h (Item.Checks q) p (Some after) h' t a b c e
    each_edge (Item.If k x y) h p after exits c h' t a b (inl (inl e)) = at_edge P h (Item.If k x y) p (Some (first_place x (p + 1) after)) h' t a b c.0 e
    each_edge (Item.If k x y) h p after exits c h' t a b (inl (inr e)) = at_edge P h (Item.If k x y) p (Some (first_place y (p + 1 + all_places g x) after)) h' t a b c.1 e
    each_edge (Item.If k x y) h p after exits c h' t a b (inr (inl e)) = every_edge x (branch h k) (p + 1) after exits c.2 h' t a b e
    each_edge (Item.If k x y) h p after exits c h' t a b (inr (inr e)) = every_edge y untold (p + 1 + all_places g x) after exits c.3 h' t a b e
    each_edge (Item.Block x) h p after exits c h' t a b (inl e) = at_edge P h (Item.Block x) p (Some (first_place x (p + 1) after)) h' t a b c.0 e
    each_edge (Item.Block x) h p after exits c h' t a b (inr e) = every_edge x untold (p + 1) after (after ∷ exits) c.1 h' t a b e
    each_edge (Item.Loop x) h p after exits c h' t a b (inl e) = at_edge P h (Item.Loop x) p (Some (first_place x (p + 1) p)) h' t a b c.0 e
    each_edge (Item.Loop x) h p after exits c h' t a b (inr e) = every_edge x untold (p + 1) p (after ∷ exits) c.1 h' t a b e
    each_edge (Item.Inner x) h p after exits c h' t a b (inl e) = at_edge P h (Item.Inner x) p (Some (first_place x (p + 1) p)) h' t a b c.0 e
    each_edge (Item.Inner x) h p after exits c h' t a b (inr e) = every_edge x untold (p + 1) p (after ∷ exits) c.1 h' t a b e

    pub every_edge : (is : Items) (h : Here) (p after : ℕ) (exits : List ℕ) → EachAll g P h is p after exits → (h' : Here) (t : Item) (a : ℕ) (b : Option ℕ) → EdgeAll g h is p after exits h' t a b → P h' t a b
    every_edge Items.end h p after exits c h' t a b e = absurd e
    every_edge (Items.next i rest) h p after exits c h' t a b (inl e) = each_edge i h p (first_place rest (p + places g i) after) exits c.0 h' t a b e
    every_edge (Items.next i rest) h p after exits c h' t a b (inr e) = every_edge rest (here_after i h) (p + places g i) after exits c.1 h' t a b e

module _ (g : ℕ) (P : Edges) where
  mutual
    pub edge_each : (i : Item) (h : Here) (p after : ℕ) (exits : List ℕ) → ((h' : Here) (t : Item) (a : ℕ) (b : Option ℕ) → Edge g h i p after exits h' t a b → P h' t a b) → Each g P h i p after exits
    edge_each (Item.Plain s) h p after exits on = on h (Item.Plain s) p (leads (leading s) after exits) (refl, refl, refl, refl)
    edge_each (Item.Checks q) h p after exits on = on h (Item.Checks q) p (Some after) (refl, refl, refl, refl)
    edge_each (Item.If k x y) h p after exits on = (
      on h (Item.If k x y) p (Some (first_place x (p + 1) after)) (inl (inl (refl, refl, refl, refl))),
      on h (Item.If k x y) p (Some (first_place y (p + 1 + all_places g x) after)) (inl (inr (refl, refl, refl, refl))),
      edge_every x (branch h k) (p + 1) after exits (λ h' t a b e. on h' t a b (inr (inl e))),
      edge_every y untold (p + 1 + all_places g x) after exits (λ h' t a b e. on h' t a b (inr (inr e))),
    )
    edge_each (Item.Block x) h p after exits on = (on h (Item.Block x) p (Some (first_place x (p + 1) after)) (inl (refl, refl, refl, refl)), edge_every x untold (p + 1) after (after ∷ exits) (λ h' t a b e. on h' t a b (inr e)))
    edge_each (Item.Loop x) h p after exits on = (on h (Item.Loop x) p (Some (first_place x (p + 1) p)) (inl (refl, refl, refl, refl)), edge_every x untold (p + 1) p (after ∷ exits) (λ h' t a b e. on h' t a b (inr e)))
    edge_each (Item.Inner x) h p after exits on = (on h (Item.Inner x) p (Some (first_place x (p + 1) p)) (inl (refl, refl, refl, refl)), edge_every x untold (p + 1) p (after ∷ exits) (λ h' t a b e. on h' t a b (inr e)))

    pub edge_every : (is : Items) (h : Here) (p after : ℕ) (exits : List ℕ) → ((h' : Here) (t : Item) (a : ℕ) (b : Option ℕ) → EdgeAll g h is p after exits h' t a b → P h' t a b) → EachAll g P h is p after exits
    edge_every Items.end h p after exits on = tt
    edge_every (Items.next i rest) h p after exits on = (edge_each i h p (first_place rest (p + places g i) after) exits (λ h' t a b e. on h' t a b (inl e)), edge_every rest (here_after i h) (p + places g i) after exits (λ h' t a b e. on h' t a b (inr e)))

-- ---- Chains are the least

unless : (x : Bool) → (x ≡ true → false ≡ true) → x ≡ false
unless true h = absurd (true≢false (sym (h refl)))
unless false h = refl

-- what is lost is about values that the function has
abbrev pub SpotIn : (ℕ → Setting) → Spot → Type 0
SpotIn S (Spot.At f p x) = fact_in (S f) x ≡ true
SpotIn S (Spot.Result g) = Unit {0}

pub lost_in : (S : ℕ → Setting) (E : ℕ → Edges) (o : Spot) → Lost S E o → SpotIn S o
lost_in S E _ (Lost.unspanned f x n m) = m
lost_in S E _ (Lost.begins f h i a b x m e is) = m
lost_in S E _ (Lost.goes_on f h i a b x y m e is l) = m
lost_in S E _ (Lost.given f g h i a b x m e is l) = m
lost_in S E _ (Lost.returned g from h a b e l) = tt
lost_in S E _ (Lost.passed f to g k u params args h a b e at is lt m l) = m

module _ (S : ℕ → Setting) (E : ℕ → Edges) (A : ℕ → Fact → Bool) (gives : ℕ → Bool) (T : ℕ → ℕ → Known) (c : ClosedOn S E A gives T) where
  abbrev pub Absent : Spot → Type 0
  Absent (Spot.At f p x) = A f x ≡ true → T f p x ≡ false
  Absent (Spot.Result g) = gives g ≡ false

  pub least : (o : Spot) → Lost S E o → Absent o
  least _ (Lost.unspanned f x n m) = λ ask. c.start f x n ask
  least _ (Lost.begins f h i a b x m e is) = λ ask. unless (T f b x) (λ k. ap (holds gives (T f a)) (sym is) ∙ c.covers f h i a b x e ask k)
  least _ (Lost.goes_on f h i a b x y m e is l) = λ ask. unless (T f b x) (λ k. sym (least (Spot.At f a y) l (c.sources f h i a b x y e ask is (lost_in S E (Spot.At f a y) l))) ∙ (ap (holds gives (T f a)) (sym is) ∙ c.covers f h i a b x e ask k))
  least _ (Lost.given f g h i a b x m e is l) = λ ask. unless (T f b x) (λ k. sym (least (Spot.Result g) l) ∙ (ap (holds gives (T f a)) (sym is) ∙ c.covers f h i a b x e ask k))
  least _ (Lost.returned g from h a b e l) = unless (gives g) (λ k. sym (least (Spot.At g a (Fact.Clean from)) l (c.cleans g from (lost_in S E (Spot.At g a (Fact.Clean from)) l))) ∙ c.returns g from h a b e k)
  least _ (Lost.passed f to g k u params args h a b e at is lt m l) = λ ask. unless (T g 0 (Fact.Clean k)) (λ z. sym (least (Spot.At f a (Fact.Clean u)) l (c.cleans f u (lost_in S E (Spot.At f a (Fact.Clean u)) l))) ∙ c.passes f to g args h a b e k u params at is lt ask z)

-- one step of a pass: a fact that a table loses along an edge has a chain
pub lost_after : (S : ℕ → Setting) (E : ℕ → Edges) (gives : ℕ → Bool) (T : ℕ → ℕ → Known) → ((f p : ℕ) (x : Fact) → T f p x ≡ false → Lost S E (Spot.At f p x)) → ((g : ℕ) → gives g ≡ false → Lost S E (Spot.Result g)) → (f : ℕ) (h : Here) (i : Item) (a b : ℕ) (x : Fact) → fact_in (S f) x ≡ true → E f h i a (Some b) → known_after (S f) gives h i (T f a) x ≡ false → Lost S E (Spot.At f b x)
lost_after S E gives T marks results f h i a b x m e none = at (source (S f) h i x) refl none
  where
    at : (o : Source) → source (S f) h i x ≡ o → holds gives (T f a) o ≡ false → Lost S E (Spot.At f b x)
    at Source.Held is z = absurd (true≢false z)
    at Source.Gone is z = Lost.begins f h i a b x m e is
    at (Source.From y) is z = Lost.goes_on f h i a b x y m e is (marks f a y z)
    at (Source.FromCall g) is z = Lost.given f g h i a b x m e is (results g z)
