-- Tables of what is known before each item. A table that is closed along the edges knows no fact that a chain shows to be
-- lost; one that is exact besides marks no other fact as lost. A verifier computes an exact one.
use Rattle.std.specs.Prelude.{◌≡◌, ◌<◌, ℕ, ◌+◌, Bool, true, false, List, ◌∷◌, Option, Some, slice_get}
use Rattle.flat_code.specs.Code.{FStep}
use Rattle.flat_discipline.specs.Items.{Item, Items, places, all_places, first_place}
use Rattle.flat_discipline.specs.Facts.{Fact, Source, Setting, Here, untold, branch, here_after, source}
use Rattle.flat_discipline.specs.Chains.{leading, leads, Edges, fact_in, Spot, Lost}

-- what is known before an item
abbrev pub Known : Type 0
Known = Fact → Bool

-- what is known after is known before
abbrev pub Covers : (after before : Known) → Type 0
Covers after before = (x : Fact) → after x ≡ true → before x ≡ true

-- whether a fact holds after an item, by what was known before it, and by which functions give untainted results
abbrev pub holds : (gives : ℕ → Bool) → Known → Source → Bool
holds gives K Source.Held = true
holds gives K Source.Gone = false
holds gives K (Source.From x) = K x
holds gives K (Source.FromCall f) = gives f

abbrev pub known_after : Setting → (gives : ℕ → Bool) → Here → Item → Known → Known
known_after s gives h i K x = holds gives K (source s h i x)

-- ---- Walks

-- each edge of the items that stand from place p on meets P
module _ (g : ℕ) (P : Edges) where
  abbrev mutual
    pub Each : Here → Item → (p after : ℕ) → List ℕ → Type 0
    Each h (Item.Plain s) p after exits = P h (Item.Plain s) p (leads (leading s) after exits)
    Each h (Item.Checks q) p after exits = P h (Item.Checks q) p (Some after)
    Each h (Item.If c x y) p after exits =
        P h (Item.If c x y) p (Some (first_place x (p + 1) after)) × P h (Item.If c x y) p (Some (first_place y (p + 1 + all_places g x) after))
        × EachAll (branch h c) x (p + 1) after exits × EachAll untold y (p + 1 + all_places g x) after exits
    Each h (Item.Block x) p after exits = P h (Item.Block x) p (Some (first_place x (p + 1) after)) × EachAll untold x (p + 1) after (after ∷ exits)
    Each h (Item.Loop x) p after exits = P h (Item.Loop x) p (Some (first_place x (p + 1) p)) × EachAll untold x (p + 1) p (after ∷ exits)
    Each h (Item.Inner x) p after exits = P h (Item.Inner x) p (Some (first_place x (p + 1) p)) × EachAll untold x (p + 1) p (after ∷ exits)

    pub EachAll : Here → Items → (p after : ℕ) → List ℕ → Type 0
    EachAll h Items.end p after exits = Unit {0}
    EachAll h (Items.next i rest) p after exits =
        Each h i p (first_place rest (p + places g i) after) exits × EachAll (here_after i h) rest (p + places g i) after exits

-- ---- Closed and exact tables

-- what is known of parameters is known of arguments, where it is asked
abbrev pub HandsOver : Setting → (asks : Fact → Bool) → (start : Known) → (function : ℕ) → List ℕ → Known → Type 0
HandsOver s asks start g args K =
    (k v params : ℕ) → slice_get args k ≡ Some v → s.params_of g ≡ Some params → k < params → asks (Fact.Clean k) ≡ true
    → start (Fact.Clean k) ≡ true → K (Fact.Clean v) ≡ true

-- Tables T, one a function, that are closed for the facts that are asked, A; they may say what they like of others.
pub record ClosedOn (S : ℕ → Setting) (E : ℕ → Edges) (A : ℕ → Fact → Bool) (gives : ℕ → Bool) (T : ℕ → ℕ → Known) : Type 0 where
  -- asked are the facts of each value, and with a fact the one that it comes from
  pub cleans : (f v : ℕ) → fact_in (S f) (Fact.Clean v) ≡ true → A f (Fact.Clean v) ≡ true
  pub owns : (f v : ℕ) → fact_in (S f) (Fact.Own v) ≡ true → A f (Fact.Own v) ≡ true
  pub sources : (f : ℕ) (h : Here) (i : Item) (a b : ℕ) (x y : Fact) → E f h i a (Some b) → A f x ≡ true → source (S f) h i x ≡ Source.From y
      → fact_in (S f) y ≡ true → A f y ≡ true
  pub start : (f x n : ℕ) → A f (Fact.Spanned x n) ≡ true → T f 0 (Fact.Spanned x n) ≡ false
  pub covers : (f : ℕ) (h : Here) (i : Item) (a b : ℕ) (x : Fact) → E f h i a (Some b) → A f x ≡ true → T f b x ≡ true
      → known_after (S f) gives h i (T f a) x ≡ true
  pub returns : (g from : ℕ) (h : Here) (a : ℕ) (b : Option ℕ) → E g h (Item.Plain (FStep.Return from)) a b → gives g ≡ true
      → T g a (Fact.Clean from) ≡ true
  pub passes : (f to g : ℕ) (args : List ℕ) (h : Here) (a : ℕ) (b : Option ℕ) → E f h (Item.Plain (FStep.Call to g args)) a b
      → HandsOver (S f) (A g) (T g 0) g args (T f a)

-- and that mark no fact without a chain
pub record Exact (S : ℕ → Setting) (E : ℕ → Edges) (A : ℕ → Fact → Bool) (gives : ℕ → Bool) (T : ℕ → ℕ → Known) : Type 0 where
  pub closed : ClosedOn S E A gives T
  pub marks : (f p : ℕ) (x : Fact) → T f p x ≡ false → Lost S E (Spot.At f p x)
  pub results : (g : ℕ) → gives g ≡ false → Lost S E (Spot.Result g)
