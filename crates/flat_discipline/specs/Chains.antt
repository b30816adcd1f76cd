-- A fact is lost at a place exactly where a finite chain shows it.
use Rattle.std.specs.Prelude.{◌≡◌, ◌<◌, ◌⊎◌, ℕ, zero, suc, ◌+◌, Bool, true}
use Rattle.std.specs.Prelude.{◌&&◌, List, [], ◌∷◌, Option, Some, None, nat_lt, slice_get}
use Rattle.flat_code.specs.Code.{FStep}
use Rattle.flat_discipline.specs.Items.{Item, Items, places, all_places, first_place}
use Rattle.flat_discipline.specs.Facts.{Fact, Source, Setting, Here, untold, branch, here_after, source}

-- ---- Where a step leads

pub data Leading : Type 0 where
  Falls : Leading
  Leaves : (levels : ℕ) → Leading
  Stops : Leading

abbrev pub leading : FStep → Leading
leading (FStep.Exit levels) = Leading.Leaves levels
leading (FStep.Return from) = Leading.Stops
leading s = Leading.Falls

-- what an Exit of so many levels leaves, the innermost first
abbrev pub exit_of : {A : Type 0} → List A → ℕ → Option A
exit_of exits zero = None
exit_of exits (suc n) = slice_get exits n

abbrev pub leads : {A : Type 0} → Leading → (after : A) → (exits : List A) → Option A
leads Leading.Falls after exits = Some after
leads (Leading.Leaves n) after exits = exit_of exits n
leads Leading.Stops after exits = None

-- ---- Edges

-- An item stands at a place, with what its list tells before it; and the next place, if it leads to one.
abbrev pub Edges : Type 1
Edges = Here → Item → (place : ℕ) → (after : Option ℕ) → Type 0

abbrev pub IsEdge : Here → Item → ℕ → Option ℕ → Edges
IsEdge h i p b h' i' p' b' = (h' ≡ h) × (i' ≡ i) × (p' ≡ p) × (b' ≡ b)

-- the edges of items that stand from place p on, before place `after`, in constructs with these exits
module _ (g : ℕ) where
  abbrev mutual
    pub Edge : Here → Item → (p after : ℕ) → List ℕ → Edges
    Edge h (Item.Plain s) p after exits h' i' a b = IsEdge h (Item.Plain s) p (leads (leading s) after exits) h' i' a b
    Edge h (Item.Checks q) p after exits h' i' a b = IsEdge h (Item.Checks q) p (Some after) h' i' a b
    Edge h (Item.If c x y) p after exits h' i' a b =
        (IsEdge h (Item.If c x y) p (Some (first_place x (p + 1) after)) h' i' a b
        ⊎ IsEdge h (Item.If c x y) p (Some (first_place y (p + 1 + all_places g x) after)) h' i' a b)
        ⊎ (EdgeAll (branch h c) x (p + 1) after exits h' i' a b ⊎ EdgeAll untold y (p + 1 + all_places g x) after exits h' i' a b)
    Edge h (Item.Block x) p after exits h' i' a b =
        IsEdge h (Item.Block x) p (Some (first_place x (p + 1) after)) h' i' a b ⊎ EdgeAll untold x (p + 1) after (after ∷ exits) h' i' a b
    Edge h (Item.Loop x) p after exits h' i' a b =
        IsEdge h (Item.Loop x) p (Some (first_place x (p + 1) p)) h' i' a b ⊎ EdgeAll untold x (p + 1) p (after ∷ exits) h' i' a b
    Edge h (Item.Inner x) p after exits h' i' a b =
        IsEdge h (Item.Inner x) p (Some (first_place x (p + 1) p)) h' i' a b ⊎ EdgeAll untold x (p + 1) p (after ∷ exits) h' i' a b

    pub EdgeAll : Here → Items → (p after : ℕ) → List ℕ → Edges
    EdgeAll h Items.end p after exits h' i' a b = ⊥
    EdgeAll h (Items.next i rest) p after exits h' i' a b =
        Edge h i p (first_place rest (p + places g i) after) exits h' i' a b
        ⊎ EdgeAll (here_after i h) rest (p + places g i) after exits h' i' a b

  -- the edges of a whole body
  abbrev pub body_edges : Items → Edges
  body_edges is = EdgeAll untold is 0 (all_places g is) []

-- ---- Chains

pub data Spot : Type 0 where
  -- a fact before the item at a place of a function
  At : (function place : ℕ) → (fact : Fact) → Spot
  -- that the result of a function is untainted
  Result : (function : ℕ) → Spot

-- the fact is about values that the function has
abbrev pub fact_in : Setting → Fact → Bool
fact_in s (Fact.Clean v) = nat_lt v s.values
fact_in s (Fact.Own v) = nat_lt v s.values
fact_in s (Fact.Spanned x n) = nat_lt x s.values && nat_lt n s.values

-- S has the setting of each function, and E its edges
pub data Lost (S : ℕ → Setting) (E : ℕ → Edges) : Spot → Type 0 where
  -- at a function's start no span stands
  unspanned : (f x n : ℕ) → fact_in (S f) (Fact.Spanned x n) ≡ true → Lost S E (Spot.At f 0 (Fact.Spanned x n))
  -- an item loses a fact
  begins : (f : ℕ) (h : Here) (i : Item) (a b : ℕ) (x : Fact) → fact_in (S f) x ≡ true → E f h i a (Some b) → source (S f) h i x ≡ Source.Gone
      → Lost S E (Spot.At f b x)
  -- a fact is lost after an item as the one is that it comes from
  goes_on : (f : ℕ) (h : Here) (i : Item) (a b : ℕ) (x y : Fact) → fact_in (S f) x ≡ true → E f h i a (Some b)
      → source (S f) h i x ≡ Source.From y → Lost S E (Spot.At f a y) → Lost S E (Spot.At f b x)
  -- from a returned value to the call's result
  given : (f g : ℕ) (h : Here) (i : Item) (a b : ℕ) (x : Fact) → fact_in (S f) x ≡ true → E f h i a (Some b)
      → source (S f) h i x ≡ Source.FromCall g → Lost S E (Spot.Result g) → Lost S E (Spot.At f b x)
  returned : (g from : ℕ) (h : Here) (a : ℕ) (b : Option ℕ) → E g h (Item.Plain (FStep.Return from)) a b → Lost S E (Spot.At g a (Fact.Clean from))
      → Lost S E (Spot.Result g)
  -- from an argument to the parameter
  passed : (f to g k v params : ℕ) (args : List ℕ) (h : Here) (a : ℕ) (b : Option ℕ) → E f h (Item.Plain (FStep.Call to g args)) a b
      → slice_get args k ≡ Some v → (S f).params_of g ≡ Some params → k < params → fact_in (S g) (Fact.Clean k) ≡ true
      → Lost S E (Spot.At f a (Fact.Clean v)) → Lost S E (Spot.At g 0 (Fact.Clean k))
