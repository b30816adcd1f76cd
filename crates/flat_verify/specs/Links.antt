-- The edges and the demands of a function as flat lists, in the order of its items.
use Rattle.std.specs.Prelude.{◌≡◌, ◌⊎◌, ℕ, suc, ◌+◌, Bool, true, false, ◌&&◌, List, [], ◌∷◌, ◌++◌, Option, Some, None, nat_lt}
use Rattle.flat_code.specs.Code.{FStep, FSteps}
use Rattle.flat_code.specs.Recognized.{sequence_steps}
use Rattle.flat_discipline.specs.Items.{Item, Items, step_places, steps_places, places, all_places, first_place}
use Rattle.flat_discipline.specs.Facts.{Fact, Setting, Here, untold, branch, here_after}
use Rattle.flat_verify.specs.Effects.{Effect, effect}
use Rattle.flat_discipline.specs.Chains.{leading, leads}
use Rattle.flat_discipline.specs.Breaks.{fits, is_plain, address, reads, operands, pointer, pointer_use, shared}

-- what holds of each
abbrev pub OfEach : {A : Type 0} → (P : A → Type 0) → List A → Type 0
OfEach P [] = Unit {0}
OfEach P (x ∷ xs) = P x × OfEach P xs

-- ---- Links

pub data Link : Type 0 where
  -- facts go from the item at a place to the next place
  Goes : Effect → (from to : ℕ) → Link
  -- the item at a place calls a function with these values
  Passes : (from function : ℕ) → (args : List ℕ) → Link
  -- the item at a place returns a value
  Returns : (from value : ℕ) → Link

abbrev pub goes : Effect → (from : ℕ) → Option ℕ → List Link
goes e a None = []
goes e a (Some b) = Link.Goes e a b ∷ []

abbrev pub hands_out : FStep → (from : ℕ) → List Link
hands_out (FStep.Call to function args) a = Link.Passes a function args ∷ []
hands_out (FStep.Return from) a = Link.Returns a from ∷ []
hands_out x a = []

-- the links of items that stand from place p on, before place `after`, in constructs with these exits
module _ (g : ℕ) (s : Setting) where
  abbrev mutual
    pub links : Here → Item → (p after : ℕ) → List ℕ → List Link
    links h (Item.Plain x) p after exits = goes (effect s h (Item.Plain x)) p (leads (leading x) after exits) ++ hands_out x p
    links h (Item.Checks q) p after exits = Link.Goes (Effect.Checks q) p after ∷ []
    links h (Item.If c x y) p after exits =
        Link.Goes Effect.KeepsFacts p (first_place x (p + 1) after) ∷ Link.Goes Effect.KeepsFacts p (first_place y (p + 1 + all_places g x) after)
        ∷ (links_all (branch h c) x (p + 1) after exits ++ links_all untold y (p + 1 + all_places g x) after exits)
    links h (Item.Block x) p after exits = Link.Goes Effect.KeepsFacts p (first_place x (p + 1) after) ∷ links_all untold x (p + 1) after (after ∷ exits)
    links h (Item.Loop x) p after exits = Link.Goes Effect.KeepsFacts p (first_place x (p + 1) p) ∷ links_all untold x (p + 1) p (after ∷ exits)
    links h (Item.Inner x) p after exits = Link.Goes Effect.KeepsFacts p (first_place x (p + 1) p) ∷ links_all untold x (p + 1) p (after ∷ exits)

    pub links_all : Here → Items → (p after : ℕ) → List ℕ → List Link
    links_all h Items.end p after exits = []
    links_all h (Items.next i rest) p after exits =
        links h i p (first_place rest (p + places g i) after) exits ++ links_all (here_after i h) rest (p + places g i) after exits

  -- the links of a whole body
  abbrev pub body_links : Items → List Link
  body_links is = links_all untold is 0 (all_places g is) []

-- ---- Demands

-- The step at a place wants facts to be known before the item at a place; or it breaks the discipline whatever is known.
pub record Demand : Type 0 where
  pub place : ℕ
  pub at : ℕ
  pub fits : Bool
  pub facts : List Fact

abbrev pub demand : (place at : ℕ) → Bool → List Fact → Demand
demand place at fits facts = record { place = place; at = at; fits = fits; facts = facts }

abbrev pub own_all : List ℕ → List Fact
own_all [] = []
own_all (v ∷ vs) = Fact.Own v ∷ own_all vs

abbrev pub read_facts : Option ℕ → List ℕ → List Fact
read_facts None vs = own_all vs
read_facts (Some v) vs = Fact.Clean v ∷ own_all vs

-- the demands of a sequence that is given these operands
module _ (s : Setting) (operands : List ℕ) (at : ℕ) where
  abbrev pub inside : (levels : ℕ) → FStep → (p : ℕ) → Demand
  inside levels x p = demand p at (fits s levels x) (own_all (shared operands (reads x)))

  abbrev mutual
    pub inside_demands : (levels : ℕ) → FStep → (p : ℕ) → List Demand
    inside_demands levels (FStep.If cond x y) p =
        inside levels (FStep.If cond x y) p ∷ (all_inside levels x (p + 1) ++ all_inside levels y (p + 1 + steps_places x))
    inside_demands levels (FStep.Block x) p = all_inside (suc levels) x (p + 1)
    inside_demands levels (FStep.Loop x) p = all_inside (suc levels) x (p + 1)
    inside_demands levels (FStep.Inner x) p = all_inside (suc levels) x (p + 1)
    inside_demands levels x p = inside levels x p ∷ []

    pub all_inside : (levels : ℕ) → FSteps → (p : ℕ) → List Demand
    all_inside levels FSteps.none p = []
    all_inside levels (FSteps.more x rest) p = inside_demands levels x p ++ all_inside levels rest (p + step_places x)

-- the demands of items that stand from place p on, within so many constructs that an Exit can leave
module _ (g : ℕ) (s : Setting) where
  abbrev mutual
    pub demands : (levels : ℕ) → Item → (p : ℕ) → List Demand
    demands levels (Item.Plain x) p = demand p p (fits s levels x && is_plain x) (read_facts (address x) (reads x)) ∷ []
    demands levels (Item.Checks q) p =
        demand (p + pointer_use q) p true (Fact.Clean (pointer q) ∷ []) ∷ all_inside s (operands q) p levels (sequence_steps g q) p
    demands levels (Item.If c x y) p =
        demand p p (nat_lt c s.values) (Fact.Own c ∷ []) ∷ (demands_all levels x (p + 1) ++ demands_all levels y (p + 1 + all_places g x))
    demands levels (Item.Block x) p = demands_all (suc levels) x (p + 1)
    demands levels (Item.Loop x) p = demands_all (suc levels) x (p + 1)
    demands levels (Item.Inner x) p = demands_all (suc levels) x (p + 1)

    pub demands_all : (levels : ℕ) → Items → (p : ℕ) → List Demand
    demands_all levels Items.end p = []
    demands_all levels (Items.next i rest) p = demands levels i p ++ demands_all levels rest (p + places g i)

-- ---- Demands that are not met

-- L says which facts are lost at a place
module _ (L : (place : ℕ) → Fact → Type 0) where
  abbrev pub AnyLost : (at : ℕ) → List Fact → Type 0
  AnyLost at [] = ⊥
  AnyLost at (x ∷ xs) = L at x ⊎ AnyLost at xs

  abbrev pub IsUnmet : Demand → Type 0
  IsUnmet d = (d.fits ≡ false) ⊎ AnyLost d.at d.facts

  -- a demand of the step at place q is not met
  abbrev pub UnmetAt : List Demand → (q : ℕ) → Type 0
  UnmetAt [] q = ⊥
  UnmetAt (d ∷ ds) q = ((q ≡ d.place) × IsUnmet d) ⊎ UnmetAt ds q
