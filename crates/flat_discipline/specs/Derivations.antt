-- Derivations of what is known before each item. Code that has one keeps the discipline, so it is the form in which code is
-- shown to be accepted by what makes it.
use Rattle.std.specs.Prelude.{◌≡◌, ℕ, suc, Bool, true, false, ◌&&◌, List, [], ◌∷◌, length, Option, Some, None, nat_lt, slice_get}
use Rattle.size_table.specs.Blocks.{Block}
use Rattle.flat_code.specs.Code.{FStep, FSteps, FFunction, FCode}
use Rattle.flat_code.specs.Recognized.{sequence_steps}
use Rattle.flat_discipline.specs.Items.{Item, Items, items_of}
use Rattle.flat_discipline.specs.Facts.{Fact, Setting, Here, untold, branch, here_after}
use Rattle.flat_discipline.specs.Chains.{leading, leads}
use Rattle.flat_discipline.specs.Breaks.{fits, is_plain, address, reads, operands, pointer}
use Rattle.flat_discipline.specs.Closed.{Known, Covers, known_after}
use Rattle.flat_discipline.specs.Discipline.{setting, function_fits}

-- ---- What a step wants to be known

abbrev pub address_known : Known → Option ℕ → Bool
address_known K None = true
address_known K (Some v) = K (Fact.Clean v)

abbrev pub all_own : Known → List ℕ → Bool
all_own K [] = true
all_own K (v ∷ vs) = K (Fact.Own v) && all_own K vs

-- which parameters of each function are untainted, and which results
pub record Signs : Type 0 where
  pub takes : (function parameter : ℕ) → Bool
  pub gives : (function : ℕ) → Bool

abbrev pub implied : Bool → Bool → Bool
implied true b = b
implied false b = true

abbrev pub passes_known : (takes : ℕ → Bool) → Known → ℕ → List ℕ → Bool
passes_known takes K k [] = true
passes_known takes K k (v ∷ vs) = implied (takes k) (K (Fact.Clean v)) && passes_known takes K (suc k) vs

-- what a step hands to other functions is as their signs say
abbrev pub hands : Signs → (gives : Bool) → Known → FStep → Bool
hands sg gives K (FStep.Call to function args) = passes_known (sg.takes function) K 0 args
hands sg gives K (FStep.Return from) = implied gives (K (Fact.Clean from))
hands sg gives K s = true

-- the numbers of steps are in range, those of the steps inside them too
abbrev mutual
  pub FitStep : Setting → (levels : ℕ) → FStep → Type 0
  FitStep s levels (FStep.If cond x y) = (fits s levels (FStep.If cond x y) ≡ true) × Fit s levels x × Fit s levels y
  FitStep s levels (FStep.Block x) = Fit s (suc levels) x
  FitStep s levels (FStep.Loop x) = Fit s (suc levels) x
  FitStep s levels (FStep.Inner x) = Fit s (suc levels) x
  FitStep s levels x = fits s levels x ≡ true

  pub Fit : Setting → (levels : ℕ) → FSteps → Type 0
  Fit s levels FSteps.none = Unit {0}
  Fit s levels (FSteps.more x rest) = FitStep s levels x × Fit s levels rest

pub record Ready (s : Setting) (sg : Signs) (gives : Bool) (levels : ℕ) (K : Known) (x : FStep) : Type 0 where
  pub in_range : fits s levels x && is_plain x ≡ true
  pub clean : address_known K (address x) ≡ true
  pub own : all_own K (reads x) ≡ true
  pub handed : hands sg gives K x ≡ true

-- ---- Derivations

-- what must be known where a step leads
abbrev pub Leads : Option Known → Known → Type 0
Leads None K = Unit {0}
Leads (Some X) K = Covers X K

-- From what is known before, items lead to what is to be known after them; E is what is to be known at each exit.
module _ (g : ℕ) (s : Setting) (sg : Signs) (gives : Bool) where
  abbrev mutual
    pub Good : List Known → Here → Known → Item → Known → Type 0
    Good E h K (Item.Plain x) M = Ready s sg gives (length E) K x × Leads (leads (leading x) M E) (known_after s sg.gives h (Item.Plain x) K)
    Good E h K (Item.Checks q) M =
        Fit s (length E) (sequence_steps g q) × (K (Fact.Clean (pointer q)) ≡ true) × (all_own K (operands q) ≡ true)
        × Covers M (known_after s sg.gives h (Item.Checks q) K)
    Good E h K (Item.If c x y) M = (nat_lt c s.values ≡ true) × (K (Fact.Own c) ≡ true) × Goods E (branch h c) K x M × Goods E untold K y M
    Good E h K (Item.Block x) M = Goods (M ∷ E) untold K x M
    Good E h K (Item.Loop x) M = (H : Known) × Covers H K × Goods (M ∷ E) untold H x H
    Good E h K (Item.Inner x) M = (H : Known) × Covers H K × Goods (M ∷ E) untold H x H

    pub Goods : List Known → Here → Known → Items → Known → Type 0
    Goods E h K Items.end M = Covers M K
    Goods E h K (Items.next i rest) M = (N : Known) × Good E h K i N × Goods E (here_after i h) N rest M

-- what is known at a function's start
abbrev pub at_start : (takes : ℕ → Bool) → (params : ℕ) → Known
at_start takes params (Fact.Clean v) = implied (nat_lt v params) (takes v)
at_start takes params (Fact.Own v) = true
at_start takes params (Fact.Spanned x n) = false

pub record GoodFunction (g : ℕ) (globals : List Block) (sg : Signs) (code : FCode) (f : ℕ) (fn : FFunction) : Type 0 where
  pub items : Items
  pub read : items_of g fn.body ≡ items
  pub in_range : function_fits code.main f fn ≡ true
  pub known : Known
  pub begins : Covers known (at_start (sg.takes f) fn.params)
  pub last : Known
  pub good : Goods g (setting g globals code.functions f) sg (sg.gives f) [] untold known items last

-- a program with derivations
pub record GoodProgram (g : ℕ) (globals : List Block) (sg : Signs) (code : FCode) : Type 0 where
  pub main : FFunction
  pub is_main : slice_get code.functions code.main ≡ Some main
  pub each : (f : ℕ) (fn : FFunction) → slice_get code.functions f ≡ Some fn → GoodFunction g globals sg code f fn
