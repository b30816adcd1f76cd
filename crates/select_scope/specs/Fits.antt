-- Flat code that a machine is shown to follow: all steps but malloc and free, and all items but the sequences that check
-- pointers. Numbers are in range: those of values, those of the constructs around, those of functions.
use Rattle.std.specs.Prelude.{◌≡◌, ℕ, suc, ◌^◌, ◌<◌, ◌≤◌, List, [], ◌∷◌, length, Option, Some, None, slice_get}
use Rattle.flat_code.specs.Code.{FStep, FFunction, FCode}
use Rattle.flat_discipline.specs.Items.{Item, Items, items_of}

-- each of these is the number of a value
abbrev pub AreValues : (values : ℕ) → List ℕ → Type 0
AreValues values [] = Unit {0}
AreValues values (v ∷ vs) = (v < values) × AreValues values vs

-- how many parameters a function has, if there is one
abbrev pub params_of : Option FFunction → Option ℕ
params_of None = None
params_of (Some f) = Some f.params

-- In a function with so many values, within so many constructs; each function that is called has as many parameters, at
-- most eight.
module _ (values : ℕ) (params : ℕ → Option ℕ) where
  abbrev pub FitsStep : (levels : ℕ) → FStep → Type 0
  FitsStep levels (FStep.Number to value) = (to < values) × (value < 2 ^ 32)
  FitsStep levels (FStep.Same to from) = (to < values) × (from < values)
  FitsStep levels (FStep.Arith to f left right) = (to < values) × (left < values) × (right < values)
  FitsStep levels (FStep.Exit n) = (1 ≤ n) × (n ≤ levels)
  FitsStep levels (FStep.Call to function args) = (to < values) × AreValues values args × (params function ≡ Some (length args)) × (length args ≤ 8)
  FitsStep levels (FStep.Return from) = from < values
  FitsStep levels (FStep.Load to at width) = (to < values) × (at < values)
  FitsStep levels (FStep.Store at from width) = (at < values) × (from < values)
  FitsStep levels (FStep.Slot to from) = (to < values) × (from < values)
  FitsStep levels (FStep.Checked from to) = (from < values) × (to < values)
  FitsStep levels (FStep.Look to slot) = (to < values) × (slot < values)
  FitsStep levels (FStep.FrameAt to offset) = (to < values) × (offset < 2 ^ 31)
  FitsStep levels (FStep.LineMark line) = line < 2 ^ 20
  FitsStep levels (FStep.Report kind line) = line < values
  FitsStep levels (FStep.Env to call a b) = (to < values) × (a < values) × (b < values) × (1 ≤ call) × (call ≤ 3)
  FitsStep levels s = ⊥

  abbrev mutual
    pub FitsItem : (levels : ℕ) → Item → Type 0
    FitsItem levels (Item.Plain s) = FitsStep levels s
    FitsItem levels (Item.Checks q) = ⊥
    FitsItem levels (Item.If cond first second) = (cond < values) × FitItems levels first × FitItems levels second
    FitsItem levels (Item.Block body) = FitItems (suc levels) body
    FitsItem levels (Item.Loop body) = FitItems (suc levels) body
    FitsItem levels (Item.Inner body) = FitItems (suc levels) body

    pub FitItems : (levels : ℕ) → Items → Type 0
    FitItems levels Items.end = Unit {0}
    FitItems levels (Items.next i rest) = FitsItem levels i × FitItems levels rest

-- A function of the program: it has at most 255 values, at most eight of them parameters, and a line.
pub record FitsFunction (params : ℕ → Option ℕ) (number : ℕ) (f : FFunction) : Type 0 where
  pub values : f.values ≤ 255
  pub few : f.params ≤ 8
  pub within : f.params ≤ f.values
  pub line : 1 ≤ f.line
  pub small : f.line < 2 ^ 32
  pub number_is : number < 2 ^ 32
  pub items : FitItems f.values params 0 (items_of 4 f.body)

-- each function of the code fits
abbrev pub FunctionsFit : FCode → Type 0
FunctionsFit code = (number : ℕ) (f : FFunction) → slice_get code.functions number ≡ Some f
    → FitsFunction (λ n. params_of (slice_get code.functions n)) number f

-- The first function that is called is there, and has no parameters.
pub record HasMain (code : FCode) : Type 0 where
  pub main : FFunction
  pub main_is : slice_get code.functions code.main ≡ Some main
  pub no_params : main.params ≡ 0

-- the code of a program that fits
pub record FitsProgram (code : FCode) : Type 0 where
  pub functions : FunctionsFit code
  pub first : HasMain code
