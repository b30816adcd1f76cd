-- The discipline of flat code: which code is safe in every run, whatever memory holds.
use Rattle.std.specs.Prelude.{◌≡◌, ◌<◌, ◌⊎◌, ◌==◌, ℕ, Bool, false, not, ◌&&◌, ◌||◌, List, Option, Some, None, nat_le, slice_get}
use Rattle.size_table.specs.Blocks.{Block}
use Rattle.flat_code.specs.Code.{FFunction, FCode}
use Rattle.flat_discipline.specs.Items.{items_of}
use Rattle.flat_discipline.specs.Facts.{Fact, Setting}
use Rattle.flat_discipline.specs.Chains.{Edges, body_edges, Spot, Lost}
use Rattle.flat_discipline.specs.Breaks.{BreaksAll}

-- ---- The functions of a program

abbrev pub params_in : Option FFunction → Option ℕ
params_in None = None
params_in (Some f) = Some f.params

abbrev pub values_in : Option FFunction → ℕ
values_in None = 0
values_in (Some f) = f.values

abbrev pub frame_in : Option FFunction → ℕ
frame_in None = 0
frame_in (Some f) = f.frame

abbrev pub line_in : Option FFunction → ℕ
line_in None = 0
line_in (Some f) = f.line

abbrev pub setting_in : (globals : List Block) → (functions : List FFunction) → Option FFunction → Setting
setting_in globals functions f =
    record { globals = globals; values = values_in f; frame = frame_in f; line = line_in f; params_of = λ k. params_in (slice_get functions k) }

abbrev pub edges_in : (g : ℕ) → Option FFunction → Edges
edges_in g None h i a b = ⊥
edges_in g (Some f) h i a b = body_edges g (items_of g f.body) h i a b

module _ (g : ℕ) (globals : List Block) (functions : List FFunction) where
  abbrev pub setting : ℕ → Setting
  setting f = setting_in globals functions (slice_get functions f)

  abbrev pub edges : ℕ → Edges
  edges f = edges_in g (slice_get functions f)

  -- a fact is lost before the item at a place of a function
  abbrev pub LostAt : (function place : ℕ) → Fact → Type 0
  LostAt f p fact = Lost setting edges (Spot.At f p fact)

  -- the result of a function is tainted
  abbrev pub ResultLost : (function : ℕ) → Type 0
  ResultLost f = Lost setting edges (Spot.Result f)

-- ---- What holds of a function as a whole

-- the most values that a function may have, and the most of a body of the library, each of which has a register
abbrev pub most_values : ℕ
most_values = 255

abbrev pub most_library_values : ℕ
most_library_values = 12

abbrev pub most_params : ℕ
most_params = 8

-- a body of the library has no frame
abbrev pub library_fits : FFunction → Bool
library_fits f = not (f.line == 0) || ((f.frame == 0) && nat_le f.values most_library_values)

-- the first function that is called takes no arguments
abbrev pub main_fits : (main number : ℕ) → FFunction → Bool
main_fits main number f = not (number == main) || (f.params == 0)

abbrev pub function_fits : (main number : ℕ) → FFunction → Bool
function_fits main number f =
    (nat_le f.values most_values && nat_le f.params most_params) && (nat_le f.params f.values && (library_fits f && main_fits main number f))

-- ---- The discipline

-- A place breaks the discipline; L says which facts are lost at a place. What a function is as a whole breaks it at its
-- place 0, and a missing first function at the place 0 that it would have.
abbrev pub BreaksBy : (g : ℕ) → Setting → (L : (place : ℕ) → Fact → Type 0) → (main number : ℕ) → Option FFunction → (place : ℕ)
    → Type 0
BreaksBy g s L main number None q = (number ≡ main) × (q ≡ 0)
BreaksBy g s L main number (Some f) q = ((q ≡ 0) × (function_fits main number f ≡ false)) ⊎ BreaksAll g s L 0 (items_of g f.body) 0 q

module _ (g : ℕ) (globals : List Block) (code : FCode) where
  abbrev pub BreaksAt : (function place : ℕ) → Type 0
  BreaksAt f q = BreaksBy g (setting g globals code.functions f) (LostAt g globals code.functions f) code.main f (slice_get code.functions f) q

  abbrev pub IsDisciplined : Type 0
  IsDisciplined = (f q : ℕ) → BreaksAt f q → ⊥

-- ---- The first break

pub record StepIndex : Type 0 where
  pub function : ℕ
  pub place : ℕ

-- functions come in their order, and in a function its places
abbrev pub Before : StepIndex → StepIndex → Type 0
Before a b = (a.function < b.function) ⊎ ((a.function ≡ b.function) × (a.place < b.place))

-- the answer is the first place that is bad, or there is none
abbrev pub FirstBad : (Bad : (function place : ℕ) → Type 0) → Option StepIndex → Type 0
FirstBad Bad None = (f q : ℕ) → Bad f q → ⊥
FirstBad Bad (Some a) = Bad a.function a.place × ((b : StepIndex) → Before b a → Bad b.function b.place → ⊥)

-- the first place that breaks the discipline
abbrev pub FirstBreak : (g : ℕ) → (globals : List Block) → FCode → Option StepIndex → Type 0
FirstBreak g globals code answer = FirstBad (BreaksAt g globals code) answer
