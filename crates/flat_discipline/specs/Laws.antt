-- What holds of the discipline.
use Rattle.std.specs.Prelude.{◌≡◌, ◌==◌, not, ℕ, Bool, true, false, List, Option, slice_get}
use Rattle.size_table.specs.Blocks.{Block}
use Rattle.bb_words.specs.declared.kinds.ReportKind.TheVariants.{Bounds}
use Rattle.flat_code.specs.Code.{FStep, FSteps, ◌+++◌, FFunction, FCode}
use Rattle.flat_code.specs.Recognized.{number_of_kind, Sequence, sequence_steps, is_apart}
use Rattle.flat_discipline.specs.Items.{Item, Items, all_steps, items_of}
use Rattle.flat_discipline.specs.Facts.{Fact}
use Rattle.flat_discipline.specs.Breaks.{is_plain}
use Rattle.flat_discipline.specs.Closed.{Known, ClosedOn, Exact}
use Rattle.flat_discipline.specs.Discipline.{setting, edges, LostAt, BreaksBy, StepIndex, FirstBad, FirstBreak, IsDisciplined}
use Rattle.flat_discipline.specs.Derivations.{Signs, GoodProgram}

-- ---- Items

-- the items of steps are these steps
abbrev pub ItemsAreSteps : Type 0
ItemsAreSteps = (g : ℕ) (steps : FSteps) → all_steps g (items_of g steps) ≡ steps

-- a sequence whose values are apart is an item where it stands
abbrev pub SequencesAreItems : Type 0
SequencesAreItems = (g : ℕ) (q : Sequence) (rest : FSteps) → is_apart q ≡ true
    → items_of g (sequence_steps g q +++ rest) ≡ Items.next (Item.Checks q) (items_of g rest)

-- Items whose plain steps begin no sequence: the values of sequences are apart, and no plain step is one that stands in
-- sequences alone, or reports bounds.
abbrev pub no_bounds : FStep → Bool
no_bounds (FStep.Report kind line) = not (number_of_kind Bounds == number_of_kind kind)
no_bounds s = true

abbrev mutual
  pub IsPlainly : Item → Type 0
  IsPlainly (Item.Plain s) = (is_plain s ≡ true) × (no_bounds s ≡ true)
  IsPlainly (Item.Checks q) = is_apart q ≡ true
  IsPlainly (Item.If c x y) = ArePlainly x × ArePlainly y
  IsPlainly (Item.Block x) = ArePlainly x
  IsPlainly (Item.Loop x) = ArePlainly x
  IsPlainly (Item.Inner x) = ArePlainly x

  pub ArePlainly : Items → Type 0
  ArePlainly Items.end = Unit {0}
  ArePlainly (Items.next i rest) = IsPlainly i × ArePlainly rest

-- such items are read back from their steps
abbrev pub PlainItemsAreRead : Type 0
PlainItemsAreRead = (g : ℕ) (is : Items) → ArePlainly is → items_of g (all_steps g is) ≡ is

-- ---- Chains and tables

-- a closed table of a program knows no fact that is lost
abbrev pub ClosedTablesKnow : Type 0
ClosedTablesKnow =
    (g : ℕ) (globals : List Block) (functions : List FFunction) (A : ℕ → Fact → Bool) (gives : ℕ → Bool) (T : ℕ → ℕ → Known)
    → ClosedOn (setting g globals functions) (edges g globals functions) A gives T
    → (f p : ℕ) (x : Fact) → A f x ≡ true → LostAt g globals functions f p x → T f p x ≡ false

-- ---- Derivations

-- a program with derivations keeps the discipline
abbrev pub DerivationsAreAccepted : Type 0
DerivationsAreAccepted = (g : ℕ) (globals : List Block) (sg : Signs) (code : FCode) → GoodProgram g globals sg code → IsDisciplined g globals code

-- ---- The first break

-- there is at most one
abbrev pub FirstIsOne : Type 0
FirstIsOne = (g : ℕ) (globals : List Block) (code : FCode) (a b : Option StepIndex) → FirstBreak g globals code a → FirstBreak g globals code b
    → a ≡ b

-- the places that break the discipline by a table
module _ (g : ℕ) (globals : List Block) (code : FCode) (T : ℕ → ℕ → Known) where
  abbrev pub BreaksByTable : (function place : ℕ) → Type 0
  BreaksByTable f q = BreaksBy g (setting g globals code.functions f) (λ p x. T f p x ≡ false) code.main f (slice_get code.functions f) q

-- by an exact table the first place that breaks the discipline is the first by chains
abbrev pub ExactTablesTell : Type 0
ExactTablesTell =
    (g : ℕ) (globals : List Block) (code : FCode) (A : ℕ → Fact → Bool) (gives : ℕ → Bool) (T : ℕ → ℕ → Known)
    → Exact (setting g globals code.functions) (edges g globals code.functions) A gives T → (answer : Option StepIndex)
    → FirstBad (BreaksByTable g globals code T) answer → FirstBreak g globals code answer
