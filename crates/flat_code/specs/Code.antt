-- Flat code, as contracts see it. Each type is that of the same name in the program, without memory.
use Rattle.std.specs.Prelude.{ℕ, List, [], ◌∷◌}
use Rattle.bb_words.specs.declared.kinds.ReportKind.{ReportKind}
use Rattle.bb_words.specs.declared.steps.ArithOp.{ArithOp}
use Rattle.bb_words.specs.declared.steps.Width.{Width}

mutual
  -- a step
  pub data FStep : Type 0 where
    Number : (to value : ℕ) → FStep
    Same : (to from : ℕ) → FStep
    Arith : (to : ℕ) → (op : ArithOp) → (left right : ℕ) → FStep
    If : (cond : ℕ) → (yes no : FSteps) → FStep
    Block : (body : FSteps) → FStep
    Loop : (body : FSteps) → FStep
    Inner : (body : FSteps) → FStep
    Exit : (levels : ℕ) → FStep
    Call : (to function : ℕ) → (args : List ℕ) → FStep
    Return : (from : ℕ) → FStep
    Slot : (to from : ℕ) → FStep
    Look : (to slot : ℕ) → FStep
    FrameAt : (to offset : ℕ) → FStep
    Load : (to at : ℕ) → (width : Width) → FStep
    Store : (at from : ℕ) → (width : Width) → FStep
    Checked : (from to : ℕ) → FStep
    LineMark : (line : ℕ) → FStep
    Report : (kind : ReportKind) → (line : ℕ) → FStep
    Env : (to call a b : ℕ) → FStep

  -- steps, one after another
  pub data FSteps : Type 0 where
    none : FSteps
    more : FStep → FSteps → FSteps

pub record FFunction : Type 0 where
  pub values : ℕ
  pub params : ℕ
  pub frame : ℕ
  pub line : ℕ
  pub body : FSteps

pub record FCode : Type 0 where
  pub functions : List FFunction
  pub main : ℕ
  pub initial : List ℕ

-- one list of steps and then another
infixr 55 ◌+++◌
abbrev pub ◌+++◌ : FSteps → FSteps → FSteps
FSteps.none +++ b = b
(FSteps.more s a) +++ b = FSteps.more s (a +++ b)

-- the steps of a list
abbrev pub steps : List FStep → FSteps
steps [] = FSteps.none
steps (x ∷ xs) = FSteps.more x (steps xs)
