-- When registers and the control frame hold what flat code does.
use Rattle.std.specs.Prelude.{◌≡◌, ◌≢◌, ℕ, ◌^◌, ◌<◌, ◌≤◌, List, Option, Some, None}
use Rattle.bb_words.specs.Steps.{arith}
use Rattle.bb_words.specs.declared.steps.ArithOp.{ArithOp}
use Rattle.flat_code.specs.Code.{FStep}
use Rattle.flat_code.specs.World.{Words, with_word}
use Rattle.rv_code.specs.declared.instr.Instr.{Instr}
use Rattle.rv_selected.specs.Registers.{cell}
use Rattle.rv_selected.specs.Steps.{held_after, step_code}
use Rattle.rv_selected.specs.Straight.{Held, does_all}

-- x5 holds the value that it is known to hold
abbrev pub IsKnown : (known : Option ℕ) → Words → Held → Type 0
IsKnown None words h = Unit {0}
IsKnown (Some v) words h = h.register 5 ≡ words v

-- each value is the word of its cell
pub record Stands (values : ℕ) (known : Option ℕ) (words : Words) (h : Held) : Type 0 where
  pub cells : (v : ℕ) → v < values → h.word (cell v) ≡ words v
  pub five : IsKnown known words h
  pub zero : h.register 0 ≡ 0

-- Registers other than x5 and x6 stay, and so do the words of the control frame that hold no value: the place to return to.
pub record KeepsRegisters (values : ℕ) (old new : Held) : Type 0 where
  pub registers : (r : ℕ) → r ≢ 5 → r ≢ 6 → new.register r ≡ old.register r
  pub others : (o : ℕ) → ((v : ℕ) → v < values → o ≢ cell v) → new.word o ≡ old.word o

-- the instructions lead from words to others
abbrev pub Leads : (values : ℕ) → (known after : Option ℕ) → (old new : Words) → List Instr → Type 0
Leads values known after old new code =
    (h : Held) → ((v : ℕ) → v < values → old v < 2 ^ 32) → Stands values known old h → Stands values after new (does_all code h)
    × KeepsRegisters values h (does_all code h)

-- The instructions of steps that compute do to the words of the control frame what flat code does to values.
pub record StepsLead : Type 0 where
  pub number : (g values : ℕ) (known : Option ℕ) (words : Words) (to value : ℕ) → values ≤ 255 → to < values → value < 2 ^ 32 →
      let s = FStep.Number to value in Leads values known (held_after known s) words (with_word words to value) (step_code g known s)
  pub same : (g values : ℕ) (known : Option ℕ) (words : Words) (to from : ℕ) → values ≤ 255 → to < values → from < values →
      let s = FStep.Same to from in Leads values known (held_after known s) words (with_word words to (words from)) (step_code g known s)
  pub arith : (g values : ℕ) (known : Option ℕ) (words : Words) (to : ℕ) (f : ArithOp) (left right : ℕ) → values ≤ 255 → to < values
      → left < values → right < values →
      let s = FStep.Arith to f left right in Leads values known (held_after known s) words (with_word words to (arith f (words left) (words right)))
      (step_code g known s)
