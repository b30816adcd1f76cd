-- How a part of a run answers. Every meaning of a program, of its source and of its codes, is a function from a state to
-- such an answer; this is the one way in which they go on.
use Rattle.std.specs.Prelude.{Bool, true, false}

-- A part of a run goes on with a value in a state, or the run ends in a state, in a way of its own.
pub data Answer (E S A : Type 0) : Type 0 where
  Goes : A → S → Answer E S A
  Ends : E → S → Answer E S A

-- The run goes on from the answer, where it has not ended.
unfoldable pub and_then : {E S A B : Type 0} → Answer E S A → (A → S → Answer E S B) → Answer E S B
and_then (Answer.Goes a s) f = f a s
and_then (Answer.Ends o s) f = Answer.Ends o s

-- One of two ways to go on. The ways are functions that are chosen before they are applied, so that nothing of the other
-- one is evaluated.
abbrev pub either {ℓ} : {A : Type ℓ} → Bool → A → A → A
either true a b = a
either false a b = b
