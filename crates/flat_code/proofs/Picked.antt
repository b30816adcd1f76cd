-- Which of three sequences the steps begin with.
use Rattle.std.proofs.Common.{◌≡◌, ℕ, Bool, true, false, Option, Some, None, cond, refl, sym, ap, ◌∙◌}
use Rattle.std.specs.Prelude.{◌&&◌}
use Rattle.flat_code.specs.Code.{FSteps}
use Rattle.flat_code.specs.Recognized.{Sequence, sequence_steps, is_apart, starts, move_of, load_of, span_of, if_begins, sequence_at}
use Rattle.flat_code.specs.SequenceViews.{begins}

and_false : (b : Bool) → (b && false) ≡ false
and_false true = refl
and_false false = refl

and_true : (b : Bool) → (b && true) ≡ b
and_true true = refl
and_true false = refl

pub not_apart : (g : ℕ) (q : Sequence) (a : FSteps) → is_apart q ≡ false → false ≡ begins g q a
not_apart g q a h = sym (ap (λ t. starts (sequence_steps g q) a && t) h ∙ and_false (starts (sequence_steps g q) a))

pub if_apart : (g : ℕ) (q : Sequence) (a : FSteps) (b : Bool) → is_apart q ≡ true → b ≡ starts (sequence_steps g q) a → b ≡ begins g q a
if_apart g q a b h k = k ∙ sym (ap (λ t. starts (sequence_steps g q) a && t) h ∙ and_true (starts (sequence_steps g q) a))

if_so : (g : ℕ) (q p : Sequence) (a : FSteps) (other : Option Sequence) → q ≡ p → begins g q a ≡ true → Some q ≡ if_begins g p a other
if_so g q p a other is h = sym (ap (λ x. if_begins g x a other) (sym is) ∙ ap (λ t. cond t (Some q) other) h)

if_not : (g : ℕ) (q p : Sequence) (a : FSteps) (other : Option Sequence) → q ≡ p → begins g q a ≡ false → if_begins g p a other ≡ other
if_not g q p a other is h = ap (λ x. if_begins g x a other) (sym is) ∙ ap (λ t. cond t (Some q) other) h

module _ (g : ℕ) (a : FSteps) where
  pub first_found : (q : Sequence) → q ≡ move_of a → begins g q a ≡ true → Some q ≡ sequence_at g a
  first_found q is h = if_so g q (move_of a) a (if_begins g (load_of a) a (if_begins g (span_of a) a None)) is h

  pub second_found : (p q : Sequence) → p ≡ move_of a → begins g p a ≡ false → q ≡ load_of a → begins g q a ≡ true → Some q ≡ sequence_at g a
  second_found p q is h is2 h2 =
      if_so g q (load_of a) a (if_begins g (span_of a) a None) is2 h2
      ∙ sym (if_not g p (move_of a) a (if_begins g (load_of a) a (if_begins g (span_of a) a None)) is h)

  pub third_found : (p q r : Sequence) → p ≡ move_of a → begins g p a ≡ false → q ≡ load_of a → begins g q a ≡ false → r ≡ span_of a → begins g r a ≡ true → Some r ≡ sequence_at g a
  third_found p q r is h is2 h2 is3 h3 =
      if_so g r (span_of a) a None is3 h3
      ∙ sym (if_not g q (load_of a) a (if_begins g (span_of a) a None) is2 h2)
      ∙ sym (if_not g p (move_of a) a (if_begins g (load_of a) a (if_begins g (span_of a) a None)) is h)

  pub none_found : (p q r : Sequence) → p ≡ move_of a → begins g p a ≡ false → q ≡ load_of a → begins g q a ≡ false → r ≡ span_of a → begins g r a ≡ false → None ≡ sequence_at g a
  none_found p q r is h is2 h2 is3 h3 =
      sym (if_not g r (span_of a) a None is3 h3)
      ∙ sym (if_not g q (load_of a) a (if_begins g (span_of a) a None) is2 h2)
      ∙ sym (if_not g p (move_of a) a (if_begins g (load_of a) a (if_begins g (span_of a) a None)) is h)
