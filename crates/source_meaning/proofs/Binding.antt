-- How answers are bound. The meaning is built from `and_then`, which the proofs about it leave closed.
use Rattle.std.proofs.Common.{◌≡◌, refl}
use Rattle.bb_words.specs.Answers.{Answer, Goes, Ends, and_then}

pub goes : {E S A B : Type 0} (a : A) (s : S) (f : A → S → Answer E S B) → and_then (Goes a s) f ≡ f a s
unfolding and_then
goes a s f = refl

pub ends : {E S A B : Type 0} (e : E) (s : S) (f : A → S → Answer E S B) → and_then (Ends e s) f ≡ Ends e s
unfolding and_then
ends e s f = refl

pub assoc : {E S A B C : Type 0} (r : Answer E S A) (f : A → S → Answer E S B) (h : B → S → Answer E S C) → and_then (and_then r f) h ≡ and_then r (λ a s. and_then (f a s) h)
unfolding and_then
assoc (Goes a s) f h = refl
assoc (Ends e s) f h = refl
