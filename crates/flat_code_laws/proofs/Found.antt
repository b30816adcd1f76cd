-- Sequences are found where they stand.
use Rattle.std.proofs.Common.{◌≡◌, ℕ, Bool, true, false, cond, List, [], ◌∷◌, Option, Some, None, refl, ap, ◌∙◌, subst, arith}
use Rattle.std.specs.Prelude.{◌==◌, ◌&&◌, if◌then◌else◌}
use Rattle.std.proofs.lemmas.Bool.Decides.{nat_tests}
use Rattle.flat_code.specs.Code.{FStep, FSteps, ◌+++◌}
use Rattle.flat_code.specs.Recognized.{number_of_op, number_of_width, number_of_kind, same_numbers, same_step, same_steps, starts, Sequence, sequence_steps, is_apart, move_of, load_of, span_of, if_begins}
use Rattle.flat_code_laws.specs.Laws.{SequencesAreFound, FoundAreSequences}

same_number : (n : ℕ) → (n == n) ≡ true
same_number n = grind (arith, nat_tests)

both : (a b : Bool) → a ≡ true → b ≡ true → (a && b) ≡ true
both a b h k = ap (λ t. t && b) h ∙ k

numbers_are : (xs : List ℕ) → same_numbers xs xs ≡ true
numbers_are [] = refl
numbers_are (x ∷ xs) = both (x == x) (same_numbers xs xs) (same_number x) (numbers_are xs)

two : (a b : ℕ) → ((a == a) && (b == b)) ≡ true
two a b = both (a == a) (b == b) (same_number a) (same_number b)

three : (a b c : ℕ) → ((a == a) && ((b == b) && (c == c))) ≡ true
three a b c = both (a == a) _ (same_number a) (two b c)

-- a step is itself
mutual
  step_is : (s : FStep) → same_step s s ≡ true
  step_is (FStep.Number to value) = two to value
  step_is (FStep.Same to from) = two to from
  step_is (FStep.Arith to f left right) = both (to == to) _ (same_number to) (three (number_of_op f) left right)
  step_is (FStep.If cond first second) = both (cond == cond) _ (same_number cond) (both (same_steps first first) (same_steps second second) (steps_are first) (steps_are second))
  step_is (FStep.Block body) = steps_are body
  step_is (FStep.Loop body) = steps_are body
  step_is (FStep.Inner body) = steps_are body
  step_is (FStep.Exit levels) = same_number levels
  step_is (FStep.Call to function args) = both (to == to) _ (same_number to) (both (function == function) (same_numbers args args) (same_number function) (numbers_are args))
  step_is (FStep.Return from) = same_number from
  step_is (FStep.Slot to from) = two to from
  step_is (FStep.Look to slot) = two to slot
  step_is (FStep.FrameAt to offset) = two to offset
  step_is (FStep.Load to at w) = three to at (number_of_width w)
  step_is (FStep.Store at from w) = three at from (number_of_width w)
  step_is (FStep.Checked from to) = two from to
  step_is (FStep.LineMark line) = same_number line
  step_is (FStep.Report kind line) = two (number_of_kind kind) line
  step_is (FStep.Env to call a b) = both (to == to) _ (same_number to) (three call a b)

  steps_are : (xs : FSteps) → same_steps xs xs ≡ true
  steps_are FSteps.none = refl
  steps_are (FSteps.more s xs) = both (same_step s s) (same_steps xs xs) (step_is s) (steps_are xs)

begins : (xs rest : FSteps) → starts xs (xs +++ rest) ≡ true
begins FSteps.none rest = refl
begins (FSteps.more s xs) rest = both (same_step s s) (starts xs (xs +++ rest)) (step_is s) (begins xs rest)

-- a sequence that begins the steps, and is apart, is the answer
found : (g : ℕ) (sequence : Sequence) (a : FSteps) (other : Option Sequence) → starts (sequence_steps g sequence) a ≡ true → is_apart sequence ≡ true → if_begins g sequence a other ≡ Some sequence
found g sequence a other h k = ap (λ t. if t then Some sequence else other) (both (starts (sequence_steps g sequence) a) (is_apart sequence) h k)

pub sequences_are_found : SequencesAreFound
sequences_are_found g (Sequence.Move p d q line s e) rest h =
    let a = sequence_steps g (Sequence.Move p d q line s e) +++ rest in
    found g (Sequence.Move p d q line s e) a (if_begins g (load_of a) a (if_begins g (span_of a) a None)) (begins (sequence_steps g (Sequence.Move p d q line s e)) rest) h
sequences_are_found g (Sequence.Load w at line s e) rest h =
    let a = sequence_steps g (Sequence.Load w at line s e) +++ rest in
    found g (Sequence.Load w at line s e) a (if_begins g (span_of a) a None) (begins (sequence_steps g (Sequence.Load w at line s e)) rest) h
sequences_are_found g (Sequence.Span p n q line d s e) rest h =
    let a = sequence_steps g (Sequence.Span p n q line d s e) +++ rest in
    found g (Sequence.Span p n q line d s e) a None (begins (sequence_steps g (Sequence.Span p n q line d s e)) rest) h

-- ---- What is found

and_is : (a b : Bool) → (a && b) ≡ true → (a ≡ true) × (b ≡ true)
and_is true b h = (refl, h)
and_is false b h = absurd (let z : ⊥ = cc in z)

of_found : (g : ℕ) (tried sequence : Sequence) (a : FSteps) (other : Option Sequence)
    → (other ≡ Some sequence → (starts (sequence_steps g sequence) a ≡ true) × (is_apart sequence ≡ true))
    → if_begins g tried a other ≡ Some sequence → (starts (sequence_steps g sequence) a ≡ true) × (is_apart sequence ≡ true)
of_found g tried sequence a other k h = by (starts (sequence_steps g tried) a && is_apart tried) refl h
  where
    by : (t : Bool) → (starts (sequence_steps g tried) a && is_apart tried) ≡ t → (if t then Some tried else other) ≡ Some sequence → (starts (sequence_steps g sequence) a ≡ true) × (is_apart sequence ≡ true)
    by true q r =
        let same : tried ≡ sequence = cc in
        let parts = and_is (starts (sequence_steps g tried) a) (is_apart tried) q in
        (subst (λ x. starts (sequence_steps g x) a ≡ true) same parts.0, subst (λ x. is_apart x ≡ true) same parts.1)
    by false q r = k r

pub found_are_sequences : FoundAreSequences
found_are_sequences g a sequence h =
    of_found g (move_of a) sequence a (if_begins g (load_of a) a (if_begins g (span_of a) a None))
    (of_found g (load_of a) sequence a (if_begins g (span_of a) a None) (of_found g (span_of a) sequence a None (λ r. absurd (let z : ⊥ = cc in z)))) h
