-- Code that works on numbers alone is well formed.
use mathlib.Core.Path.{fun_ext}
use Rattle.std.specs.Prelude.{◌==◌, if◌then◌else◌, map, slice_get, replicate}
use Rattle.std.proofs.Common.{◌≡◌, ℕ, zero, suc, ◌<◌, Bool, true, false, List, [], ◌∷◌, ◌++◌, length, Option, Some, None, inr, refl, sym, ap, ◌∙◌, arith}
use Rattle.std.proofs.lemmas.Bool.{true≢false}
use Rattle.std.proofs.lemmas.Option.{slice_get-map}
use Rattle.std.specs.Option.{option_map}
use Rattle.typed_tree.specs.declared.typed_expr.LibCall.{LibCall}
use Rattle.mid_code.specs.Code.{Step, Steps, Function, Program, append}
use Rattle.mid_code.specs.Code.Steps.{stop, step as more}
use Rattle.mid_code.specs.Kinds.{Kind, IsNumber, IsPointer, Unknown, Kinds, with_kind, Forgets, Signature, signature_of, IsCalled, IsKind, AreKinds}
use Rattle.mid_code.specs.Formed.{IsCallOf, IsInRange, AreInRange, sites_in, all_sites}

-- ---- Kinds

abbrev pub numbers : Kinds
numbers v = IsNumber

number_again : (i : ℕ) → numbers ≡ with_kind i IsNumber numbers
number_again i = fun_ext (λ j. of (j == i))
  where
    of : (b : Bool) → IsNumber ≡ (if b then IsNumber else IsNumber)
    of true = refl
    of false = refl

no_less : Forgets numbers numbers
no_less v = inr refl

abbrev is_known : Kind → Bool
is_known IsNumber = true
is_known IsPointer = true
is_known Unknown = false

pub known : IsNumber ≡ Unknown → ⊥
known e = true≢false (ap is_known e)

-- so many numbers are passed
numbers_passed : (args : List ℕ) → map numbers args ≡ replicate (length args) IsNumber
numbers_passed [] = refl
numbers_passed (a ∷ rest) = ap (λ z. IsNumber ∷ z) (numbers_passed rest)

-- the constructs around a step: at the exit from each all values are numbers
abbrev around : ℕ → List Kinds
around d = replicate d numbers

exit_found : (d n : ℕ) → n < d → slice_get (around d) n ≡ Some numbers
exit_found zero n lt = absurd (omega arith)
exit_found (suc d) zero lt = refl
exit_found (suc d) (suc n) lt = exit_found d n (omega (arith, lt))

-- all parameters and the result are numbers
abbrev pub signature : Function → Signature
signature f = record { params = replicate f.params IsNumber; result = IsNumber }

-- ---- Steps

-- a call of a function of the library on numbers
pub record IsOfNumbers (which : LibCall) (args : List ℕ) (a b : Option ℕ) : Type 0 where
  pub params : replicate (length args) IsNumber ≡ (signature_of which).params
  pub result : (signature_of which).result ≡ IsNumber
  pub first : a ≡ None
  pub second : b ≡ None

-- Steps in range that work on numbers alone, inside so many Blocks and Loops.
module _ (p : Program) (f : Function) where
  abbrev mutual
    pub Reckons : (levels : ℕ) → Step → Type 0
    Reckons d (Step.Number to n) = IsInRange p f d (Step.Number to n)
    Reckons d (Step.Same to from) = IsInRange p f d (Step.Same to from)
    Reckons d (Step.Arith to o a b) = IsInRange p f d (Step.Arith to o a b)
    Reckons d (Step.Divide to o a b line) = IsInRange p f d (Step.Divide to o a b line)
    Reckons d (Step.Call to k args) = IsInRange p f d (Step.Call to k args)
    Reckons d (Step.Library to which args line a b) = IsInRange p f d (Step.Library to which args line a b) × IsOfNumbers which args a b
    Reckons d (Step.If cond xs ys) = (cond < f.values) × AllReckon d xs × AllReckon d ys
    Reckons d (Step.Block body) = AllReckon (suc d) body
    Reckons d (Step.Loop body) = AllReckon (suc d) body
    Reckons d (Step.Exit n) = IsInRange p f d (Step.Exit n)
    Reckons d (Step.Return from) = IsInRange p f d (Step.Return from)
    Reckons d (Step.LineMark line) = IsInRange p f d (Step.LineMark line)
    Reckons d (Step.NullPtr to) = ⊥
    Reckons d (Step.Named to o) = ⊥
    Reckons d (Step.Move site to from by scale down line) = ⊥
    Reckons d (Step.MoveBy site to from z line) = ⊥
    Reckons d (Step.Load to at w line) = ⊥
    Reckons d (Step.Store at from w) = ⊥
    Reckons d (Step.Clear o) = ⊥
    Reckons d (Step.Init o offset from w) = ⊥
    Reckons d (Step.CopyBytes a b from to n line) = ⊥
    Reckons d (Step.PtrSame to a b) = ⊥
    Reckons d (Step.PtrOrder to o a b) = ⊥
    Reckons d (Step.PtrDiff to a b size) = ⊥

    pub AllReckon : (levels : ℕ) → Steps → Type 0
    AllReckon d stop = Unit {0}
    AllReckon d (more x xs) = Reckons d x × AllReckon d xs

  pub reckon_append : (d : ℕ) (xs ys : Steps) → AllReckon d xs → AllReckon d ys → AllReckon d (append xs ys)
  reckon_append d stop ys hx hy = hy
  reckon_append d (more x xs) ys hx hy = (hx.0, reckon_append d xs ys hx.1 hy)

  mutual
    in_range : (d : ℕ) (x : Step) → Reckons d x → IsInRange p f d x
    in_range d (Step.Number to n) h = h
    in_range d (Step.Same to from) h = h
    in_range d (Step.Arith to o a b) h = h
    in_range d (Step.Divide to o a b line) h = h
    in_range d (Step.Call to k args) h = h
    in_range d (Step.Library to which args line a b) h = h.0
    in_range d (Step.If cond xs ys) h = (h.0, all_in_range d xs h.1, all_in_range d ys h.2)
    in_range d (Step.Block body) h = all_in_range (suc d) body h
    in_range d (Step.Loop body) h = all_in_range (suc d) body h
    in_range d (Step.Exit n) h = h
    in_range d (Step.Return from) h = h
    in_range d (Step.LineMark line) h = h
    in_range d (Step.NullPtr to) h = absurd h
    in_range d (Step.Named to o) h = absurd h
    in_range d (Step.Move site to from by scale down line) h = absurd h
    in_range d (Step.MoveBy site to from z line) h = absurd h
    in_range d (Step.Load to at w line) h = absurd h
    in_range d (Step.Store at from w) h = absurd h
    in_range d (Step.Clear o) h = absurd h
    in_range d (Step.Init o offset from w) h = absurd h
    in_range d (Step.CopyBytes a b from to n line) h = absurd h
    in_range d (Step.PtrSame to a b) h = absurd h
    in_range d (Step.PtrOrder to o a b) h = absurd h
    in_range d (Step.PtrDiff to a b size) h = absurd h

    pub all_in_range : (d : ℕ) (xs : Steps) → AllReckon d xs → AreInRange p f d xs
    all_in_range d stop h = tt
    all_in_range d (more x xs) h = (in_range d x h.0, all_in_range d xs h.1)

  mutual
    no_sites : (d : ℕ) (x : Step) → Reckons d x → sites_in x ≡ []
    no_sites d (Step.Library to which args line a b) h = ap (λ z. sites_in (Step.Library to which args line z b)) h.1.first ∙ ap (λ z. sites_in (Step.Library to which args line None z)) h.1.second
    no_sites d (Step.If cond xs ys) h = ap (λ z. z ++ all_sites ys) (no_sites_in d xs h.1) ∙ no_sites_in d ys h.2
    no_sites d (Step.Block body) h = no_sites_in (suc d) body h
    no_sites d (Step.Loop body) h = no_sites_in (suc d) body h
    no_sites d (Step.Move site to from by scale down line) h = absurd h
    no_sites d (Step.MoveBy site to from z line) h = absurd h
    no_sites d (Step.CopyBytes a b from to n line) h = absurd h
    no_sites d x h = refl

    pub no_sites_in : (d : ℕ) (xs : Steps) → AllReckon d xs → all_sites xs ≡ []
    no_sites_in d stop h = refl
    no_sites_in d (more x xs) h = ap (λ z. z ++ all_sites xs) (no_sites d x h.0) ∙ no_sites_in d xs h.1

  abbrev signatures : List Signature
  signatures = map signature p.functions

  call_is : (k : ℕ) (args : List ℕ) → IsCallOf p k args → IsCalled signatures numbers k args IsNumber
  call_is k args h = (
    signature h.0,
    slice_get-map signature p.functions k ∙ ap (option_map signature) h.1,
    numbers_passed args ∙ ap (λ n. replicate n IsNumber) h.2,
    refl,
  )

  mutual
    kind : (d : ℕ) (x : Step) → Reckons d x → IsKind signatures IsNumber x numbers numbers (around d)
    kind d (Step.Number to n) h = number_again to
    kind d (Step.Same to from) h = number_again to
    kind d (Step.Arith to o a b) h = (refl, refl, number_again to)
    kind d (Step.Divide to o a b line) h = (refl, refl, number_again to)
    kind d (Step.Call to k args) h = (IsNumber, call_is k args h.1, number_again to)
    kind d (Step.Library to which args line a b) h =
        (numbers_passed args ∙ h.1.params, number_again to ∙ ap (λ r. with_kind to r numbers) (sym h.1.result))
    kind d (Step.If cond xs ys) h = (known, all_kinds d xs h.1, all_kinds d ys h.2)
    kind d (Step.Block body) h = all_kinds (suc d) body h
    kind d (Step.Loop body) h = (numbers, no_less, all_kinds (suc d) body h)
    kind d (Step.Exit zero) h = absurd (omega (arith, h.0))
    kind d (Step.Exit (suc n)) h = (numbers, exit_found d n (omega (arith, h.1)), no_less)
    kind d (Step.Return from) h = refl
    kind d (Step.LineMark line) h = refl
    kind d (Step.NullPtr to) h = absurd h
    kind d (Step.Named to o) h = absurd h
    kind d (Step.Move site to from by scale down line) h = absurd h
    kind d (Step.MoveBy site to from z line) h = absurd h
    kind d (Step.Load to at w line) h = absurd h
    kind d (Step.Store at from w) h = absurd h
    kind d (Step.Clear o) h = absurd h
    kind d (Step.Init o offset from w) h = absurd h
    kind d (Step.CopyBytes a b from to n line) h = absurd h
    kind d (Step.PtrSame to a b) h = absurd h
    kind d (Step.PtrOrder to o a b) h = absurd h
    kind d (Step.PtrDiff to a b size) h = absurd h

    pub all_kinds : (d : ℕ) (xs : Steps) → AllReckon d xs → AreKinds signatures IsNumber xs numbers numbers (around d)
    all_kinds d stop h = no_less
    all_kinds d (more x xs) h = (numbers, kind d x h.0, all_kinds d xs h.1)
