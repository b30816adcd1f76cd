-- Values of a kind, and runs that never come to a value of the wrong one.
use Rattle.std.proofs.Common.{◌≡◌, Bool, true, false, List, Option, Some, None, refl, sym, ap, ◌∙◌}
use Rattle.std.proofs.lemmas.Bool.{true≢false}
use Rattle.bb_words.specs.Answers.{Goes, Ends, and_then, either}
use Rattle.typed_tree.specs.Types.{CType, is_number, is_pointer, IsNumber, IsPointer}
use Rattle.typed_tree.specs.TypedTree.{CLocal}
use Rattle.source_meaning.specs.declared.values.Value.{Value}
use Rattle.source_meaning.specs.declared.values.Ending.{Ending}
use Rattle.source_meaning.specs.Worlds.{World, Does}
use Rattle.source_meaning.specs.States.{State, Runs, done_in, doing}
use Rattle.meaning_kinds.specs.Kinds.{IsNum, IsPtr, HasKind, Sound, NotKind, IsAnswer, KeepsKinds}

-- nothing is something
pub not_there : {A : Type 0} {a : A} → None ≡ Some a → ⊥
not_there e = true≢false (ap test e)
  where
    test : {A : Type 0} → Option A → Bool
    test None = true
    test (Some a) = false

-- ---- Kinds of values

pub number_no_pointer : (t : CType) → IsNumber t → is_pointer t ≡ false
number_no_pointer CType.Char h = refl
number_no_pointer CType.Int h = refl
number_no_pointer CType.Unsigned h = refl
number_no_pointer CType.Void h = refl
number_no_pointer (CType.Struct k) h = refl
number_no_pointer (CType.Pointer t) h = absurd (true≢false (sym h))
number_no_pointer (CType.Array t n) h = refl

pub number_xor_pointer : {X : Type 0} (t : CType) → IsNumber t → IsPointer t → X
number_xor_pointer t n p = absurd (true≢false (sym p ∙ number_no_pointer t n))

pub as_number : (t : CType) (v : Value) → IsNumber t → IsNum v → HasKind t v
as_number t v is h = record { number = λ n. h; pointer = λ p. number_xor_pointer t is p }

pub as_pointer : (t : CType) (v : Value) → IsPointer t → IsPtr v → HasKind t v
as_pointer t v is h = record { number = λ n. number_xor_pointer t n is; pointer = λ p. h }

pub as_other : (t : CType) (v : Value) → is_number t ≡ false → is_pointer t ≡ false → HasKind t v
as_other t v n p = record { number = λ h. absurd (true≢false (sym h ∙ n)); pointer = λ h. absurd (true≢false (sym h ∙ p)) }

pub as_void : (t : CType) (v : Value) → t ≡ CType.Void → HasKind t v
as_void t v e = as_other t v (ap is_number e) (ap is_pointer e)

-- nothing is asked of a value
abbrev pub Anything : {A : Type 0} → A → Type 0
Anything a = Unit {0}

-- ---- Operations on the world

abbrev pub InDoes : {A : Type 0} → (A → Type 0) → Does A → Type 0
InDoes P (Goes a w) = P a
InDoes P (Ends e w) = NotKind e

-- an operation that goes on with a value of which P holds, or does not end for a wrong kind
pub record Gives {A : Type 0} (P : A → Type 0) (r : Does A) : Type 0 where
  pub is : InDoes P r

pub gives_value : {A : Type 0} {P : A → Type 0} (a : A) (w : World) → P a → Gives P (Goes a w)
gives_value a w h = record { is = h }

pub gives_end : {A : Type 0} {P : A → Type 0} (e : Ending) (w : World) → NotKind e → Gives P (Ends e w)
gives_end e w h = record { is = h }

pub gives_then : {A B : Type 0} {P : A → Type 0} {Q : B → Type 0} {r : Does A} {f : A → World → Does B} → Gives P r → ((a : A) (w : World) → P a → Gives Q (f a w)) → Gives Q (and_then r f)
unfolding and_then
gives_then {A = A} {B = B} {P = P} {Q = Q} {r = r} {f = f} x k = of r x.is
  where
    of : (r : Does A) → InDoes P r → Gives Q (and_then r f)
    of (Goes a w) h = k a w h
    of (Ends e w) h = record { is = h }

pub gives_weaker : {A : Type 0} {P Q : A → Type 0} {r : Does A} → ((a : A) → P a → Q a) → Gives P r → Gives Q r
gives_weaker {A = A} {P = P} {Q = Q} {r = r} k x = record { is = of r x.is }
  where
    of : (r : Does A) → InDoes P r → InDoes Q r
    of (Goes a w) h = k a h
    of (Ends e w) h = h

pub gives_if : {A : Type 0} {P : A → Type 0} (b : Bool) (f h : World → Does A) (w : World) → (b ≡ true → Gives P (f w)) → (b ≡ false → Gives P (h w)) → Gives P (either b f h w)
gives_if true f h w x y = x refl
gives_if false f h w x y = y refl

pub gives_first : {A : Type 0} {P : A → Type 0} (b : Bool) (f h : World → Does A) (w : World) → b ≡ true → Gives P (f w) → Gives P (either b f h w)
gives_first b f h w e x = gives_if b f h w (λ t. x) (λ n. absurd (true≢false (sym e ∙ n)))

pub gives_second : {A : Type 0} {P : A → Type 0} (b : Bool) (f h : World → Does A) (w : World) → b ≡ false → Gives P (h w) → Gives P (either b f h w)
gives_second b f h w e x = gives_if b f h w (λ t. absurd (true≢false (sym t ∙ e))) (λ n. x)

-- ---- States and runs

pub keeps_value : {A : Type 0} {ls : List CLocal} {P : A → Type 0} (a : A) (c : State) → P a → Sound ls c → KeepsKinds ls P (Goes a c)
keeps_value a c h s = record { is = (h, s) }

pub keeps_end : {A : Type 0} {ls : List CLocal} {P : A → Type 0} (e : Ending) (c : State) → NotKind e → KeepsKinds ls P (Ends e c)
keeps_end e c h = record { is = h }

pub keeps_then : {A B : Type 0} {ls ms : List CLocal} {P : A → Type 0} {Q : B → Type 0} {r : Runs A} {f : A → State → Runs B} → KeepsKinds ls P r → ((a : A) (c : State) → P a → Sound ls c → KeepsKinds ms Q (f a c)) → KeepsKinds ms Q (and_then r f)
unfolding and_then
keeps_then {A = A} {B = B} {ls = ls} {ms = ms} {P = P} {Q = Q} {r = r} {f = f} x k = of r x.is
  where
    of : (r : Runs A) → IsAnswer ls P r → KeepsKinds ms Q (and_then r f)
    of (Goes a c) h = k a c h.0 h.1
    of (Ends e c) h = record { is = h }

pub keeps_weaker : {A : Type 0} {ls : List CLocal} {P Q : A → Type 0} {r : Runs A} → ((a : A) → P a → Q a) → KeepsKinds ls P r → KeepsKinds ls Q r
keeps_weaker {A = A} {ls = ls} {P = P} {Q = Q} {r = r} k x = record { is = of r x.is }
  where
    of : (r : Runs A) → IsAnswer ls P r → IsAnswer ls Q r
    of (Goes a c) h = (k a h.0, h.1)
    of (Ends e c) h = h

pub keeps_if : {A : Type 0} {ls : List CLocal} {P : A → Type 0} (b : Bool) (f h : State → Runs A) (c : State) → (b ≡ true → KeepsKinds ls P (f c)) → (b ≡ false → KeepsKinds ls P (h c)) → KeepsKinds ls P (either b f h c)
keeps_if true f h c x y = x refl
keeps_if false f h c x y = y refl

pub keeps_first : {A : Type 0} {ls : List CLocal} {P : A → Type 0} (b : Bool) (f h : State → Runs A) (c : State) → b ≡ true → KeepsKinds ls P (f c) → KeepsKinds ls P (either b f h c)
keeps_first b f h c e x = keeps_if b f h c (λ t. x) (λ n. absurd (true≢false (sym e ∙ n)))

pub keeps_second : {A : Type 0} {ls : List CLocal} {P : A → Type 0} (b : Bool) (f h : State → Runs A) (c : State) → b ≡ false → KeepsKinds ls P (h c) → KeepsKinds ls P (either b f h c)
keeps_second b f h c e x = keeps_if b f h c (λ t. absurd (true≢false (sym t ∙ e))) (λ n. x)

-- an operation on the world leaves the locals as they are
pub keeps_doing : {A : Type 0} {ls : List CLocal} {P : A → Type 0} (f : World → Does A) (c : State) → Sound ls c → ((w : World) → Gives P (f w)) → KeepsKinds ls P (doing f c)
keeps_doing {A = A} {ls = ls} {P = P} f c s x = record { is = of (f c.world) (x c.world).is }
  where
    of : (r : Does A) → InDoes P r → IsAnswer ls P (done_in c r)
    of (Goes a w) h = (h, record { slots = s.slots })
    of (Ends e w) h = h
