-- What is asked of functions: the same type as before, `main`, and definitions of all that is called.
use Rattle.std.proofs.Common.{◌≡◌, ℕ, zero, suc, Bool, true, false, not, ◌&&◌, List, [], ◌∷◌, refl, sym, ap, subst}
use Rattle.std.specs.Prelude.{Option, Some, None, Ok, slice_get, if◌then◌else◌}
use Rattle.typed_tree.specs.Types.{CType, same}
use Rattle.typing_operators.specs.Rule.{Rule}
use Rattle.typing_expressions.specs.Scene.{CEntry, CDeclared}
use Rattle.typing_expressions.specs.Parts.{CParam}
use Rattle.typing_unit_keeps.specs.Units.{is_main, same_types, agrees, is_again, has_none, breaks_main, named_unless, undefined}
use Rattle.typing_accepted.proofs.Steps.{and_not, some_is, and_left, and_right, both_true, not_of}
use Rattle.typing_accepted.proofs.Operands.{same_is, same_of}

-- the type that a function was declared with before

pub types_of : (ts us : List CType) → ts ≡ us → same_types ts us ≡ true
types_of ts us is = rw is (itself us)
  where
    itself : (us : List CType) → same_types us us ≡ true
    itself [] = refl
    itself (u ∷ us) = both_true (same u u) (same_types us us) (same_of u u refl) (itself us)

pub types_are : (ts us : List CType) → same_types ts us ≡ true → ts ≡ us
types_are [] [] is = refl
types_are [] (u ∷ us) is = absurd cc
types_are (t ∷ ts) [] is = absurd cc
types_are (t ∷ ts) (u ∷ us) is =
    let first : t ≡ u = same_is t u (and_left _ _ is) in
    let rest : ts ≡ us = types_are ts us (and_right (same t u) _ is) in cc

-- the function that is found has this type
abbrev pub Agrees : List CDeclared → Option CEntry → CType → List CType → Type 0
Agrees fs o t params = (k : ℕ) (g : CDeclared) → o ≡ Some (CEntry.Function k) → slice_get fs k ≡ Some g → (g.result ≡ t) × (g.params ≡ params)

pub again_to : (fs : List CDeclared) (o : Option CEntry) (t : CType) (params : List CType) → Agrees fs o t params → is_again fs o (Ok t) params ≡ true
again_to fs None t params is = refl
again_to fs (Some (CEntry.Object n u)) t params is = refl
again_to fs (Some (CEntry.Function k)) t params is = by (slice_get fs k) refl
  where
    by : (o : Option CDeclared) → slice_get fs k ≡ o → is_again fs (Some (CEntry.Function k)) (Ok t) params ≡ true
    by None found = rw found refl
    by (Some g) found = let h = is k g refl found in rw found (both_true _ _ (same_of _ _ h.0) (types_of _ _ h.1))

agreed : (fs : List CDeclared) (k : ℕ) (g : CDeclared) (t : CType) (params : List CType) → slice_get fs k ≡ Some g → is_again fs (Some (CEntry.Function k)) (Ok t) params ≡ true → agrees g (Ok t) params ≡ true
agreed fs k g t params found is = rw found at is

same_place : (j k : ℕ) → Some (CEntry.Function j) ≡ Some (CEntry.Function k) → j ≡ k
same_place j k is = cc

pub again_is : (fs : List CDeclared) (o : Option CEntry) (t : CType) (params : List CType) → is_again fs o (Ok t) params ≡ true → Agrees fs o t params
again_is fs None t params is = λ k g o_is found. absurd cc
again_is fs (Some (CEntry.Object n u)) t params is = λ k g o_is found. absurd cc
again_is fs (Some (CEntry.Function j)) t params is = λ k g o_is found.
    let at : slice_get fs j ≡ Some g = subst (λ i. slice_get fs i ≡ Some g) (sym (same_place j k o_is)) found in
    let h = agreed fs j g t params at is in
    (same_is g.result t (and_left (same g.result t) (same_types g.params params) h), types_are g.params params (and_right (same g.result t) (same_types g.params params) h))

-- `main`

pub main_to : (x : List ℕ) (t : CType) (params : List CParam) → (is_main x ≡ true → (t ≡ CType.Int) × (params ≡ [])) → breaks_main x (Ok t) params ≡ false
main_to x t params is = by (is_main x) is
  where
    by : (b : Bool) → (b ≡ true → (t ≡ CType.Int) × (params ≡ [])) → b && not (same t CType.Int && has_none params) ≡ false
    by false is = refl
    by true is = let h = is refl in not_of _ (both_true _ _ (same_of t CType.Int h.0) (ap has_none h.1))

pub main_is : (x : List ℕ) (t : CType) (params : List CParam) → breaks_main x (Ok t) params ≡ false → is_main x ≡ true → (t ≡ CType.Int) × (params ≡ [])
main_is x t params is main =
    let h : same t CType.Int && has_none params ≡ true = and_not (is_main x) _ main is in
    (same_is t CType.Int (and_left _ _ h), none params (and_right (same t CType.Int) _ h))
  where
    none : (ps : List CParam) → has_none ps ≡ true → ps ≡ []
    none [] h = refl
    none (p ∷ ps) h = absurd cc

-- names of parameters

pub named_to : (defines : Bool) (o : Option ℕ) (result : Rule CType) (t : CType) → result ≡ Ok t → (defines ≡ true → o ≡ None) → named_unless defines o result ≡ Ok t
named_to false o result t is named = is
named_to true None result t is named = is
named_to true (Some line) result t is named = let no : Some line ≡ None = named refl in absurd cc

pub named_is : (defines : Bool) (o : Option ℕ) (result : Rule CType) (t : CType) → named_unless defines o result ≡ Ok t → (result ≡ Ok t) × (defines ≡ true → o ≡ None)
named_is false o result t is = (is, λ h. absurd cc)
named_is true None result t is = (is, λ h. refl)
named_is true (Some line) result t is = absurd cc

-- calls

abbrev pub AllDefined : List CDeclared → List Bool → Type 0
AllDefined fs cs = (k : ℕ) (g : CDeclared) → slice_get fs k ≡ Some g → slice_get cs k ≡ Some true → g.is_defined ≡ true

pub defined_to : (fs : List CDeclared) (cs : List Bool) → AllDefined fs cs → undefined fs cs ≡ None
defined_to [] cs are = refl
defined_to (f ∷ fs) [] are = refl
defined_to (f ∷ fs) (c ∷ cs) are = by c f.is_defined (are 0 f refl) (defined_to fs cs (λ k g found called. are (suc k) g found called))
  where
    by : (c d : Bool) → (Some c ≡ Some true → d ≡ true) → undefined fs cs ≡ None → (if c && not d then Some f else undefined fs cs) ≡ None
    by false d first rest = rest
    by true true first rest = rest
    by true false first rest = let no : false ≡ true = first refl in absurd cc

parts : (f : CDeclared) (rest : Option CDeclared) (c d : Bool) → (if c && not d then Some f else rest) ≡ None → (c ≡ true → d ≡ true) × (rest ≡ None)
parts f rest false d h = (λ i. absurd cc, h)
parts f rest true true h = (λ i. refl, h)
parts f rest true false h = absurd cc

pub defined_is : (fs : List CDeclared) (cs : List Bool) → undefined fs cs ≡ None → (k : ℕ) (g : CDeclared) → slice_get fs k ≡ Some g → slice_get cs k ≡ Some true → g.is_defined ≡ true
defined_is [] cs is k g found called = absurd cc
defined_is (f ∷ fs) [] is k g found called = absurd cc
defined_is (f ∷ fs) (c ∷ cs) is zero g found called =
    let same : f ≡ g = some_is f g found in
    let yes : c ≡ true = some_is c true called in
    subst (λ h. h.is_defined ≡ true) same ((parts f (undefined fs cs) c f.is_defined is).0 yes)
defined_is (f ∷ fs) (c ∷ cs) is (suc k) g found called = defined_is fs cs (parts f (undefined fs cs) c f.is_defined is).1 k g found called
