-- The types that declarators make: what `formed` gives is what their steps make.
use Rattle.std.proofs.Common.{◌≡◌, ℕ, ◌*◌, Bool, true, false, not, ◌&&◌, List, [], ◌∷◌, ◌++◌, refl, sym, ap, ◌∙◌, subst}
use Rattle.std.specs.Prelude.{Some, None, Ok, nat_lt, reverse}
use Rattle.std.proofs.lemmas.Grind.{reverse_onto}
use Rattle.typed_tree.specs.Types.{CType}
use Rattle.typed_tree.specs.TypedTree.{CStruct}
use Rattle.typed_tree.specs.Sizes.{size_of, largest, is_complete, IsComplete}
use Rattle.typing_operators.specs.declared.error.TypeError.TheVariants.{BadType}
use Rattle.typing_expressions.specs.Parts.{CPart, is_array_part, begins_with_array, is_incomplete, has_function, lacks_size, array_of, made, formed}
use Rattle.typing_declarations.specs.Declarators.{has_many_params, object_type}
use Rattle.typing_accepted.specs.AcceptanceDeclarators.{MakesObject}
use Rattle.typing_accepted.specs.AcceptanceOperands.{Makes}
use Rattle.typing_accepted.proofs.Steps.{and_not, passes, passed, bound, onward, same_ok, not_less, no_less, no_left, no_right, not_of}

reversed : (p : CPart) (ps : List CPart) → reverse (p ∷ ps) ≡ reverse ps ++ p ∷ []
reversed p ps = reverse_onto ps p []

-- whether the first step is an array; where there is none, as is said
abbrev first_is_array : Bool → List CPart → Bool
first_is_array none [] = none
first_is_array none (p ∷ ps) = is_array_part p

first_before : (none : Bool) (ps : List CPart) (p : CPart) → first_is_array none (ps ++ p ∷ []) ≡ first_is_array (is_array_part p) ps
first_before none [] p = refl
first_before none (q ∷ ps) p = refl

from_specifier : (none : Bool) (ps : List CPart) → begins_with_array none ps ≡ first_is_array none (reverse ps)
from_specifier none [] = refl
from_specifier none (p ∷ ps) = from_specifier (is_array_part p) ps ∙ sym (ap (first_is_array none) (reversed p ps) ∙ first_before none (reverse ps) p)

-- steps that make the type of an object
abbrev IsSized : CPart → Type 0
IsSized CPart.Pointer = Unit {0}
IsSized (CPart.Array None) = ⊥
IsSized (CPart.Array (Some n)) = Unit {0}
IsSized CPart.Unsized = ⊥
IsSized (CPart.Function params) = ⊥

abbrev AreSized : List CPart → Type 0
AreSized [] = Unit {0}
AreSized (p ∷ ps) = IsSized p × AreSized ps

sized_front : (ps : List CPart) (p : CPart) → AreSized (ps ++ p ∷ []) → IsSized p × AreSized ps
sized_front [] p sized = (sized.0, tt)
sized_front (q ∷ ps) p sized = let rest = sized_front ps p sized.1 in (rest.0, (sized.0, rest.1))

sized_back : (ps : List CPart) → AreSized (reverse ps) → AreSized ps
sized_back [] sized = tt
sized_back (p ∷ ps) sized =
    let h = sized_front (reverse ps) p (subst AreSized (reversed p ps) sized) in
    (h.0, sized_back ps h.1)

no_function : (ps : List CPart) → AreSized ps → has_function ps ≡ false
no_function [] sized = refl
no_function (CPart.Pointer ∷ ps) sized = no_function ps sized.1
no_function (CPart.Array None ∷ ps) sized = absurd sized.0
no_function (CPart.Array (Some n) ∷ ps) sized = no_function ps sized.1
no_function (CPart.Unsized ∷ ps) sized = absurd sized.0
no_function (CPart.Function params ∷ ps) sized = absurd sized.0

has_sizes : (ps : List CPart) → AreSized ps → lacks_size ps ≡ false
has_sizes [] sized = refl
has_sizes (CPart.Pointer ∷ ps) sized = has_sizes ps sized.1
has_sizes (CPart.Array None ∷ ps) sized = absurd sized.0
has_sizes (CPart.Array (Some n) ∷ ps) sized = has_sizes ps sized.1
has_sizes (CPart.Unsized ∷ ps) sized = absurd sized.0
has_sizes (CPart.Function params ∷ ps) sized = absurd sized.0

no_params : (ps : List CPart) → AreSized ps → has_many_params ps ≡ false
no_params [] sized = refl
no_params (CPart.Pointer ∷ ps) sized = no_params ps sized.1
no_params (CPart.Array None ∷ ps) sized = absurd sized.0
no_params (CPart.Array (Some n) ∷ ps) sized = no_params ps sized.1
no_params (CPart.Unsized ∷ ps) sized = absurd sized.0
no_params (CPart.Function params ∷ ps) sized = absurd sized.0

module _ (structs : List CStruct) where
  makes_sized : (t u : CType) (ps : List CPart) → Makes structs t ps u → AreSized ps
  makes_sized t u ps Makes.done = tt
  makes_sized t u ps (Makes.pointer m) = (tt, makes_sized _ _ _ m)
  makes_sized t u ps (Makes.array complete small m) = (tt, makes_sized _ _ _ m)

  array_to : (line : ℕ) (t : CType) (n : ℕ) → nat_lt largest (size_of structs t * n) ≡ false → array_of structs line t n ≡ Ok (CType.Array t n)
  unfolding array_of
  array_to line t n small = passed _ _ _ _ small refl

  made_to : (line : ℕ) (t u : CType) (ps : List CPart) → Makes structs t ps u → made structs line t ps ≡ Ok u
  made_to line t u ps Makes.done = refl
  made_to line t u ps (Makes.pointer m) = made_to line _ _ _ m
  made_to line t u ps (Makes.array complete small m) = onward _ _ _ _ (array_to line t _ (no_less _ _ small)) (made_to line _ _ _ m)

  first_complete : (t u : CType) (ps : List CPart) → Makes structs t ps u → first_is_array false ps ≡ true → is_complete structs t ≡ true
  first_complete t u ps Makes.done first = absurd cc
  first_complete t u ps (Makes.pointer m) first = absurd cc
  first_complete t u ps (Makes.array complete small m) first = complete

  object_complete : (t u : CType) (ps : List CPart) → Makes structs t ps u → IsComplete structs u → first_is_array true ps ≡ true → is_complete structs t ≡ true
  object_complete t u ps Makes.done is first = is
  object_complete t u ps (Makes.pointer m) is first = absurd cc
  object_complete t u ps (Makes.array complete small m) is first = complete

  -- what makes a whole type: the steps, and an object has a complete type (6.7 p7)
  pub record MakesWhole (is_object : Bool) (base : CType) (ps : List CPart) (t : CType) : Type 0 where
    pub made : Makes structs base ps t
    pub complete : is_object ≡ true → IsComplete structs t

  enough : (is_object : Bool) (base t : CType) (ps : List CPart) → MakesWhole is_object base ps t → first_is_array is_object ps ≡ true → is_complete structs base ≡ true
  enough true base t ps is first = object_complete base t ps is.made (is.complete refl) first
  enough false base t ps is first = first_complete base t ps is.made first

  -- what the rules test of the steps, and what they make
  pub record PassTests (line : ℕ) (is_object : Bool) (base : CType) (ps : List CPart) (t : CType) : Type 0 where
    pub complete : is_incomplete structs is_object base ps ≡ false
    pub no_function : has_function ps ≡ false
    pub sized : lacks_size ps ≡ false
    pub few : has_many_params ps ≡ false
    pub made : made structs line base (reverse ps) ≡ Ok t

  pub tests_of : (line : ℕ) (is_object : Bool) (base t : CType) (ps : List CPart) → MakesWhole is_object base (reverse ps) t → PassTests line is_object base ps t
  tests_of line is_object base t ps is =
      let are = sized_back ps (makes_sized base t (reverse ps) is.made) in
      record {
        complete = by (begins_with_array is_object ps) refl;
        no_function = no_function ps are;
        sized = has_sizes ps are;
        few = no_params ps are;
        made = made_to line base t (reverse ps) is.made;
      }
    where
      by : (b : Bool) → begins_with_array is_object ps ≡ b → begins_with_array is_object ps && not (is_complete structs base) ≡ false
      by false none = no_left (begins_with_array is_object ps) _ none
      by true some =
          let complete = enough is_object base t (reverse ps) is (sym (from_specifier is_object ps) ∙ some) in
          no_right (begins_with_array is_object ps) _ (not_of _ complete)

  pub formed_to : (line : ℕ) (is_object : Bool) (base t : CType) (ps : List CPart) → MakesWhole is_object base (reverse ps) t → formed structs line is_object base ps ≡ Ok t
  unfolding formed
  formed_to line is_object base t ps is =
      let tests = tests_of line is_object base t ps is in
      passed _ _ _ _ tests.complete (passed _ _ _ _ tests.no_function (passed _ _ _ _ tests.sized tests.made))

  array_from : (line : ℕ) (t u : CType) (n : ℕ) → array_of structs line t n ≡ Ok u → (nat_lt largest (size_of structs t * n) ≡ false) × (CType.Array t n ≡ u)
  unfolding array_of
  array_from line t u n is =
      let h = passes _ _ _ u is in
      (h.0, same_ok (CType.Array t n) u h.1)

  made_from : (line : ℕ) (t u : CType) (ps : List CPart) → (first_is_array false ps ≡ true → is_complete structs t ≡ true) → made structs line t ps ≡ Ok u → Makes structs t ps u
  made_from line t u [] first is = subst (λ v. Makes structs t [] v) (same_ok t u is) Makes.done
  made_from line t u (CPart.Pointer ∷ ps) first is = Makes.pointer (made_from line (CType.Pointer t) u ps (λ h. refl) is)
  made_from line t u (CPart.Array None ∷ ps) first is = absurd cc
  made_from line t u (CPart.Array (Some n) ∷ ps) first is =
      let a = bound (array_of structs line t n) _ u is in
      let h = array_from line t a.0 n a.1 in
      let rest : made structs line (CType.Array t n) ps ≡ Ok u = subst (λ v. made structs line v ps ≡ Ok u) (sym h.1) a.2 in
      Makes.array (first refl) (not_less _ _ h.0) (made_from line (CType.Array t n) u ps (λ k. first refl) rest)
  made_from line t u (CPart.Unsized ∷ ps) first is = absurd cc
  made_from line t u (CPart.Function params ∷ ps) first is = absurd cc

  whole_complete : (t u : CType) (ps : List CPart) → (first_is_array true ps ≡ true → is_complete structs t ≡ true) → Makes structs t ps u → is_complete structs u ≡ true
  whole_complete t u ps first Makes.done = first refl
  whole_complete t u ps first (Makes.pointer m) = whole_complete _ _ _ (λ h. refl) m
  whole_complete t u ps first (Makes.array complete small m) = whole_complete _ _ _ (λ h. complete) m

  pub whole_of : (line : ℕ) (is_object : Bool) (base t : CType) (ps : List CPart) → is_incomplete structs is_object base ps ≡ false → made structs line base (reverse ps) ≡ Ok t → MakesWhole is_object base (reverse ps) t
  whole_of line is_object base t ps complete is =
      let first : (first_is_array is_object (reverse ps) ≡ true → is_complete structs base ≡ true) = λ h. and_not (begins_with_array is_object ps) (is_complete structs base) (from_specifier is_object ps ∙ h) complete in
      let makes = made_from line base t (reverse ps) (λ h. first (weaker is_object (reverse ps) h)) is in
      record { made = makes; complete = λ object. whole_complete base t (reverse ps) (λ h. first (subst (λ o. first_is_array o (reverse ps) ≡ true) (sym object) h)) makes }
    where
      weaker : (o : Bool) (qs : List CPart) → first_is_array false qs ≡ true → first_is_array o qs ≡ true
      weaker o [] h = absurd cc
      weaker o (q ∷ qs) h = h

  pub formed_from : (line : ℕ) (is_object : Bool) (base t : CType) (ps : List CPart) → formed structs line is_object base ps ≡ Ok t → MakesWhole is_object base (reverse ps) t
  unfolding formed
  formed_from line is_object base t ps is =
      let a = passes _ _ _ t is in
      let b = passes (has_function ps) (BadType line 2) _ t a.1 in
      let c = passes (lacks_size ps) (BadType line 3) _ t b.1 in
      whole_of line is_object base t ps a.0 c.1

  -- the types of objects

  pub object_whole : (base t : CType) (ps : List CPart) → MakesObject structs base ps t → MakesWhole true base (reverse ps) t
  object_whole base t ps is = record { made = is.made; complete = λ h. is.complete }

  pub object_formed : (line : ℕ) (base t : CType) (ps : List CPart) → MakesObject structs base ps t → formed structs line true base ps ≡ Ok t
  object_formed line base t ps is = formed_to line true base t ps (object_whole base t ps is)

  pub formed_object : (line : ℕ) (base t : CType) (ps : List CPart) → formed structs line true base ps ≡ Ok t → MakesObject structs base ps t
  formed_object line base t ps is = let whole = formed_from line true base t ps is in record { made = whole.made; complete = whole.complete refl }

  pub object_to : (line : ℕ) (base t : CType) (ps : List CPart) → MakesObject structs base ps t → object_type structs line base ps ≡ Ok t
  object_to line base t ps is = passed _ _ _ _ (tests_of line true base t ps (object_whole base t ps is)).few (object_formed line base t ps is)

  pub object_is : (line : ℕ) (base t : CType) (ps : List CPart) → object_type structs line base ps ≡ Ok t → MakesObject structs base ps t
  object_is line base t ps is = formed_object line base t ps (passes (has_many_params ps) _ _ t is).1
