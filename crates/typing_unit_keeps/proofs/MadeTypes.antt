-- The types that the steps of a declarator make.
use Rattle.std.proofs.Common.{◌≡◌, ℕ, ◌*◌, ◌≤◌, Bool, true, false, ◌⊎◌, inl, inr, List, [], ◌∷◌, ◌++◌, refl, sym, ◌∙◌, ap, subst}
use Rattle.std.specs.Prelude.{Some, None, Ok, reverse}
use Rattle.std.proofs.lemmas.Grind.{reverse_onto}
use Rattle.std.proofs.lemmas.Bool.{ltb-false}
use Rattle.typed_tree.specs.Types.{CType, is_array, is_struct, IsScalar}
use Rattle.typed_tree.specs.TypedTree.{CStruct}
use Rattle.typed_tree.specs.Sizes.{largest, size_of, is_complete, IsComplete, IsType}
use Rattle.typed_tree.specs.TypedRules.{IsResult}
use Rattle.typing_operators.specs.declared.error.TypeError.TheVariants.{BadType}
use Rattle.typing_expressions.specs.Parts.{CParam, CPart, is_array_part, begins_with_array, is_incomplete, has_function, lacks_size, array_of, made_by, made, formed}
use Rattle.typing_declarations.specs.Declarators.{adjusted, parameter_type, object_type}
use Rattle.typing_unit_keeps.specs.Units.{gives_aggregate}
use Rattle.typing_unit_keeps.proofs.Steps.{passes, bound, same_ok}
use Rattle.typing_unit_keeps.proofs.Accepted.{and_not}

-- A parameter has a complete type, and is no array.
pub record IsParam (structs : List CStruct) (p : CParam) : Type 0 where
  pub type : IsType structs p.ty
  pub complete : IsComplete structs p.ty
  pub no_array : is_array p.ty ≡ false

abbrev pub AreParams : List CStruct → List CParam → Type 0
AreParams structs [] = Unit {0}
AreParams structs (p ∷ ps) = IsParam structs p × AreParams structs ps

-- a step that has a size of at least 1, and parameters as they may be
abbrev pub IsPart : List CStruct → CPart → Type 0
IsPart structs (CPart.Array (Some n)) = 1 ≤ n
IsPart structs (CPart.Array None) = Unit {0}
IsPart structs CPart.Pointer = Unit {0}
IsPart structs CPart.Unsized = Unit {0}
IsPart structs (CPart.Function params) = AreParams structs params

abbrev pub AreParts : List CStruct → List CPart → Type 0
AreParts structs [] = Unit {0}
AreParts structs (p ∷ ps) = IsPart structs p × AreParts structs ps

pub parts_behind : (structs : List CStruct) (ps qs : List CPart) → AreParts structs ps → AreParts structs qs → AreParts structs (ps ++ qs)
parts_behind structs [] qs first second = second
parts_behind structs (p ∷ ps) qs first second = (first.0, parts_behind structs ps qs first.1 second)

reversed : (p : CPart) (ps : List CPart) → reverse (p ∷ ps) ≡ reverse ps ++ p ∷ []
reversed p ps = reverse_onto ps p []

parts_reversed : (structs : List CStruct) (ps : List CPart) → AreParts structs ps → AreParts structs (reverse ps)
parts_reversed structs [] are = tt
parts_reversed structs (p ∷ ps) are = rw (reversed p ps) (parts_behind structs (reverse ps) (p ∷ []) (parts_reversed structs ps are.1) (are.0, tt))

-- whether the first step is an array; where there is none, as is said
abbrev first_is_array : Bool → List CPart → Bool
first_is_array none [] = none
first_is_array none (p ∷ ps) = is_array_part p

before_last : (none : Bool) (ps : List CPart) (p : CPart) → first_is_array none (ps ++ p ∷ []) ≡ first_is_array (is_array_part p) ps
before_last none [] p = refl
before_last none (q ∷ ps) p = refl

-- the step next to the specifier is the first from there
from_specifier : (none : Bool) (ps : List CPart) → begins_with_array none ps ≡ first_is_array none (reverse ps)
from_specifier none [] = refl
from_specifier none (p ∷ ps) = from_specifier (is_array_part p) ps ∙ sym (ap (first_is_array none) (reversed p ps) ∙ before_last none (reverse ps) p)

module _ (structs : List CStruct) (line : ℕ) where
  abbrev Made : CType → List CPart → CType → Type 0
  Made t ps u = made structs line t ps ≡ Ok u

  array_is : (t : CType) (n : ℕ) (u : CType) → array_of structs line t n ≡ Ok u → (size_of structs t * n ≤ largest) × (CType.Array t n ≡ u)
  unfolding array_of
  array_is t n u h = let passed = passes _ _ _ u h in (ltb-false largest (size_of structs t * n) passed.0, same_ok _ u passed.1)

  -- steps make a type of a type, where the first array has complete elements
  made_type : (t : CType) (ps : List CPart) (u : CType) → IsType structs t → (first_is_array false ps ≡ true → IsComplete structs t) → AreParts structs ps → Made t ps u → IsType structs u
  made_type t [] u base_is complete are h = subst (IsType structs) (same_ok t u h) base_is
  made_type t (CPart.Pointer ∷ ps) u base_is complete are h = made_type (CType.Pointer t) ps u base_is (λ first. refl) are.1 h
  made_type t (CPart.Array None ∷ ps) u base_is complete are h = absurd cc
  made_type t (CPart.Array (Some n) ∷ ps) u base_is complete are h =
      let b = bound (array_of structs line t n) _ u h in
      let array = array_is t n b.0 b.1 in
      made_type b.0 ps u (subst (IsType structs) array.1 (base_is, complete refl, are.0, array.0)) (λ first. subst (IsComplete structs) array.1 (complete refl)) are.1 b.2
  made_type t (CPart.Unsized ∷ ps) u base_is complete are h = absurd cc
  made_type t (CPart.Function params ∷ ps) u base_is complete are h = absurd cc

  -- of a complete type they make a complete one
  made_complete : (t : CType) (ps : List CPart) (u : CType) → IsComplete structs t → Made t ps u → IsComplete structs u
  made_complete t [] u complete h = subst (IsComplete structs) (same_ok t u h) complete
  made_complete t (CPart.Pointer ∷ ps) u complete h = made_complete (CType.Pointer t) ps u refl h
  made_complete t (CPart.Array None ∷ ps) u complete h = absurd cc
  made_complete t (CPart.Array (Some n) ∷ ps) u complete h =
      let b = bound (array_of structs line t n) _ u h in
      made_complete b.0 ps u (subst (IsComplete structs) (array_is t n b.0 b.1).1 complete) b.2
  made_complete t (CPart.Unsized ∷ ps) u complete h = absurd cc
  made_complete t (CPart.Function params ∷ ps) u complete h = absurd cc

  -- of any type, where the first step is a pointer
  made_pointed : (t : CType) (ps : List CPart) (u : CType) → first_is_array true ps ≡ false → Made t ps u → IsComplete structs u
  made_pointed t [] u first h = absurd cc
  made_pointed t (CPart.Pointer ∷ ps) u first h = made_complete (CType.Pointer t) ps u refl h
  made_pointed t (CPart.Array n ∷ ps) u first h = absurd cc
  made_pointed t (CPart.Unsized ∷ ps) u first h = absurd cc
  made_pointed t (CPart.Function params ∷ ps) u first h = absurd cc

  -- the last step makes the type
  made_last : (t : CType) (ps : List CPart) (p : CPart) (u : CType) → Made t (ps ++ p ∷ []) u → (v : CType) × (made_by structs line v p ≡ Ok u)
  made_last t [] p u h =
      let b = bound (made_by structs line t p) _ u h in
      (t, b.1 ∙ b.2)
  made_last t (q ∷ ps) p u h =
      let b = bound (made_by structs line t q) _ u h in
      made_last b.0 ps p u b.2

  -- what a declarator makes of a specifier's type
  pub record IsMade (is_object : Bool) (u : CType) : Type 0 where
    pub type : IsType structs u
    pub complete : is_object ≡ true → IsComplete structs u

  first_of_none : (none : Bool) (ps : List CPart) → first_is_array none ps ≡ false → first_is_array false ps ≡ false
  first_of_none none [] h = refl
  first_of_none none (p ∷ ps) h = h

  pub made_is : (is_object : Bool) (base : CType) (ps : List CPart) (u : CType) → IsType structs base → is_incomplete structs is_object base ps ≡ false → AreParts structs ps
      → made structs line base (reverse ps) ≡ Ok u → IsMade is_object u
  made_is is_object base ps u base_is complete are h = by (and_not (begins_with_array is_object ps) (is_complete structs base) complete)
    where
      qs : List CPart
      qs = reverse ps

      by : ((begins_with_array is_object ps ≡ false) ⊎ (is_complete structs base ≡ true)) → IsMade is_object u
      by (inr whole) = record { type = made_type base qs u base_is (λ first. whole) (parts_reversed structs ps are) h; complete = λ object. made_complete base qs u whole h }
      by (inl no_array) =
          let first : first_is_array is_object qs ≡ false = sym (from_specifier is_object ps) ∙ no_array in
          record {
            type = made_type base qs u base_is (λ h. absurd (apart _ h (first_of_none is_object qs first))) (parts_reversed structs ps are) h;
            complete = λ object. made_pointed base qs u (subst (λ b. first_is_array b qs ≡ false) object first) h;
          }
        where
          apart : (b : Bool) → b ≡ true → b ≡ false → ⊥
          apart b is isnt = cc

  pub formed_is : (is_object : Bool) (base : CType) (ps : List CPart) (u : CType) → IsType structs base → AreParts structs ps → formed structs line is_object base ps ≡ Ok u → IsMade is_object u
  unfolding formed
  formed_is is_object base ps u base_is are h =
      let complete = passes (is_incomplete structs is_object base ps) (BadType line 1) _ u h in
      let no_function = passes (has_function ps) (BadType line 2) _ u complete.1 in
      let sized = passes (lacks_size ps) (BadType line 3) _ u no_function.1 in
      made_is is_object base ps u base_is complete.0 are sized.1

  -- the type of an object or a member
  pub object_type_is : (base : CType) (ps : List CPart) (u : CType) → IsType structs base → AreParts structs ps → object_type structs line base ps ≡ Ok u → IsMade true u
  object_type_is base ps u base_is are h = formed_is true base ps u base_is are (passes _ _ _ u h).1

  -- what is neither an array nor a struct is a result
  is_result : (t : CType) → is_array t ≡ false → is_struct t ≡ false → IsResult t
  is_result CType.Void no_array no_struct = IsResult.nothing refl
  is_result CType.Char no_array no_struct = IsResult.scalar refl
  is_result CType.Int no_array no_struct = IsResult.scalar refl
  is_result CType.Unsigned no_array no_struct = IsResult.scalar refl
  is_result (CType.Struct k) no_array no_struct = absurd cc
  is_result (CType.Pointer t) no_array no_struct = IsResult.scalar refl
  is_result (CType.Array t n) no_array no_struct = absurd cc

  -- where the last step is a pointer, it makes one
  pointer_is : (base : CType) (ps : List CPart) (u : CType) → made structs line base (reverse (CPart.Pointer ∷ ps)) ≡ Ok u → (v : CType) × (CType.Pointer v ≡ u)
  pointer_is base ps u h =
      let last = made_last base (reverse ps) CPart.Pointer u (subst (λ qs. made structs line base qs ≡ Ok u) (reversed CPart.Pointer ps) h) in
      (last.0, same_ok _ u last.1)

  pub result_is : (base : CType) (ps : List CPart) (u : CType) → is_array base ≡ false → has_function ps ≡ false → gives_aggregate base ps ≡ false → made structs line base (reverse ps) ≡ Ok u → IsResult u
  result_is base [] u no_array no_function gives h = subst IsResult (same_ok base u h) (is_result base no_array gives)
  result_is base (CPart.Pointer ∷ ps) u no_array no_function gives h = let pointer = pointer_is base ps u h in subst IsResult pointer.1 (IsResult.scalar refl)
  result_is base (CPart.Array n ∷ ps) u no_array no_function gives h = absurd cc
  result_is base (CPart.Unsized ∷ ps) u no_array no_function gives h = absurd cc
  result_is base (CPart.Function params ∷ ps) u no_array no_function gives h = absurd cc

  -- a parameter's type is complete, and no array
  pub record IsParamType (u : CType) : Type 0 where
    pub type : IsType structs u
    pub complete : IsComplete structs u
    pub no_array : is_array u ≡ false

  adjusted_is : (t : CType) → IsMade true t → IsParamType (adjusted t)
  adjusted_is CType.Void is = record { type = is.type; complete = is.complete refl; no_array = refl }
  adjusted_is CType.Char is = record { type = is.type; complete = is.complete refl; no_array = refl }
  adjusted_is CType.Int is = record { type = is.type; complete = is.complete refl; no_array = refl }
  adjusted_is CType.Unsigned is = record { type = is.type; complete = is.complete refl; no_array = refl }
  adjusted_is (CType.Struct k) is = record { type = is.type; complete = is.complete refl; no_array = refl }
  adjusted_is (CType.Pointer t) is = record { type = is.type; complete = is.complete refl; no_array = refl }
  adjusted_is (CType.Array t n) is = record { type = is.type.0; complete = refl; no_array = refl }

  formed_made : (is_object : Bool) (base : CType) (ps : List CPart) (u : CType) → formed structs line is_object base ps ≡ Ok u → (has_function ps ≡ false) × (made structs line base (reverse ps) ≡ Ok u)
  unfolding formed
  formed_made is_object base ps u h =
      let complete = passes (is_incomplete structs is_object base ps) (BadType line 1) _ u h in
      let no_function = passes (has_function ps) (BadType line 2) _ u complete.1 in
      (no_function.0, (passes (lacks_size ps) (BadType line 3) _ u no_function.1).1)

  pub parameter_type_is : (base : CType) (ps : List CPart) (u : CType) → IsType structs base → is_array base ≡ false → AreParts structs ps → parameter_type structs line base ps ≡ Ok u → IsParamType u
  parameter_type_is base [] u base_is no_array are h =
      let is = formed_is true base [] u base_is are h in
      record { type = is.type; complete = is.complete refl; no_array = ap is_array (sym (same_ok base u (formed_made true base [] u h).1)) ∙ no_array }
  parameter_type_is base (CPart.Pointer ∷ ps) u base_is no_array are h =
      let is = formed_is true base (CPart.Pointer ∷ ps) u base_is are h in
      let pointer = pointer_is base ps u (formed_made true base (CPart.Pointer ∷ ps) u h).1 in
      record { type = is.type; complete = is.complete refl; no_array = ap is_array (sym pointer.1) }
  parameter_type_is base (CPart.Unsized ∷ ps) u base_is no_array are h =
      let b = bound (formed structs line true base ps) _ u h in
      let is = formed_is true base ps b.0 base_is are.1 b.1 in
      subst IsParamType (same_ok (CType.Pointer b.0) u b.2) (record { type = is.type; complete = refl; no_array = refl })
  parameter_type_is base (CPart.Array n ∷ ps) u base_is no_array are h =
      let b = bound (formed structs line true base (CPart.Array n ∷ ps)) _ u h in
      subst IsParamType (same_ok (adjusted b.0) u b.2) (adjusted_is b.0 (formed_is true base (CPart.Array n ∷ ps) b.0 base_is are b.1))
  parameter_type_is base (CPart.Function params ∷ ps) u base_is no_array are h = absurd (apart (formed_made true base (CPart.Function params ∷ ps) u h).0)
    where
      apart : true ≡ false → ⊥
      apart h = cc

-- a scalar, where a parameter is no struct
pub param_is_scalar : (structs : List CStruct) (t : CType) → IsComplete structs t → is_array t ≡ false → is_struct t ≡ false → IsScalar t
param_is_scalar structs CType.Void complete no_array no_struct = absurd cc
param_is_scalar structs CType.Char complete no_array no_struct = refl
param_is_scalar structs CType.Int complete no_array no_struct = refl
param_is_scalar structs CType.Unsigned complete no_array no_struct = refl
param_is_scalar structs (CType.Struct k) complete no_array no_struct = absurd cc
param_is_scalar structs (CType.Pointer t) complete no_array no_struct = refl
param_is_scalar structs (CType.Array t n) complete no_array no_struct = absurd cc
