-- What a declarator makes of the type of its specifier (C11 6.7.6).
use Rattle.std.specs.Prelude.{ℕ, ◌*◌, nat_le, nat_lt, Bool, true, false, not, ◌&&◌, ◌||◌}
use Rattle.std.specs.Prelude.{if◌then◌else◌, Option, Some, None, Ok, Err, List, [], ◌∷◌, map, reverse}
use Rattle.typed_tree.specs.Types.{CType, is_unsigned}
use Rattle.typed_tree.specs.TypesViewed.{ty_of}
use Rattle.typed_tree.specs.TypedTree.{CExpr, CStruct, type_of}
use Rattle.typed_tree.specs.Sizes.{largest, size_of, is_complete}
use Rattle.typing_operators.specs.declared.error.TypeError.TheVariants.{BadType, TooLarge}
use Rattle.typing_operators.specs.Rule.{Rule, ◌>>=◌, refuse}
use Rattle.typing_operators.specs.Constants.{constant}
use Rattle.typing_expressions.specs.declared.parts.Param.{Param}
use Rattle.typing_expressions.specs.declared.parts.Part.{Part}
use Rattle.typing_expressions.specs.declared.parts.Part.TheVariants as parts

-- a parameter: its name, its type, and the line of its specifier
pub record CParam : Type 0 where
  pub name : Option (List ℕ)
  pub ty : CType
  pub line : ℕ

-- One step of a declarator. Its steps are read from the declared name outwards: `*x[3]` is an array of 3 pointers. The
-- size of an array is None where it is no constant expression of at least 1.
pub data CPart : Type 0 where
  Pointer : CPart
  Array : (count : Option ℕ) → CPart
  Unsized : CPart
  Function : (params : List CParam) → CPart

abbrev pub param_of : Param → CParam
param_of p = record { name = p.name; ty = ty_of p.ty; line = p.line }

abbrev pub part_of : Part → CPart
part_of parts.Pointer = CPart.Pointer
part_of (parts.Array n) = CPart.Array n
part_of parts.Unsized = CPart.Unsized
part_of (parts.Function ps) = CPart.Function (map param_of ps.items)

abbrev pub parts_of : List Part → List CPart
parts_of ps = map part_of ps

-- 6.7.6.2 p1: whether a number of the type may be the size of an array: it is at least 1
abbrev pub is_count : CType → ℕ → Bool
is_count t n = nat_le 1 n && (is_unsigned t || nat_lt n 2147483648)

abbrev pub as_count : CType → Option ℕ → Option ℕ
as_count t None = None
as_count t (Some n) = if is_count t n then Some n else None

-- the size that an expression gives an array
unfoldable pub count_of : List CStruct → CExpr → Option ℕ
count_of structs e = as_count (type_of e) (constant structs e)

abbrev pub is_array_part : CPart → Bool
is_array_part CPart.Pointer = false
is_array_part (CPart.Array n) = true
is_array_part CPart.Unsized = true
is_array_part (CPart.Function ps) = false

-- whether the step next to the specifier is an array; where there is no step, as is said
abbrev pub begins_with_array : Bool → List CPart → Bool
begins_with_array none [] = none
begins_with_array none (p ∷ ps) = begins_with_array (is_array_part p) ps

-- Whether the declarator asks that the specifier's type is complete: as the type of an object (6.7 p7), or of an array's
-- elements (6.7.6.2 p1). Pointers and functions do not.
abbrev pub is_incomplete : List CStruct → (is_object : Bool) → CType → List CPart → Bool
is_incomplete structs is_object base ps = begins_with_array is_object ps && not (is_complete structs base)

abbrev pub has_function : List CPart → Bool
has_function [] = false
has_function (CPart.Pointer ∷ ps) = has_function ps
has_function (CPart.Array n ∷ ps) = has_function ps
has_function (CPart.Unsized ∷ ps) = has_function ps
has_function (CPart.Function params ∷ ps) = true

-- whether an array has no size, or one that is none
abbrev pub lacks_size : List CPart → Bool
lacks_size [] = false
lacks_size (CPart.Pointer ∷ ps) = lacks_size ps
lacks_size (CPart.Array None ∷ ps) = true
lacks_size (CPart.Array (Some n) ∷ ps) = lacks_size ps
lacks_size (CPart.Unsized ∷ ps) = true
lacks_size (CPart.Function params ∷ ps) = lacks_size ps

-- an array of so many, which has not too many bytes
unfoldable pub array_of : List CStruct → ℕ → CType → ℕ → Rule CType
array_of structs line t n =
    refuse (nat_lt largest (size_of structs t * n)) (TooLarge line (size_of structs t * n)) (Ok (CType.Array t n))

-- what one step makes of a type; a function makes no type of an object
abbrev pub made_by : List CStruct → ℕ → CType → CPart → Rule CType
made_by structs line t CPart.Pointer = Ok (CType.Pointer t)
made_by structs line t (CPart.Array None) = Err (BadType line 3)
made_by structs line t (CPart.Array (Some n)) = array_of structs line t n
made_by structs line t CPart.Unsized = Err (BadType line 3)
made_by structs line t (CPart.Function params) = Err (BadType line 2)

-- what these steps make of it, one after the other
abbrev pub made : List CStruct → ℕ → CType → List CPart → Rule CType
made structs line t [] = Ok t
made structs line t (p ∷ ps) = made_by structs line t p >>= λ u. made structs line u ps

-- The type that a declarator makes, or the rule that it breaks. The type is made from the specifier towards the name.
unfoldable pub formed : List CStruct → ℕ → (is_object : Bool) → CType → List CPart → Rule CType
formed structs line is_object base ps =
    refuse (is_incomplete structs is_object base ps) (BadType line 1)
    (refuse (has_function ps) (BadType line 2)
    (refuse (lacks_size ps) (BadType line 3)
    (made structs line base (reverse ps))))
