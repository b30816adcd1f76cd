-- Facts on the typed tree.
use Rattle.std.proofs.Common.{◌≡◌, ℕ, ◌≤◌, List, refl, arith, subst}
use Rattle.std.specs.Prelude.{All, Option, Some, None, slice_get}
use Rattle.std.proofs.lemmas.Option.{slice_get_within, get_or_from_slice_get}
use Rattle.c_words.specs.declared.place.At.{At}
use Rattle.typed_tree.specs.Types.{CType}
use Rattle.typed_tree.specs.TypedTree.{CExpr, CForm, CExprs, CStruct}
use Rattle.typed_tree.specs.Sizes.{largest, struct_size}
use Rattle.typed_tree.specs.Walk.{walked_all}
use Rattle.typed_tree.specs.Counts.{temps_of, own_temps, temps_with}
use Rattle.typed_tree.specs.Typed.{IsStruct}
use Rattle.typed_tree.specs.TypedLaws.{TypesAreSmall, UndefinedIsEmpty, TempsAtLeastFour}

-- what holds of each element holds of the one that is found
pub All-slice_get : {X : Type 0} (P : X → Type 0) (xs : List X) (k : ℕ) (x : X) → All P xs → slice_get xs k ≡ Some x → P x
All-slice_get P xs k x all found = subst P (get_or_from_slice_get xs k x x found) (all k x (slice_get_within xs k x found))

struct_is_small : (structs : List CStruct) (k : ℕ) (found : Option CStruct) → All (IsStruct structs) structs → slice_get structs k ≡ found → struct_size found ≤ largest
struct_is_small structs k None all found = omega arith
struct_is_small structs k (Some s) all found = (All-slice_get (IsStruct structs) structs k s all found).fits

pub types_are_small : TypesAreSmall
types_are_small structs CType.Void all formed = omega arith
types_are_small structs CType.Char all formed = omega arith
types_are_small structs CType.Int all formed = omega arith
types_are_small structs CType.Unsigned all formed = omega arith
types_are_small structs (CType.Struct k) all formed = struct_is_small structs k (slice_get structs k) all refl
types_are_small structs (CType.Pointer t) all formed = omega arith
types_are_small structs (CType.Array t n) all formed = formed.3

pub undefined_is_empty : UndefinedIsEmpty
undefined_is_empty structs s is_struct empty =
    let align : s.align ≡ 1 = rw empty at is_struct.align in
    let size : s.size ≡ 0 = rw (align, empty) at is_struct.size in
    (size, align)

mutual
  four_temps : (e : CExpr) → 4 ≤ temps_of e
  four_temps (CExpr.expr at t form) = four_temps_of_form at t form

  four_temps_of_form : (at : At) (t : CType) (form : CForm) → 4 ≤ temps_of (CExpr.expr at t form)
  four_temps_of_form at t (CForm.Local n) = omega arith
  four_temps_of_form at t (CForm.Global n) = omega arith
  four_temps_of_form at t (CForm.Text n) = omega arith
  four_temps_of_form at t (CForm.Number n) = omega arith
  four_temps_of_form at t (CForm.Character n) = omega arith
  four_temps_of_form at t CForm.Null = omega arith
  four_temps_of_form at t CForm.Eof = omega arith
  four_temps_of_form at t (CForm.Convert c e) = let first : 4 ≤ temps_of e = four_temps e in omega arith
  four_temps_of_form at t (CForm.Index a b) = let first : 4 ≤ temps_of a = four_temps a in omega arith
  four_temps_of_form at t (CForm.Call f es) = four_temps_of_call es
  four_temps_of_form at t (CForm.Member e m) = let first : 4 ≤ temps_of e = four_temps e in omega arith
  four_temps_of_form at t (CForm.Arrow e m) = let first : 4 ≤ temps_of e = four_temps e in omega arith
  four_temps_of_form at t (CForm.StepBefore op e) = let first : 4 ≤ temps_of e = four_temps e in omega arith
  four_temps_of_form at t (CForm.StepAfter op e) = let first : 4 ≤ temps_of e = four_temps e in omega arith
  four_temps_of_form at t (CForm.Unary op e) = let first : 4 ≤ temps_of e = four_temps e in omega arith
  four_temps_of_form at t (CForm.Binary op a b) = let first : 4 ≤ temps_of a = four_temps a in omega arith
  four_temps_of_form at t (CForm.Conditional c a b) = let first : 4 ≤ temps_of c = four_temps c in omega arith
  four_temps_of_form at t (CForm.Assign op a b) = let first : 4 ≤ temps_of a = four_temps a in omega arith
  four_temps_of_form at t (CForm.Comma a b) = let first : 4 ≤ temps_of a = four_temps a in omega arith
  four_temps_of_form at t (CForm.Cast e) = let first : 4 ≤ temps_of e = four_temps e in omega arith
  four_temps_of_form at t (CForm.SizeofExpression e) = omega arith
  four_temps_of_form at t (CForm.SizeofType u) = omega arith

  four_temps_of_call : (es : CExprs) → 4 ≤ temps_with (walked_all own_temps es)
  four_temps_of_call CExprs.none = omega arith
  four_temps_of_call (CExprs.more e es) = let first : 4 ≤ temps_of e = four_temps e in omega arith

pub temps_at_least_four : TempsAtLeastFour
temps_at_least_four = four_temps
