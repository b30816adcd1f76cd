-- Initializers that are accepted are what typing gives.
use Rattle.std.proofs.Common.{◌≡◌, ℕ, suc, Bool, true, false, not, ◌&&◌, ◌||◌, IsTrue, List, [], ◌∷◌, ◌++◌, refl, sym, ap, ◌∙◌, subst}
use Rattle.std.specs.Prelude.{Option, None, Ok, is_some, if◌then◌else◌}
use Rattle.std.proofs.lemmas.List.{append-nil}
use Rattle.c_words.specs.declared.place.At.{At}
use Rattle.syntax_tree.specs.Syntax.{ExpressionTree, InitializerTree, InitializerTrees}
use Rattle.typed_tree.specs.Types.{CType, is_array, is_struct, IsScalar}
use Rattle.typed_tree.specs.TypedTree.{CExpr, CInitial, CStruct, type_of}
use Rattle.typing_operators.specs.Rule.{Rule}
use Rattle.typing_operators.specs.Conversions.{is_void}
use Rattle.typing_expressions.specs.Scene.{CScene}
use Rattle.typing_expressions.specs.Expressions.{typed}
use Rattle.typing_expressions.specs.Initializers.{value_bytes, allowed, string_of, part_from, initial, initials, struct_copied, initialized}
use Rattle.typing_accepted.specs.AcceptanceDeclarators.{IsAllowed, Initializes, InitializesParts, IsInitializedBy}
use Rattle.typing_accepted.proofs.Steps.{onward, passed, no_less, taken, left_out, not_of}
use Rattle.typing_accepted.proofs.Operands.{decayed_flat}
use Rattle.typing_accepted.proofs.ToRest.{given_to, struct_flat, copied_self}
use Rattle.typing_accepted.proofs.ToTyped.{reads, to_typed, past_one, pair_is}

scalar_string : (t : CType) (e : ExpressionTree) → IsScalar t → string_of t e ≡ None
scalar_string CType.Char e scalar = refl
scalar_string CType.Int e scalar = refl
scalar_string CType.Unsigned e scalar = refl
scalar_string (CType.Pointer t) e scalar = refl
scalar_string CType.Void e scalar = absurd cc
scalar_string (CType.Struct k) e scalar = absurd cc
scalar_string (CType.Array t n) e scalar = absurd cc

no_aggregate : (t : CType) → IsScalar t → is_array t || is_struct t ≡ false
no_aggregate CType.Char scalar = refl
no_aggregate CType.Int scalar = refl
no_aggregate CType.Unsigned scalar = refl
no_aggregate (CType.Pointer t) scalar = refl
no_aggregate CType.Void scalar = absurd cc
no_aggregate (CType.Struct k) scalar = absurd cc
no_aggregate (CType.Array t n) scalar = absurd cc

pub struct_no_array : (t : CType) → is_struct t ≡ true → (is_array t ≡ false) × (is_void t ≡ false)
struct_no_array (CType.Struct k) struct = (refl, refl)
struct_no_array CType.Void struct = absurd cc
struct_no_array CType.Char struct = absurd cc
struct_no_array CType.Int struct = absurd cc
struct_no_array CType.Unsigned struct = absurd cc
struct_no_array (CType.Pointer t) struct = absurd cc
struct_no_array (CType.Array t n) struct = absurd cc

module _ (is_global : Bool) where
  allowed_to : (structs : List CStruct) (line : ℕ) (v : CExpr) → IsAllowed is_global structs v → allowed is_global structs line v ≡ Ok v
  allowed_to structs line v is = passed _ _ _ _ (by is_global is) refl
    where
      by : (b : Bool) → (b ≡ true → IsTrue (is_some (value_bytes structs v))) → b && not (is_some (value_bytes structs v)) ≡ false
      by true h = not_of _ (h refl)
      by false h = refl

  no_string : (s : CScene) (line : ℕ) (t : CType) (e : ExpressionTree) (o : Option (At × List ℕ)) (x v : CExpr) (u : CScene) → o ≡ None → typed s e ≡ Ok (x, u) → IsScalar t
      → part_from is_global s line t e None ≡ Ok (CInitial.Value v, u) → part_from is_global s line t e o ≡ Ok (CInitial.Value v, u)
  no_string s line t e o x v u none is scalar h = rw none h

  mutual
    pub to_initial : (s : CScene) (line : ℕ) (t : CType) (i : InitializerTree) (v : CInitial) (u : CScene) → Initializes is_global s t i v u → initial is_global s line t i ≡ Ok (v, u)
    to_initial s line t (InitializerTree.Expression e) v u (Initializes.value {x = x} {v = w} a b g ok) =
        no_string s line t e _ x w u (scalar_string t e g.1) (to_typed _ _ _ _ a) g.1
        (onward _ _ _ _ (to_typed _ _ _ _ a) (left_out _ _ _ _ (no_aggregate t g.1)
        (onward _ _ _ _ (given_to line t _ _ (reads _ _ _ _ a) b g) (onward _ _ _ _ (allowed_to u.structs line _ ok) refl))))
    to_initial s line t i v u (Initializes.string is) = rw is.array (passed _ _ _ _ (no_less _ _ is.room) refl)
    to_initial s line t i v u (Initializes.braces is parts) = taken _ _ _ _ is (onward _ _ _ _ (to_initials s line t _ _ _ _ [] parts) refl)

    to_initials : (s : CScene) (line : ℕ) (t : CType) (i : ℕ) (xs : InitializerTrees) (vs : List CInitial) (u : CScene) (done : List CInitial)
        → InitializesParts is_global s t i xs vs u → initials is_global done s line t i xs ≡ Ok (done ++ vs, u)
    to_initials s line t i xs vs u done InitializesParts.no_part = pair_is done (done ++ []) s (sym (append-nil done))
    to_initials s line t i (InitializerTrees.more x xs) vs u done (InitializesParts.part type one more) =
        rw type (onward _ _ _ _ (to_initial s line _ x _ _ one) (to_initials _ line t (suc i) xs _ u (done ++ _ ∷ []) more ∙ pair_is _ _ u (past_one done _ _)))

  struct_or : (s : CScene) (line : ℕ) (t : CType) (at : At) (parts : InitializerTrees) (r : Rule (CInitial × CScene)) → initial is_global s line t (InitializerTree.Braced at parts) ≡ r
      → initialized is_global s line t (InitializerTree.Braced at parts) ≡ r
  struct_or s line t at parts r is = by (is_struct t)
    where
      by : (b : Bool) → (if b then struct_copied is_global s line t (InitializerTree.Braced at parts) else initial is_global s line t (InitializerTree.Braced at parts)) ≡ r
      by true = is
      by false = is

  parts_to : (s : CScene) (line : ℕ) (t : CType) (i : InitializerTree) (v : CInitial) (u : CScene) → Initializes is_global s t i v u → initialized is_global s line t i ≡ Ok (v, u)
  parts_to s line t i v u (Initializes.value a b g ok) = left_out _ _ _ _ (struct_flat t g.1) (to_initial s line t _ _ u (Initializes.value a b g ok))
  parts_to s line t i v u (Initializes.string is) = left_out _ _ _ _ (no_struct t _ is.array) (to_initial s line t _ _ u (Initializes.string is))
    where
      no_struct : (t : CType) (n : ℕ) → t ≡ CType.Array CType.Char n → is_struct t ≡ false
      no_struct t n is = rw is refl
  parts_to s line t i v u (Initializes.braces is parts) = struct_or s line t _ _ _ (to_initial s line t _ _ u (Initializes.braces is parts))

  pub to_initialized : (s : CScene) (line : ℕ) (t : CType) (i : InitializerTree) (v : CInitial) (u : CScene) → IsInitializedBy is_global s t i v u → initialized is_global s line t i ≡ Ok (v, u)
  to_initialized s line t i v u (IsInitializedBy.parts is) = parts_to s line t i v u is
  to_initialized s line t i v u (IsInitializedBy.copy {x = x} a is ok) =
      let struct : is_struct (type_of x) ≡ true = subst (λ w. is_struct w ≡ true) (sym is.same_struct) is.struct in
      let no = struct_no_array (type_of x) struct in
      taken _ _ _ _ is.struct
      (onward _ _ _ _ (to_typed _ _ _ _ a) (passed _ _ _ _ no.1
      (onward _ _ x _ (ap (allowed is_global u.structs line) (decayed_flat x no.0) ∙ allowed_to u.structs line x ok) (onward _ _ _ _ (copied_self line t x is) refl))))
