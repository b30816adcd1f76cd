-- A typed program that is built is as its code wants it.
use Rattle.std.specs.Prelude.{◌&&◌, ◌||◌, not, IsTrue, All, map, take, slice_get, option_map}
use Rattle.std.proofs.Common.{◌≡◌, ℕ, zero, suc, ◌+◌, ◌<◌, ◌≤◌, Bool, true, false, List, [], ◌∷◌, length, Option, Some, None, refl, sym, ap, ◌∙◌, subst, arith}
use Rattle.std.proofs.lemmas.Bool.{true≢false, and_parts}
use Rattle.std.proofs.lemmas.List.Elements.{All-nil, All-cons, All-head, All-tail}
use Rattle.std.proofs.lemmas.List.{length-take-le}
use Rattle.std.proofs.lemmas.Option.{slice_get-map, slice_get_within, get_or_from_slice_get}
use Rattle.c_words.specs.declared.operators.UnaryOperator.TheVariants as unary
use Rattle.c_words.specs.declared.operators.AssignOperator.{AssignOperator}
use Rattle.c_words.specs.declared.operators.AssignOperator.TheVariants as assign
use Rattle.typed_tree.specs.declared.typed_expr.Conversion.TheVariants as conversion
use Rattle.typed_tree.specs.declared.typed_expr.Called.{Called}
use Rattle.typed_tree.specs.declared.typed_expr.Called.TheVariants as called
use Rattle.typed_tree.specs.declared.typed_expr.LibCall.{LibCall}
use Rattle.typed_tree.specs.declared.typed_expr.LibCall.TheVariants as lib
use Rattle.typed_tree.specs.Types.{CType, is_number, is_pointer, is_struct, is_array, IsPointer, IsScalar}
use Rattle.typed_tree.specs.Sizes.{size_of, IsComplete, IsType}
use Rattle.typed_tree.specs.TypedTree.{CExpr, CForm, CExprs, CInitial, CInitializer, CDeclaration, CStart, CStmt, CStmts, CFunction, CProgram, CStruct, type_of}
use Rattle.typed_tree.specs.Walk.{Sum, over_initial, over_initializer, over_declaration, over_declarations, over_start, over_expr_if_any, over_stmts, walked_all, all_of, every_expr}
use Rattle.typed_tree.specs.TypedOperands.{is_place, has_object, IsPlain}
use Rattle.typed_tree.specs.TypedRules.{prototype_of, prototype_in_library, IsResult, IsAssignable, IsAssignment, MayCast, IsCall, AreGiven}
use Rattle.typed_tree.specs.TypedRules.IsSet.{scalar as set_scalar, struct as set_struct}
use Rattle.typed_tree.specs.TypedRules.IsChanged.{numbers as changed_numbers, pointer_and_number as changed_pointer}
use Rattle.typed_tree.specs.TypedRules.MayCast.{to_void, numbers as cast_numbers, pointers as cast_pointers, null as cast_null}
use Rattle.typed_tree.specs.TypedBody.{Environment, IsExpr, AreExprs, IsInitialized, MayInitialize, IsDeclaration, AreDeclarations, IsStart, IsTestedIfAny, IsEvaluatedIfAny, IsStmt, AreStmts}
use Rattle.typed_tree.specs.TypedBody.IsInitialized.{parts as by_parts, copy as by_copy}
use Rattle.typed_tree.specs.Typed.{IsStruct, IsFunction, Typed, environment_of, stmt_refers}
use Rattle.typed_tree.specs.TypedLaws.{TypesAreSmall, AggregatesHaveObjects}
use Rattle.mid_code.specs.Kinds.{signature_of}
use Rattle.lowering_counts.specs.Built.{has_pointer, is_called, is_built_expr, is_built_stmt, are_built_locals, are_built_structs, is_built_function, are_built_functions, is_empty, is_built}
use Rattle.lowering_code.proofs.KeptLocals.{nothing_in, built_local, empty_is}
use Rattle.lowering_keeps.proofs.Fits.{is_reckoned, is_unconverted, count_of, FitsCalled, IsVariable, Fits, AllFit, FitsIfAny, InitialFits, InitializerFits, DeclarationFits, DeclarationsFit, StartFits, StmtFits, StmtsFit, gives, FunctionFits, ProgramFits}

pub all_get : {X : Type 0} (P : X → Type 0) (xs : List X) (k : ℕ) (x : X) → All P xs → slice_get xs k ≡ Some x → P x
all_get P xs k x all found = subst P (get_or_from_slice_get xs k x x found) (all k x (slice_get_within xs k x found))

-- what is found in a list of images is an image
pub found_image : {X Y : Type 0} (f : X → Y) (xs : List X) (k : ℕ) (y : Y) → slice_get (map f xs) k ≡ Some y → (x : X) × (slice_get xs k ≡ Some x) × (f x ≡ y)
found_image f xs k y e = of (slice_get xs k) refl (sym (slice_get-map f xs k) ∙ e)
  where
    test : {X : Type 0} → Option X → Bool
    test None = true
    test (Some x) = false

    from_some : {X : Type 0} → X → Option X → X
    from_some d None = d
    from_some d (Some x) = x

    of : (o : Option _) → slice_get xs k ≡ o → option_map f o ≡ Some y → (x : _) × (slice_get xs k ≡ Some x) × (f x ≡ y)
    of None eo h = absurd (true≢false (ap test h))
    of (Some x) eo h = (x, eo, ap (from_some y) h)

-- ---- Types

built_not_pointer : (t : CType) → not (has_pointer t) ≡ true → is_pointer t ≡ false
built_not_pointer (CType.Pointer t) h = absurd (true≢false (sym h))
built_not_pointer CType.Void h = refl
built_not_pointer CType.Char h = refl
built_not_pointer CType.Int h = refl
built_not_pointer CType.Unsigned h = refl
built_not_pointer (CType.Struct k) h = refl
built_not_pointer (CType.Array t n) h = refl

no_pointer : (t u : CType) → not (has_pointer t) ≡ true → t ≡ CType.Pointer u → ⊥
no_pointer t u h e = true≢false (sym h ∙ ap (λ z. not (has_pointer z)) e)

not_a_pointer : (t : CType) → not (has_pointer t) ≡ true → IsPointer t → ⊥
not_a_pointer t h p = true≢false (sym p ∙ built_not_pointer t h)

number_reckoned : (t : CType) → is_number t ≡ true → is_reckoned t ≡ true
number_reckoned CType.Char h = refl
number_reckoned CType.Int h = refl
number_reckoned CType.Unsigned h = refl
number_reckoned CType.Void h = refl
number_reckoned (CType.Struct k) h = absurd (true≢false (sym h))
number_reckoned (CType.Pointer t) h = absurd (true≢false (sym h))
number_reckoned (CType.Array t n) h = absurd (true≢false (sym h))

number_no_struct : (t : CType) → is_number t ≡ true → is_struct t ≡ false
number_no_struct CType.Char h = refl
number_no_struct CType.Int h = refl
number_no_struct CType.Unsigned h = refl
number_no_struct CType.Void h = refl
number_no_struct (CType.Struct k) h = absurd (true≢false (sym h))
number_no_struct (CType.Pointer t) h = refl
number_no_struct (CType.Array t n) h = refl

number_no_array : (t : CType) → is_number t ≡ true → is_array t ≡ false
number_no_array CType.Char h = refl
number_no_array CType.Int h = refl
number_no_array CType.Unsigned h = refl
number_no_array CType.Void h = refl
number_no_array (CType.Struct k) h = refl
number_no_array (CType.Pointer t) h = refl
number_no_array (CType.Array t n) h = absurd (true≢false (sym h))

scalar_no_struct : (t : CType) → IsScalar t → is_struct t ≡ false
scalar_no_struct CType.Char h = refl
scalar_no_struct CType.Int h = refl
scalar_no_struct CType.Unsigned h = refl
scalar_no_struct CType.Void h = refl
scalar_no_struct (CType.Struct k) h = absurd (true≢false (sym h))
scalar_no_struct (CType.Pointer t) h = refl
scalar_no_struct (CType.Array t n) h = refl

scalar_given : (t : CType) → IsScalar t → gives t ≡ true
scalar_given CType.Char h = refl
scalar_given CType.Int h = refl
scalar_given CType.Unsigned h = refl
scalar_given CType.Void h = absurd (true≢false (sym h))
scalar_given (CType.Struct k) h = refl
scalar_given (CType.Pointer t) h = refl
scalar_given (CType.Array t n) h = refl

-- a kept local of a complete type that is no pointer is a number
kept_number : (structs : List CStruct) (t : CType) (r : Bool) → IsComplete structs t → false ≡ (is_array t || is_struct t || r) → not (has_pointer t) ≡ true → is_number t ≡ true
kept_number structs CType.Char r c b h = refl
kept_number structs CType.Int r c b h = refl
kept_number structs CType.Unsigned r c b h = refl
kept_number structs CType.Void r c b h = absurd (true≢false (sym c))
kept_number structs (CType.Struct k) r c b h = absurd (true≢false (sym b))
kept_number structs (CType.Pointer t) r c b h = absurd (true≢false (sym h))
kept_number structs (CType.Array t n) r c b h = absurd (true≢false (sym b))

abbrev built_sum : Sum Bool
built_sum = record {
  nothing = true;
  both = λ a b. a && b;
  expr = every_expr is_built_expr;
  initial = λ i. true;
  declaration = λ d. true;
  statement = λ s. true;
}

abbrev every : CExpr → Bool
every e = every_expr is_built_expr e

type_built : (e : CExpr) → every e ≡ true → not (has_pointer (type_of e)) ≡ true
type_built (CExpr.expr at t (CForm.Call f es)) h = (and_parts (not (has_pointer t)) (is_called f) (and_parts (is_built_expr (CExpr.expr at t (CForm.Call f es))) _ h).0).0
type_built (CExpr.expr at t (CForm.SizeofType u)) h = (and_parts (not (has_pointer t)) (not (has_pointer u)) (and_parts (is_built_expr (CExpr.expr at t (CForm.SizeofType u))) _ h).0).0
type_built (CExpr.expr at t form) h = (and_parts (not (has_pointer t)) _ h).0

assignable_of : (structs : List CStruct) (o : AssignOperator) (a b : CExpr) (t : CType) → IsAssignment structs o a b t → IsAssignable a
assignable_of structs assign.Assign a b t (set_scalar x y z) = x
assignable_of structs assign.Assign a b t (set_struct x y z) = x
assignable_of structs assign.Multiply a b t h = h.assignable
assignable_of structs assign.Divide a b t h = h.assignable
assignable_of structs assign.Remainder a b t h = h.assignable
assignable_of structs assign.Add a b t (changed_numbers h) = h.assignable
assignable_of structs assign.Add a b t (changed_pointer x y) = x
assignable_of structs assign.Subtract a b t (changed_numbers h) = h.assignable
assignable_of structs assign.Subtract a b t (changed_pointer x y) = x
assignable_of structs assign.ShiftLeft a b t h = h.assignable
assignable_of structs assign.ShiftRight a b t h = h.assignable
assignable_of structs assign.BitAnd a b t h = h.assignable
assignable_of structs assign.BitXor a b t h = h.assignable
assignable_of structs assign.BitOr a b t h = h.assignable

given_count : (ts : List CType) (es : CExprs) → AreGiven ts es → count_of es ≡ length ts
given_count [] CExprs.none h = refl
given_count [] (CExprs.more e es) h = absurd h
given_count (t ∷ ts) CExprs.none h = absurd h
given_count (t ∷ ts) (CExprs.more e es) h = ap (λ n. 1 + n) (given_count ts es h.1) ∙ omega arith

abbrev value_or : {X : Type 0} → X → Option X → X
value_or d None = d
value_or d (Some x) = x

library_count : (which : LibCall) → length (prototype_in_library which).params ≡ length (signature_of which).params
library_count lib.Putchar = refl
library_count lib.Getchar = refl
library_count lib.Exit = refl
library_count lib.Malloc = refl
library_count lib.Calloc = refl
library_count lib.Free = refl
library_count lib.Memcpy = refl
library_count lib.Memset = refl

-- what is known of a function of a program
pub record Setting (p : CProgram) (f : CFunction) : Type 0 where
  pub small : TypesAreSmall
  pub objects : AggregatesHaveObjects
  pub structs : All (IsStruct p.structs) p.structs
  pub no_globals : p.globals ≡ []
  pub no_texts : p.texts ≡ []
  pub results : All (λ q. IsResult q.result) (map prototype_of p.functions)
  pub params : (i : ℕ) (h : CFunction) → slice_get p.functions i ≡ Some h → h.params ≤ length h.locals
  pub known : (j : ℕ) (t : CType) → slice_get (map (λ l. l.ty) f.locals) j ≡ Some t → (j < length f.locals) × (is_number t ≡ true)

module _ (p : CProgram) (f : CFunction) (given : Setting p f) where
  abbrev names : Environment
  names = environment_of p f

  abbrev k : ℕ
  k = length f.locals

  type_is : (e : CExpr) → IsExpr names e → IsType p.structs (type_of e)
  type_is (CExpr.expr at t form) h = h.0

  variable : (e : CExpr) → IsExpr names e → Fits p.structs p.functions k e → IsTrue (is_place e) → IsVariable p.structs p.functions k e
  variable (CExpr.expr at t (CForm.Local j)) ie fits place = record { local = j; form = refl; within = fits.1; number = (given.known j t ie.1).1 }
  variable (CExpr.expr at t (CForm.Global j)) ie fits place = absurd fits.1
  variable (CExpr.expr at t (CForm.Text j)) ie fits place = absurd fits.1
  variable (CExpr.expr at t (CForm.Index a b)) ie fits place = absurd fits.1
  variable (CExpr.expr at t (CForm.Arrow e m)) ie fits place = absurd fits.1
  variable (CExpr.expr at t (CForm.Member e m)) ie fits place = absurd fits.1
  variable (CExpr.expr at t (CForm.Unary unary.Dereference e)) ie fits place = absurd (true≢false (sym fits.1.0))
  variable (CExpr.expr at t (CForm.Unary unary.Address e)) ie fits place = absurd (true≢false (sym fits.1.0))
  variable (CExpr.expr at t (CForm.Unary o e)) ie fits place = absurd (true≢false (sym place))
  variable (CExpr.expr at t form) ie fits place = absurd (true≢false (sym place))

  -- what names an object is a number
  object_number : (e : CExpr) → IsExpr names e → Fits p.structs p.functions k e → IsTrue (has_object e) → is_number (type_of e) ≡ true
  object_number (CExpr.expr at t (CForm.Local j)) ie fits o = (given.known j t ie.1).1
  object_number (CExpr.expr at t (CForm.Comma a b)) ie fits o = ap is_number (ie.1.2.result) ∙ object_number b ie.1.1 fits.1.1 o
  object_number (CExpr.expr at t (CForm.Global j)) ie fits o = absurd fits.1
  object_number (CExpr.expr at t (CForm.Text j)) ie fits o = absurd fits.1
  object_number (CExpr.expr at t (CForm.Index a b)) ie fits o = absurd fits.1
  object_number (CExpr.expr at t (CForm.Arrow e m)) ie fits o = absurd fits.1
  object_number (CExpr.expr at t (CForm.Member e m)) ie fits o = absurd fits.1
  object_number (CExpr.expr at t (CForm.Unary unary.Dereference e)) ie fits o = absurd (true≢false (sym fits.1.0))
  object_number (CExpr.expr at t (CForm.Unary unary.Address e)) ie fits o = absurd (true≢false (sym fits.1.0))
  object_number (CExpr.expr at t (CForm.Unary op e)) ie fits o = absurd (true≢false (sym o))
  object_number (CExpr.expr at t form) ie fits o = absurd (true≢false (sym o))

  no_struct : (e : CExpr) (s : ℕ) → IsExpr names e → Fits p.structs p.functions k e → type_of e ≡ CType.Struct s → ⊥
  no_struct e s ie fits is =
      let struct : is_struct (type_of e) ≡ true = ap is_struct is in
      true≢false (sym struct ∙ number_no_struct (type_of e) (object_number e ie fits (given.objects names e given.results ie (ap (λ z. z || is_array (type_of e)) struct))))

  -- ---- Expressions

  called_fits : (c : Called) (es : CExprs) (t : CType) → is_called c ≡ true → IsCall names.functions c es t → FitsCalled p.functions c (count_of es)
  called_fits (called.Library which) es t ok is =
      (ok, given_count is.prototype.params es is.given ∙ sym (ap (λ o. length (value_or is.prototype o).params) is.found) ∙ library_count which)
  called_fits (called.Defined i) es t ok is =
      let image = found_image prototype_of p.functions i is.prototype is.found in
      let h = image.0 in (
        h,
        image.1,
        given_count is.prototype.params es is.given ∙ ap (λ q. length q.params) (sym image.2)
            ∙ length_map (λ l. l.ty) (take h.params h.locals) ∙ length-take-le h.params h.locals (given.params i h image.1),
      )
    where
      length_map : {X Y : Type 0} (g : X → Y) (xs : List X) → length (map g xs) ≡ length xs
      length_map g [] = refl
      length_map g (x ∷ xs) = ap (λ n. suc n) (length_map g xs)

  unconverted : (e : CExpr) → IsExpr names e → every e ≡ true → IsPlain e → is_unconverted e ≡ true
  unconverted (CExpr.expr at t (CForm.Convert conversion.ArrayToPointer e)) ie built plain = absurd (no_pointer t ie.1.1.1 (type_built (CExpr.expr at t (CForm.Convert conversion.ArrayToPointer e)) built) ie.1.1.4)
  unconverted (CExpr.expr at t (CForm.Convert conversion.NumberToNumber e)) ie built plain = absurd (true≢false (sym plain))
  unconverted (CExpr.expr at t (CForm.Convert conversion.NullToPointer e)) ie built plain = absurd (true≢false (sym plain))
  unconverted (CExpr.expr at t (CForm.Convert conversion.PointerToPointer e)) ie built plain = absurd (true≢false (sym plain))
  unconverted (CExpr.expr at t form) ie built plain = refl

  cast_reckoned : (e : CExpr) (t : CType) → not (has_pointer t) ≡ true → MayCast e t → is_reckoned t ≡ true
  cast_reckoned e t b (to_void h) = ap is_reckoned h
  cast_reckoned e t b (cast_numbers x y) = number_reckoned t y
  cast_reckoned e t b (cast_pointers x y) = absurd (not_a_pointer t b y)
  cast_reckoned e t b (cast_null x y) = absurd (not_a_pointer t b y)

  abbrev own : CExpr → Bool
  own e = is_built_expr e

  -- what is asked of an expression, and of its operands
  first : (a b : Bool) → (a && b) ≡ true → a ≡ true
  first a b h = (and_parts a b h).0

  second : (a b : Bool) → (a && b) ≡ true → b ≡ true
  second a b h = (and_parts a b h).1

  -- a constant
  small_size : (t : CType) → IsType p.structs t → size_of p.structs t < 4294967296
  small_size t h = omega (arith, given.small p.structs t given.structs h)

  mutual
    fits : (e : CExpr) → IsExpr names e → every e ≡ true → Fits p.structs p.functions k e
    fits (CExpr.expr at t (CForm.Local j)) ie b = (built_not_pointer t (type_built (CExpr.expr at t (CForm.Local j)) b), (given.known j t ie.1).0)
    fits (CExpr.expr at t (CForm.Global j)) ie b = absurd (nothing_in (map (λ g. g.ty) p.globals) j t (ap (map (λ g. g.ty)) given.no_globals) ie.1)
    fits (CExpr.expr at t (CForm.Text j)) ie b = absurd (nothing_in p.texts j ie.1.bytes given.no_texts ie.1.found)
    fits (CExpr.expr at t (CForm.Number n)) ie b = (built_not_pointer t (type_built (CExpr.expr at t (CForm.Number n)) b), ie.1.1)
    fits (CExpr.expr at t (CForm.Character n)) ie b = (built_not_pointer t (type_built (CExpr.expr at t (CForm.Character n)) b), omega (arith, ie.1.1))
    fits (CExpr.expr at t CForm.Null) ie b = absurd (no_pointer t CType.Void (type_built (CExpr.expr at t CForm.Null) b) ie.1)
    fits (CExpr.expr at t CForm.Eof) ie b = (built_not_pointer t (type_built (CExpr.expr at t CForm.Eof) b), tt)
    fits (CExpr.expr at t (CForm.SizeofExpression e)) ie b = (built_not_pointer t (type_built (CExpr.expr at t (CForm.SizeofExpression e)) b), small_size (type_of e) (type_is e ie.1.0))
    fits (CExpr.expr at t (CForm.SizeofType u)) ie b = (built_not_pointer t (type_built (CExpr.expr at t (CForm.SizeofType u)) b), small_size u ie.1.0)
    fits (CExpr.expr at t (CForm.Convert conversion.NumberToNumber e)) ie b =
        let be = first (every e) true (second (not (has_pointer t)) (every e && true) b) in
        (built_not_pointer t (type_built (CExpr.expr at t (CForm.Convert conversion.NumberToNumber e)) b), (refl, unconverted e ie.1.0 be ie.1.1.0, fits e ie.1.0 be))
    fits (CExpr.expr at t (CForm.Convert conversion.ArrayToPointer e)) ie b = absurd (no_pointer t ie.1.1.1 (type_built (CExpr.expr at t (CForm.Convert conversion.ArrayToPointer e)) b) ie.1.1.4)
    fits (CExpr.expr at t (CForm.Convert conversion.NullToPointer e)) ie b = absurd (not_a_pointer t (type_built (CExpr.expr at t (CForm.Convert conversion.NullToPointer e)) b) ie.1.1.1)
    fits (CExpr.expr at t (CForm.Convert conversion.PointerToPointer e)) ie b = absurd (not_a_pointer t (type_built (CExpr.expr at t (CForm.Convert conversion.PointerToPointer e)) b) ie.1.1.3)
    fits (CExpr.expr at t (CForm.Index x y)) ie b =
        let bx = first (every x) (every y && true) (second (not (has_pointer t)) (every x && (every y && true)) b) in
        absurd (no_pointer (type_of x) t (type_built x bx) ie.1.2.element.to)
    fits (CExpr.expr at t (CForm.Member e m)) ie b =
        let be = first (every e) true (second (not (has_pointer t)) (every e && true) b) in
        absurd (no_struct e ie.1.1.struct ie.1.0 (fits e ie.1.0 be) ie.1.1.of)
    fits (CExpr.expr at t (CForm.Arrow e m)) ie b =
        let be = first (every e) true (second (not (has_pointer t)) (every e && true) b) in
        absurd (no_pointer (type_of e) (CType.Struct ie.1.1.struct) (type_built e be) ie.1.1.to)
    fits (CExpr.expr at t (CForm.StepBefore o e)) ie b =
        let be = first (every e) true (second (not (has_pointer t)) (every e && true) b) in
        (built_not_pointer t (type_built (CExpr.expr at t (CForm.StepBefore o e)) b), variable e ie.1.0 (fits e ie.1.0 be) ie.1.1.assignable.place)
    fits (CExpr.expr at t (CForm.StepAfter o e)) ie b =
        let be = first (every e) true (second (not (has_pointer t)) (every e && true) b) in
        (built_not_pointer t (type_built (CExpr.expr at t (CForm.StepAfter o e)) b), variable e ie.1.0 (fits e ie.1.0 be) ie.1.1.assignable.place)
    fits (CExpr.expr at t (CForm.Unary unary.Address e)) ie b = absurd (no_pointer t (type_of e) (type_built (CExpr.expr at t (CForm.Unary unary.Address e)) b) ie.1.1.result)
    fits (CExpr.expr at t (CForm.Unary unary.Dereference e)) ie b =
        let be = first (every e) true (second (not (has_pointer t)) (every e && true) b) in
        absurd (no_pointer (type_of e) t (type_built e be) ie.1.1.to)
    fits (CExpr.expr at t (CForm.Unary o e)) ie b =
        let be = first (every e) true (second (not (has_pointer t)) (every e && true) b) in
        (built_not_pointer t (type_built (CExpr.expr at t (CForm.Unary o e)) b), (refl, fits e ie.1.0 be))
    fits (CExpr.expr at t (CForm.Binary o x y)) ie b =
        let rest = second (not (has_pointer t)) (every x && (every y && true)) b in
        (built_not_pointer t (type_built (CExpr.expr at t (CForm.Binary o x y)) b), (fits x ie.1.0 (first (every x) (every y && true) rest), fits y ie.1.1 (first (every y) true (second (every x) (every y && true) rest))))
    fits (CExpr.expr at t (CForm.Conditional q x y)) ie b =
        let r1 = second (not (has_pointer t)) (every q && (every x && (every y && true))) b in
        let r2 = second (every q) (every x && (every y && true)) r1 in
        let r3 = second (every x) (every y && true) r2 in
        (built_not_pointer t (type_built (CExpr.expr at t (CForm.Conditional q x y)) b), (fits q ie.1.0 (first (every q) _ r1), fits x ie.1.1 (first (every x) _ r2), fits y ie.1.2 (first (every y) true r3)))
    fits (CExpr.expr at t (CForm.Assign o x y)) ie b =
        let r1 = second (not (has_pointer t)) (every x && (every y && true)) b in
        let fx = fits x ie.1.0 (first (every x) (every y && true) r1) in
        (built_not_pointer t (type_built (CExpr.expr at t (CForm.Assign o x y)) b), (variable x ie.1.0 fx (assignable_of p.structs o x y t ie.1.2).place, fits y ie.1.1 (first (every y) true (second (every x) (every y && true) r1))))
    fits (CExpr.expr at t (CForm.Comma x y)) ie b =
        let rest = second (not (has_pointer t)) (every x && (every y && true)) b in
        (built_not_pointer t (type_built (CExpr.expr at t (CForm.Comma x y)) b), (fits x ie.1.0 (first (every x) (every y && true) rest), fits y ie.1.1 (first (every y) true (second (every x) (every y && true) rest))))
    fits (CExpr.expr at t (CForm.Cast e)) ie b =
        let be = first (every e) true (second (not (has_pointer t)) (every e && true) b) in
        let bt = type_built (CExpr.expr at t (CForm.Cast e)) b in
        (built_not_pointer t bt, (cast_reckoned e t bt ie.1.1.allowed, fits e ie.1.0 be))
    fits (CExpr.expr at t (CForm.Call c es)) ie b =
        let own_part = first (not (has_pointer t) && is_called c) (all_of (walked_all (λ e bs. is_built_expr e && all_of bs) es)) b in (
          built_not_pointer t (first (not (has_pointer t)) (is_called c) own_part),
          (called_fits c es t (second (not (has_pointer t)) (is_called c) own_part) ie.1.1, all_fit es ie.1.0 (second (not (has_pointer t) && is_called c) _ b)),
        )

    all_fit : (es : CExprs) → AreExprs names es → all_of (walked_all (λ e bs. is_built_expr e && all_of bs) es) ≡ true → AllFit p.structs p.functions k es
    all_fit CExprs.none ie b = tt
    all_fit (CExprs.more e es) ie b = (fits e ie.0 (first (every e) _ b), all_fit es ie.1 (second (every e) _ b))

  -- ---- Statements

  if_any : (o : Option CExpr) → IsTestedIfAny names o → over_expr_if_any built_sum o ≡ true → FitsIfAny p.structs p.functions k o
  if_any None ie b = tt
  if_any (Some e) ie b = fits e ie.0 b

  unused_if_any : (o : Option CExpr) → IsEvaluatedIfAny names o → over_expr_if_any built_sum o ≡ true → FitsIfAny p.structs p.functions k o
  unused_if_any None ie b = tt
  unused_if_any (Some e) ie b = fits e ie.0 b

  initial_fits : (t : CType) (x : CInitial) → is_number t ≡ true → IsInitialized names t x → over_initial built_sum x ≡ true → InitialFits p.structs p.functions k x
  initial_fits t (CInitial.Value e) n (by_parts h) b = (ap is_struct h.1.0 ∙ number_no_struct t n, fits e h.0 b)
  initial_fits t (CInitial.Value e) n (by_copy ie h) b = absurd (true≢false (sym h.struct ∙ number_no_struct t n))
  initial_fits t (CInitial.Text at bytes) n (by_parts h) b = absurd (true≢false (sym (ap is_array h.1.array) ∙ number_no_array t n))
  initial_fits t (CInitial.Braces at parts) n (by_parts h) b =
      absurd (true≢false (sym h.0 ∙ ap (λ z. z || is_struct t) (number_no_array t n) ∙ number_no_struct t n))

  initializer_fits : (t : CType) (o : Option CInitializer) → is_number t ≡ true → MayInitialize names t o → over_initializer built_sum o ≡ true → InitializerFits p.structs p.functions k o
  initializer_fits t None n h b = tt
  initializer_fits t (Some i) n h b = initial_fits t i.value n h b

  declaration_fits : (d : CDeclaration) → IsDeclaration names d → over_declaration built_sum d ≡ true → DeclarationFits p.structs p.functions k d
  declaration_fits d ie b = let known = given.known d.local ie.type ie.found in (known.0, initializer_fits ie.type d.initializer known.1 ie.initialized b)

  declarations_fit : (ds : List CDeclaration) → AreDeclarations names ds → over_declarations built_sum ds ≡ true → DeclarationsFit p.structs p.functions k ds
  declarations_fit [] ie b = tt
  declarations_fit (d ∷ ds) ie b = (declaration_fits d ie.0 (first (over_declaration built_sum d) _ b), declarations_fit ds ie.1 (second (over_declaration built_sum d) _ b))

  start_fits : (x : CStart) → IsStart names x → over_start built_sum x ≡ true → StartFits p.structs p.functions k x
  start_fits CStart.Nothing ie b = tt
  start_fits (CStart.Eval e) ie b = fits e ie.0 b
  start_fits (CStart.Declare ds) ie b = declarations_fit ds ie b

  mutual
    stmt_fits : (l : Bool) (x : CStmt) → IsStmt names l x → is_built_stmt x ≡ true → StmtFits p.structs p.functions k (gives f.result) l x
    stmt_fits l (CStmt.Block at xs) ie b = stmts_fit l xs ie b
    stmt_fits l (CStmt.Declare d) ie b = declaration_fits d ie b
    stmt_fits l (CStmt.Empty at) ie b = tt
    stmt_fits l (CStmt.Eval at e) ie b = fits e ie.0 b
    stmt_fits l (CStmt.If at q x) ie b = (fits q ie.0.0 (first (every q) _ b), stmt_fits l x ie.1 (second (every q) _ b))
    stmt_fits l (CStmt.IfElse at q x y) ie b =
        let r = second (every q) _ b in
        (fits q ie.0.0 (first (every q) _ b), stmt_fits l x ie.1 (first (is_built_stmt x) _ r), stmt_fits l y ie.2 (second (is_built_stmt x) _ r))
    stmt_fits l (CStmt.While at q x) ie b = (fits q ie.0.0 (first (every q) _ b), stmt_fits true x ie.1 (second (every q) _ b))
    stmt_fits l (CStmt.Do at x q) ie b = (stmt_fits true x ie.0 (first (is_built_stmt x) _ b), fits q ie.1.0 (second (is_built_stmt x) _ b))
    stmt_fits l (CStmt.For at start q step x) ie b =
        let r1 = second (over_start built_sum start) _ b in
        let r2 = second (over_expr_if_any built_sum q) _ r1 in
        (start_fits start ie.0 (first (over_start built_sum start) _ b), if_any q ie.1 (first (over_expr_if_any built_sum q) _ r1), unused_if_any step ie.2 (first (over_expr_if_any built_sum step) _ r2), stmt_fits true x ie.3 (second (over_expr_if_any built_sum step) _ r2))
    stmt_fits l (CStmt.Break at) ie b = ie
    stmt_fits l (CStmt.Continue at) ie b = ie
    stmt_fits l (CStmt.Return at None) ie b = ap gives ie.1
    stmt_fits l (CStmt.Return at (Some e)) ie b = (scalar_given f.result ie.1.1, fits e ie.0 b)

    stmts_fit : (l : Bool) (xs : CStmts) → AreStmts names l xs → over_stmts built_sum xs ≡ true → StmtsFit p.structs p.functions k (gives f.result) l xs
    stmts_fit l CStmts.none ie b = tt
    stmts_fit l (CStmts.more x xs) ie b = (stmt_fits l x ie.0 (first (is_built_stmt x) _ b), stmts_fit l xs ie.1 (second (is_built_stmt x) _ b))

-- ---- Functions and programs

built_function : (fs : List CFunction) → are_built_functions fs ≡ true → (i : ℕ) (f : CFunction) → slice_get fs i ≡ Some f → is_built_function f ≡ true
built_function [] h i f e = absurd (nothing_in [] i f refl e)
built_function (x ∷ xs) h zero f e = subst (λ z. is_built_function z ≡ true) (same e) (and_parts (is_built_function x) (are_built_functions xs) h).0
  where
    from_some : CFunction → Option CFunction → CFunction
    from_some d None = d
    from_some d (Some y) = y

    same : {y : CFunction} → Some x ≡ Some y → x ≡ y
    same e = ap (from_some x) e
built_function (x ∷ xs) h (suc i) f e = built_function xs (and_parts (is_built_function x) (are_built_functions xs) h).1 i f e

all_results : (p : CProgram) (fs : List CFunction) → All (IsFunction p) fs → All (λ q. IsResult q.result) (map prototype_of fs)
all_results p [] all = All-nil (λ q. IsResult q.result)
all_results p (f ∷ fs) all =
    All-cons (λ q. IsResult q.result) (prototype_of f) (map prototype_of fs) (All-head (IsFunction p) f fs all).result (all_results p fs (All-tail (IsFunction p) f fs all))

pub from_typed : (p : CProgram) → TypesAreSmall → AggregatesHaveObjects → Typed p → is_built p ≡ true → ProgramFits p
from_typed p small objects typed built =
    let b3 = and_parts (is_empty p.globals && is_empty p.texts && are_built_structs p.structs) (are_built_functions p.functions) built in
    let b2 = and_parts (is_empty p.globals && is_empty p.texts) (are_built_structs p.structs) b3.0 in
    let b1 = and_parts (is_empty p.globals) (is_empty p.texts) b2.0 in
    record {
      each = λ i f e. of i f e (all_get (IsFunction p) p.functions i f typed.functions e) (built_function p.functions b3.1 i f e) (empty_is p.globals b1.0) (empty_is p.texts b1.1);
      main = (typed.main.function, typed.main.found, sym typed.main.params);
    }
  where
    of : (i : ℕ) (f : CFunction) → slice_get p.functions i ≡ Some f → IsFunction p f → is_built_function f ≡ true → p.globals ≡ [] → p.texts ≡ [] → FunctionFits p.structs p.functions f
    of i f e is b no_globals no_texts =
        let b2 = and_parts (not (has_pointer f.result) && are_built_locals f.locals) (is_built_stmt f.body) b in
        let b1 = and_parts (not (has_pointer f.result)) (are_built_locals f.locals) b2.0 in
        let setting : Setting p f = record {
          small = small;
          objects = objects;
          structs = typed.structs;
          no_globals = no_globals;
          no_texts = no_texts;
          results = all_results p p.functions typed.functions;
          params = λ j h found. (all_get (IsFunction p) p.functions j h typed.functions found).params_within;
          known = λ j t found.
              let image = found_image (λ l. l.ty) f.locals j t found in
              let l = image.0 in
              let kept = built_local f.locals b1.1 j l image.1 in
              let object = is.locals j l image.1 in
              (slice_get_within f.locals j l image.1, ap is_number (sym image.2) ∙ kept_number p.structs l.ty (stmt_refers j f.body) object.complete (sym kept.0 ∙ object.is_block) kept.1);
        } in
        record {
          params = is.params_within;
          kept = λ j l found. let kept = built_local f.locals b1.1 j l found in (kept.0, built_not_pointer l.ty kept.1);
          result = built_not_pointer f.result b1.0;
          body = stmt_fits p f setting false f.body is.body b2.1;
        }
