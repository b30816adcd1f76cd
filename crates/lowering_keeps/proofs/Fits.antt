-- Expressions and statements of numbers, as the code of each form wants them.
use Rattle.std.specs.Prelude.{◌≡◌, ℕ, ◌+◌, ◌<◌, ◌≤◌, Bool, true, false, IsTrue, List, [], ◌∷◌, length, Option, Some, None, slice_get}
use Rattle.c_words.specs.declared.operators.UnaryOperator.{UnaryOperator}
use Rattle.c_words.specs.declared.operators.UnaryOperator.TheVariants as unary
use Rattle.typed_tree.specs.declared.typed_expr.Called.{Called}
use Rattle.typed_tree.specs.declared.typed_expr.Called.TheVariants.{Defined, Library}
use Rattle.typed_tree.specs.declared.typed_expr.Conversion.{Conversion}
use Rattle.typed_tree.specs.declared.typed_expr.Conversion.TheVariants as conversion
use Rattle.typed_tree.specs.Types.{CType, is_number, is_pointer, is_struct}
use Rattle.typed_tree.specs.Sizes.{size_of}
use Rattle.typed_tree.specs.TypedTree.{CExpr, CForm, CExprs, CInitial, CInitializer, CDeclaration, CStart, CStmt, CStmts, CLocal, CFunction, CProgram, CStruct, type_of, form_of}
use Rattle.mid_code.specs.Kinds.{signature_of}
use Rattle.lowering_counts.specs.Built.{is_of_numbers}

-- a number or void
abbrev pub is_reckoned : CType → Bool
is_reckoned CType.Void = true
is_reckoned CType.Char = true
is_reckoned CType.Int = true
is_reckoned CType.Unsigned = true
is_reckoned (CType.Struct k) = false
is_reckoned (CType.Pointer t) = false
is_reckoned (CType.Array t n) = false

-- whether an expression is no conversion
abbrev pub is_unconverted : CExpr → Bool
is_unconverted (CExpr.expr at t (CForm.Convert c e)) = false
is_unconverted (CExpr.expr at t _) = true

abbrev pub is_of_two_numbers : Conversion → Bool
is_of_two_numbers conversion.NumberToNumber = true
is_of_two_numbers conversion.ArrayToPointer = false
is_of_two_numbers conversion.NullToPointer = false
is_of_two_numbers conversion.PointerToPointer = false

abbrev pub is_for_numbers : UnaryOperator → Bool
is_for_numbers unary.Address = false
is_for_numbers unary.Dereference = false
is_for_numbers unary.Plus = true
is_for_numbers unary.Minus = true
is_for_numbers unary.Complement = true
is_for_numbers unary.Not = true

-- how many arguments
abbrev pub count_of : CExprs → ℕ
count_of CExprs.none = 0
count_of (CExprs.more e es) = 1 + count_of es

-- the function of this number has so many parameters
abbrev pub Takes : List CFunction → (f n : ℕ) → Type 0
Takes fs f n = (h : CFunction) × (slice_get fs f ≡ Some h) × (n ≡ h.params)

abbrev pub FitsCalled : List CFunction → Called → (n : ℕ) → Type 0
FitsCalled fs (Defined f) n = Takes fs f n
FitsCalled fs (Library f) n = IsTrue (is_of_numbers f) × (n ≡ length (signature_of f).params)

-- in a function with k locals
module _ (structs : List CStruct) (functions : List CFunction) (k : ℕ) where
  -- a local that is a number
  pub record IsVariable (e : CExpr) : Type 0 where
    pub local : ℕ
    pub form : form_of e ≡ CForm.Local local
    pub within : local < k
    pub number : is_number (type_of e) ≡ true

  abbrev mutual
    pub Fits : CExpr → Type 0
    Fits (CExpr.expr at t form) = (is_pointer t ≡ false) × FormFits t form

    pub FormFits : CType → CForm → Type 0
    FormFits t (CForm.Local j) = j < k
    FormFits t (CForm.Number n) = n < 4294967296
    FormFits t (CForm.Character n) = n < 4294967296
    FormFits t CForm.Eof = Unit {0}
    FormFits t (CForm.SizeofExpression e) = size_of structs (type_of e) < 4294967296
    FormFits t (CForm.SizeofType u) = size_of structs u < 4294967296
    FormFits t (CForm.Convert c e) = (is_of_two_numbers c ≡ true) × (is_unconverted e ≡ true) × Fits e
    FormFits t (CForm.Cast e) = (is_reckoned t ≡ true) × Fits e
    FormFits t (CForm.Unary o e) = (is_for_numbers o ≡ true) × Fits e
    FormFits t (CForm.Binary o a b) = Fits a × Fits b
    FormFits t (CForm.Conditional q a b) = Fits q × Fits a × Fits b
    FormFits t (CForm.Comma a b) = Fits a × Fits b
    FormFits t (CForm.Assign o a b) = IsVariable a × Fits b
    FormFits t (CForm.StepBefore o e) = IsVariable e
    FormFits t (CForm.StepAfter o e) = IsVariable e
    FormFits t (CForm.Call f es) = FitsCalled functions f (count_of es) × AllFit es
    FormFits t (CForm.Global n) = ⊥
    FormFits t (CForm.Text n) = ⊥
    FormFits t CForm.Null = ⊥
    FormFits t (CForm.Index a b) = ⊥
    FormFits t (CForm.Member e m) = ⊥
    FormFits t (CForm.Arrow e m) = ⊥

    pub AllFit : CExprs → Type 0
    AllFit CExprs.none = Unit {0}
    AllFit (CExprs.more e es) = Fits e × AllFit es

  abbrev pub FitsIfAny : Option CExpr → Type 0
  FitsIfAny None = Unit {0}
  FitsIfAny (Some e) = Fits e

  abbrev pub InitialFits : CInitial → Type 0
  InitialFits (CInitial.Value e) = (is_struct (type_of e) ≡ false) × Fits e
  InitialFits (CInitial.Text at bytes) = ⊥
  InitialFits (CInitial.Braces at parts) = ⊥

  abbrev pub InitializerFits : Option CInitializer → Type 0
  InitializerFits None = Unit {0}
  InitializerFits (Some i) = InitialFits i.value

  abbrev pub DeclarationFits : CDeclaration → Type 0
  DeclarationFits d = (d.local < k) × InitializerFits d.initializer

  abbrev pub DeclarationsFit : List CDeclaration → Type 0
  DeclarationsFit [] = Unit {0}
  DeclarationsFit (d ∷ ds) = DeclarationFits d × DeclarationsFit ds

  abbrev pub StartFits : CStart → Type 0
  StartFits CStart.Nothing = Unit {0}
  StartFits (CStart.Eval e) = Fits e
  StartFits (CStart.Declare ds) = DeclarationsFit ds

  -- in a function that gives a value or not, in a loop or not
  abbrev mutual
    pub StmtFits : (gives in_loop : Bool) → CStmt → Type 0
    StmtFits g l (CStmt.Block at xs) = StmtsFit g l xs
    StmtFits g l (CStmt.Declare d) = DeclarationFits d
    StmtFits g l (CStmt.Empty at) = Unit {0}
    StmtFits g l (CStmt.Eval at e) = Fits e
    StmtFits g l (CStmt.If at q x) = Fits q × StmtFits g l x
    StmtFits g l (CStmt.IfElse at q x y) = Fits q × StmtFits g l x × StmtFits g l y
    StmtFits g l (CStmt.While at q x) = Fits q × StmtFits g true x
    StmtFits g l (CStmt.Do at x q) = StmtFits g true x × Fits q
    StmtFits g l (CStmt.For at start q step x) = StartFits start × FitsIfAny q × FitsIfAny step × StmtFits g true x
    StmtFits g l (CStmt.Break at) = l ≡ true
    StmtFits g l (CStmt.Continue at) = l ≡ true
    StmtFits g l (CStmt.Return at None) = g ≡ false
    StmtFits g l (CStmt.Return at (Some e)) = (g ≡ true) × Fits e

    pub StmtsFit : (gives in_loop : Bool) → CStmts → Type 0
    StmtsFit g l CStmts.none = Unit {0}
    StmtsFit g l (CStmts.more x xs) = StmtFits g l x × StmtsFit g l xs

-- whether a function gives a value
abbrev pub gives : CType → Bool
gives CType.Void = false
gives t = true

pub record FunctionFits (structs : List CStruct) (functions : List CFunction) (f : CFunction) : Type 0 where
  pub params : f.params ≤ length f.locals
  pub kept : (j : ℕ) (l : CLocal) → slice_get f.locals j ≡ Some l → (l.is_block ≡ false) × (is_pointer l.ty ≡ false)
  pub result : is_pointer f.result ≡ false
  pub body : StmtFits structs functions (length f.locals) (gives f.result) false f.body

-- what is wanted of a program
pub record ProgramFits (p : CProgram) : Type 0 where
  pub each : (i : ℕ) (f : CFunction) → slice_get p.functions i ≡ Some f → FunctionFits p.structs p.functions f
  pub main : Takes p.functions p.main 0
