-- When the typed tree of a function's body keeps the rules of typing.
use Rattle.std.specs.Prelude.{◌≡◌, ℕ, suc, ◌+◌, ◌<◌, ◌^◌, All, Bool, ◌||◌, true}
use Rattle.std.specs.Prelude.{IsTrue, Option, Some, None, List, [], ◌∷◌, length, slice_get}
use Rattle.typed_tree.specs.Types.{CType, is_array, is_struct}
use Rattle.typed_tree.specs.TypedTree.{CExpr, CForm, CExprs, CInitial, CInitials, CInitializer, CDeclaration, CStart, CStmt, CStmts, CStruct}
use Rattle.typed_tree.specs.Sizes.{IsComplete, IsType}
use Rattle.typed_tree.specs.TypedOperands.{IsPlain, IsConversion, IsGiven}
use Rattle.typed_tree.specs.TypedRules.{Prototype, IsCondition, IsUnary, IsBinary, IsElement, IsMember, IsMemberBehind, IsStepped, AreAlternatives}
use Rattle.typed_tree.specs.TypedRules.{IsAssignment, AreInTurn, IsCast, IsMeasured, IsCall, IsCopied, IsFilled, part_type, IsReturned}

-- 6.4.4.1: a number is an int or an unsigned int
pub data IsLiteral (t : CType) : Type 0 where
  int : t ≡ CType.Int → IsLiteral t
  unsigned : t ≡ CType.Unsigned → IsLiteral t

-- each of these numbers is a byte
abbrev pub IsBytes : List ℕ → Type 0
IsBytes bytes = All (λ b. b < 256) bytes

-- What the names in a function stand for: the structs, the types of the global objects, the strings, the prototypes of
-- the functions, the types of the locals, and the type of the function's result.
pub record Environment : Type 0 where
  pub structs : List CStruct
  pub globals : List CType
  pub texts : List (List ℕ)
  pub functions : List Prototype
  pub locals : List CType
  pub result : CType

-- 6.4.5 p6: a string is an array of its bytes and a zero
pub record IsText (texts : List (List ℕ)) (k : ℕ) (t : CType) : Type 0 where
  pub bytes : List ℕ
  pub found : slice_get texts k ≡ Some bytes
  pub type : t ≡ CType.Array CType.Char (length bytes + 1)

module _ (names : Environment) where
  abbrev mutual
    -- An expression has a type that may be formed, and it is the one that the rule of its form gives it.
    pub IsExpr : CExpr → Type 0
    IsExpr (CExpr.expr at t form) = IsType names.structs t × IsForm t form

    pub IsForm : CType → CForm → Type 0
    IsForm t (CForm.Local k) = slice_get names.locals k ≡ Some t
    IsForm t (CForm.Global k) = slice_get names.globals k ≡ Some t
    IsForm t (CForm.Text k) = IsText names.texts k t
    IsForm t (CForm.Number n) = IsLiteral t × (n < 2 ^ 32)
    IsForm t (CForm.Character n) = (t ≡ CType.Int) × (n < 256)
    IsForm t CForm.Null = t ≡ CType.Pointer CType.Void
    IsForm t CForm.Eof = t ≡ CType.Int
    IsForm t (CForm.Convert c e) = IsExpr e × IsConversion c e t
    IsForm t (CForm.Index a b) = IsExpr a × IsExpr b × IsElement names.structs a b t
    IsForm t (CForm.Call f es) = AreExprs es × IsCall names.functions f es t
    IsForm t (CForm.Member e m) = IsExpr e × IsMember names.structs e m t
    IsForm t (CForm.Arrow e m) = IsExpr e × IsMemberBehind names.structs e m t
    IsForm t (CForm.StepBefore op e) = IsExpr e × IsStepped names.structs e t
    IsForm t (CForm.StepAfter op e) = IsExpr e × IsStepped names.structs e t
    IsForm t (CForm.Unary op e) = IsExpr e × IsUnary names.structs op e t
    IsForm t (CForm.Binary op a b) = IsExpr a × IsExpr b × IsBinary names.structs op a b t
    IsForm t (CForm.Conditional c a b) = IsExpr c × IsExpr a × IsExpr b × IsCondition c × AreAlternatives a b t
    IsForm t (CForm.Assign op a b) = IsExpr a × IsExpr b × IsAssignment names.structs op a b t
    IsForm t (CForm.Comma a b) = IsExpr a × IsExpr b × AreInTurn a b t
    IsForm t (CForm.Cast e) = IsExpr e × IsCast e t
    IsForm t (CForm.SizeofExpression e) = IsExpr e × IsMeasured names.structs e t
    IsForm t (CForm.SizeofType u) = IsType names.structs u × IsComplete names.structs u × (t ≡ CType.Unsigned)

    pub AreExprs : CExprs → Type 0
    AreExprs CExprs.none = Unit {0}
    AreExprs (CExprs.more e es) = IsExpr e × AreExprs es

  abbrev mutual
    -- 6.7.9: A scalar takes a value that is given to it; an array of char takes a string; an array and a struct take
    -- parts between braces, each for its own part in order, and no more than there are.
    pub IsInitial : CType → CInitial → Type 0
    IsInitial t (CInitial.Value e) = IsExpr e × IsGiven t e
    IsInitial t (CInitial.Text at bytes) = IsBytes bytes × IsFilled t bytes
    IsInitial t (CInitial.Braces at parts) = IsTrue (is_array t || is_struct t) × AreInitials t 0 parts

    -- for the parts from part i on
    pub AreInitials : CType → ℕ → CInitials → Type 0
    AreInitials t i CInitials.none = Unit {0}
    AreInitials t i (CInitials.more x xs) =
        ((u : CType) × (part_type names.structs t i ≡ Some u) × IsInitial u x) × AreInitials t (suc i) xs

  -- 6.7.9 p13: A declared struct as a whole may also be copied from a place.
  pub data IsInitialized (t : CType) : CInitial → Type 0 where
    parts : {x : CInitial} → IsInitial t x → IsInitialized t x
    copy : {e : CExpr} → IsExpr e → IsCopied t e → IsInitialized t (CInitial.Value e)

  abbrev pub MayInitialize : CType → Option CInitializer → Type 0
  MayInitialize t None = Unit {0}
  MayInitialize t (Some i) = IsInitialized t i.value

  -- a declaration names a local, and its initializer fits it
  pub record IsDeclaration (d : CDeclaration) : Type 0 where
    pub type : CType
    pub found : slice_get names.locals d.local ≡ Some type
    pub initialized : MayInitialize type d.initializer

  abbrev pub AreDeclarations : List CDeclaration → Type 0
  AreDeclarations [] = Unit {0}
  AreDeclarations (d ∷ ds) = IsDeclaration d × AreDeclarations ds

  -- an expression whose value is not used (6.8.3 p2)
  abbrev pub IsEvaluated : CExpr → Type 0
  IsEvaluated e = IsExpr e × IsPlain e

  abbrev pub IsEvaluatedIfAny : Option CExpr → Type 0
  IsEvaluatedIfAny None = Unit {0}
  IsEvaluatedIfAny (Some e) = IsEvaluated e

  -- the condition of a statement
  abbrev pub IsTested : CExpr → Type 0
  IsTested e = IsExpr e × IsCondition e

  abbrev pub IsTestedIfAny : Option CExpr → Type 0
  IsTestedIfAny None = Unit {0}
  IsTestedIfAny (Some e) = IsTested e

  abbrev pub IsStart : CStart → Type 0
  IsStart CStart.Nothing = Unit {0}
  IsStart (CStart.Eval e) = IsEvaluated e
  IsStart (CStart.Declare ds) = AreDeclarations ds

  abbrev pub IsExprIfAny : Option CExpr → Type 0
  IsExprIfAny None = Unit {0}
  IsExprIfAny (Some e) = IsExpr e

  abbrev mutual
    -- A statement, in a loop or not: `break` and `continue` stand in a loop (6.8.6.2, 6.8.6.3).
    pub IsStmt : Bool → CStmt → Type 0
    IsStmt in_loop (CStmt.Block at xs) = AreStmts in_loop xs
    IsStmt in_loop (CStmt.Declare d) = IsDeclaration d
    IsStmt in_loop (CStmt.Empty at) = Unit {0}
    IsStmt in_loop (CStmt.Eval at e) = IsEvaluated e
    IsStmt in_loop (CStmt.If at c x) = IsTested c × IsStmt in_loop x
    IsStmt in_loop (CStmt.IfElse at c x y) = IsTested c × IsStmt in_loop x × IsStmt in_loop y
    IsStmt in_loop (CStmt.While at c x) = IsTested c × IsStmt true x
    IsStmt in_loop (CStmt.Do at x c) = IsStmt true x × IsTested c
    IsStmt in_loop (CStmt.For at start c step x) =
        IsStart start × IsTestedIfAny c × IsEvaluatedIfAny step × IsStmt true x
    IsStmt in_loop (CStmt.Break at) = IsTrue in_loop
    IsStmt in_loop (CStmt.Continue at) = IsTrue in_loop
    IsStmt in_loop (CStmt.Return at e) = IsExprIfAny e × IsReturned names.result e

    pub AreStmts : Bool → CStmts → Type 0
    AreStmts in_loop CStmts.none = Unit {0}
    AreStmts in_loop (CStmts.more x xs) = IsStmt in_loop x × AreStmts in_loop xs
