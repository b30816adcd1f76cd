-- The typed tree, as contracts see it. Each type is that of the same name in the program, without memory.
use Rattle.std.specs.Prelude.{ℕ, Bool, List, Option}
use Rattle.c_words.specs.declared.place.At.{At}
use Rattle.c_words.specs.declared.operators.UnaryOperator.{UnaryOperator}
use Rattle.c_words.specs.declared.operators.StepOperator.{StepOperator}
use Rattle.c_words.specs.declared.operators.BinaryOperator.{BinaryOperator}
use Rattle.c_words.specs.declared.operators.AssignOperator.{AssignOperator}
use Rattle.typed_tree.specs.declared.typed_expr.Called.{Called}
use Rattle.typed_tree.specs.declared.typed_expr.Conversion.{Conversion}
use Rattle.typed_tree.specs.declared.typed.InitialByte.{InitialByte}
use Rattle.typed_tree.specs.Types.{CType}

mutual
  -- an expression: its place, its type, and what it is
  pub data CExpr : Type 0 where
    expr : (at : At) → (ty : CType) → (form : CForm) → CExpr

  pub data CForm : Type 0 where
    Local : (number : ℕ) → CForm
    Global : (number : ℕ) → CForm
    Text : (number : ℕ) → CForm
    Number : (value : ℕ) → CForm
    Character : (value : ℕ) → CForm
    Null : CForm
    Eof : CForm
    Convert : Conversion → CExpr → CForm
    Index : CExpr → CExpr → CForm
    Call : Called → CExprs → CForm
    Member : CExpr → (member : ℕ) → CForm
    Arrow : CExpr → (member : ℕ) → CForm
    StepBefore : StepOperator → CExpr → CForm
    StepAfter : StepOperator → CExpr → CForm
    Unary : UnaryOperator → CExpr → CForm
    Binary : BinaryOperator → CExpr → CExpr → CForm
    Conditional : CExpr → CExpr → CExpr → CForm
    Assign : AssignOperator → CExpr → CExpr → CForm
    Comma : CExpr → CExpr → CForm
    Cast : CExpr → CForm
    SizeofExpression : CExpr → CForm
    SizeofType : CType → CForm

  -- a call's arguments
  pub data CExprs : Type 0 where
    none : CExprs
    more : CExpr → CExprs → CExprs

mutual
  pub data CInitial : Type 0 where
    Value : CExpr → CInitial
    Text : At → (bytes : List ℕ) → CInitial
    Braces : At → CInitials → CInitial

  -- the parts between braces
  pub data CInitials : Type 0 where
    none : CInitials
    more : CInitial → CInitials → CInitials

pub record CInitializer : Type 0 where
  pub at : At
  pub value : CInitial

pub record CDeclaration : Type 0 where
  pub at : At
  pub local : ℕ
  pub initializer : Option CInitializer

pub data CStart : Type 0 where
  Nothing : CStart
  Eval : CExpr → CStart
  Declare : List CDeclaration → CStart

mutual
  pub data CStmt : Type 0 where
    Block : At → CStmts → CStmt
    Declare : CDeclaration → CStmt
    Empty : At → CStmt
    Eval : At → CExpr → CStmt
    If : At → (condition : CExpr) → (body : CStmt) → CStmt
    IfElse : At → (condition : CExpr) → (body otherwise : CStmt) → CStmt
    While : At → (condition : CExpr) → (body : CStmt) → CStmt
    Do : At → (body : CStmt) → (condition : CExpr) → CStmt
    For : At → (start : CStart) → (condition step : Option CExpr) → (body : CStmt) → CStmt
    Break : At → CStmt
    Continue : At → CStmt
    Return : At → Option CExpr → CStmt

  -- what stands in a block
  pub data CStmts : Type 0 where
    none : CStmts
    more : CStmt → CStmts → CStmts

pub record CMember : Type 0 where
  pub name : List ℕ
  pub ty : CType
  pub offset : ℕ

pub record CStruct : Type 0 where
  pub tag : List ℕ
  pub members : List CMember
  pub size : ℕ
  pub align : ℕ

pub record CGlobal : Type 0 where
  pub name : List ℕ
  pub ty : CType
  pub size : ℕ
  pub initial : List InitialByte

pub record CLocal : Type 0 where
  pub name : List ℕ
  pub ty : CType
  pub size : ℕ
  pub is_block : Bool

pub record CFunction : Type 0 where
  pub name : List ℕ
  pub line : ℕ
  pub result : CType
  pub params : ℕ
  pub locals : List CLocal
  pub body : CStmt

pub record CProgram : Type 0 where
  pub structs : List CStruct
  pub globals : List CGlobal
  pub texts : List (List ℕ)
  pub functions : List CFunction
  pub main : ℕ

-- The parts of an expression.

abbrev pub at_of : CExpr → At
at_of (CExpr.expr at t form) = at

abbrev pub type_of : CExpr → CType
type_of (CExpr.expr at t form) = t

abbrev pub form_of : CExpr → CForm
form_of (CExpr.expr at t form) = form
