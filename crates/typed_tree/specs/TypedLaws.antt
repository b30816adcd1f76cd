-- What follows from the definitions of the typed tree, and small programs by which they can be judged.
use Rattle.std.specs.Prelude.{◌≡◌, ℕ, ◌≤◌, true, false, ◌||◌, IsTrue, All, Some, None, List, [], ◌∷◌, replicate, codes}
use Rattle.c_words.specs.declared.place.At.{At}
use Rattle.c_words.specs.declared.operators.BinaryOperator.TheVariants.{Add}
use Rattle.c_words.specs.declared.operators.UnaryOperator.TheVariants.{Address}
use Rattle.typed_tree.specs.declared.typed_expr.Called.TheVariants.{Defined}
use Rattle.typed_tree.specs.Types.{CType, is_struct, is_array}
use Rattle.typed_tree.specs.TypedTree.{CExpr, CForm, CExprs, CInitial, CInitials, CStart, CStmt, CStmts, CStruct, CLocal, CFunction, CProgram, type_of}
use Rattle.typed_tree.specs.Sizes.{largest, size_of, IsType}
use Rattle.typed_tree.specs.Counts.{nodes_of, nodes_of_stmt, nodes_of_program, temps_of, values_of}
use Rattle.typed_tree.specs.TypedOperands.{has_object}
use Rattle.typed_tree.specs.TypedRules.{IsResult}
use Rattle.typed_tree.specs.TypedBody.{Environment, IsExpr}
use Rattle.typed_tree.specs.Typed.{stmt_refers, IsStruct, Typed}

-- No type has more than 1,048,576 bytes.
abbrev pub TypesAreSmall : Type 0
TypesAreSmall = (structs : List CStruct) (t : CType) → All (IsStruct structs) structs → IsType structs t → size_of structs t ≤ largest

-- A tag that is never defined has no size, and no alignment but 1.
abbrev pub UndefinedIsEmpty : Type 0
UndefinedIsEmpty = (structs : List CStruct) (s : CStruct) → IsStruct structs s → s.members ≡ [] → (s.size ≡ 0) × (s.align ≡ 1)

-- Each expression has 4 temporaries or more.
abbrev pub TempsAtLeastFour : Type 0
TempsAtLeastFour = (e : CExpr) → 4 ≤ temps_of e

-- token n of a text of one line
abbrev pub token : ℕ → At
token n = record { token = n; line = 1 }

abbrev pub number : ℕ → ℕ → CExpr
number n value = CExpr.expr (token n) CType.Int (CForm.Number value)

-- `int main(void)` with these locals and this body
abbrev pub main_function : List CLocal → CStmts → CFunction
main_function locals body = record {
  name = codes "main";
  line = 1;
  result = CType.Int;
  params = 0;
  locals = locals;
  body = CStmt.Block (token 5) body;
}

-- a program of it alone
abbrev pub main_of : List CLocal → CStmts → CProgram
main_of locals body = record { structs = []; globals = []; texts = []; functions = main_function locals body ∷ []; main = 0 }

abbrev pub return_number : ℕ → CStmts
return_number value = CStmts.more (CStmt.Return (token 6) (Some (number 7 value))) CStmts.none

-- `int main(void){return 42;}`
abbrev pub forty_two : CProgram
forty_two = main_of [] (return_number 42)

-- It is typed, and has 4 nodes: the definition, the block, `return` and 42.
abbrev pub FortyTwo : Type 0
FortyTwo = Typed forty_two × (nodes_of_program forty_two ≡ 4)

-- A `main` with so many int locals and `return 0;`.
abbrev pub many_locals : ℕ → CFunction
many_locals n = main_function (replicate n (record { name = codes "x"; ty = CType.Int; size = 4; is_block = false })) (return_number 0)

-- With 246 locals it has 250 values, with 247 one more.
abbrev pub ManyLocals : Type 0
ManyLocals = (values_of (many_locals 246) ≡ 250) × (values_of (many_locals 247) ≡ 251)

-- `struct s { char a; int b; char c[3]; struct s *d; };`
abbrev pub mixed : CStruct
mixed = record {
  tag = codes "s";
  members =
      record { name = codes "a"; ty = CType.Char; offset = 0 }
      ∷ record { name = codes "b"; ty = CType.Int; offset = 4 }
      ∷ record { name = codes "c"; ty = CType.Array CType.Char 3; offset = 8 }
      ∷ record { name = codes "d"; ty = CType.Pointer (CType.Struct 0); offset = 12 }
      ∷ [];
  size = 16;
  align = 4;
}

-- Its offsets, its size and its alignment are those of the rules, and an array of five has 80 bytes.
abbrev pub Mixed : Type 0
Mixed = IsStruct (mixed ∷ []) mixed × (size_of (mixed ∷ []) (CType.Array (CType.Struct 0) 5) ≡ 80)

-- The temporaries of `1`, `1 + 2`, `1 + (2 + 3)`, `sizeof (1 + 2)`, `f()`, `f(1, 2, 3)` and `1 ? 2 : 3`.
abbrev pub sum_of : CExpr → CExpr → CExpr
sum_of a b = CExpr.expr (token 7) CType.Int (CForm.Binary Add a b)

abbrev pub one : CExpr
one = number 7 1

abbrev pub call_with : CExprs → CExpr
call_with es = CExpr.expr (token 7) CType.Int (CForm.Call (Defined 0) es)

abbrev pub Temporaries : Type 0
Temporaries =
    (temps_of one ≡ 4) × (temps_of (sum_of one one) ≡ 5) × (temps_of (sum_of one (sum_of one one)) ≡ 6)
    × (temps_of (sum_of (sum_of one one) one) ≡ 5)
    × (temps_of (CExpr.expr (token 7) CType.Unsigned (CForm.SizeofExpression (sum_of one one))) ≡ 4)
    × (temps_of (call_with CExprs.none) ≡ 4)
    × (temps_of (call_with (CExprs.more one (CExprs.more one (CExprs.more one CExprs.none)))) ≡ 6)
    × (temps_of (CExpr.expr (token 7) CType.Int (CForm.Conditional one one one)) ≡ 6)

-- The nodes of `1 + 2`, `sizeof (1 + 2)`, `f(1, 2)`, of `char a[3] = "ab";`, `int a[2] = { 1, 2 };` and
-- `for (;;) { ; break; }`.
abbrev pub declared_as : CInitial → CStmt
declared_as x = CStmt.Declare (record { at = token 6; local = 0; initializer = Some (record { at = token 7; value = x }) })

abbrev pub Nodes : Type 0
Nodes =
    (nodes_of (sum_of one one) ≡ 3)
    × (nodes_of (CExpr.expr (token 7) CType.Unsigned (CForm.SizeofExpression (sum_of one one))) ≡ 1)
    × (nodes_of (call_with (CExprs.more one (CExprs.more one CExprs.none))) ≡ 3)
    × (nodes_of_stmt (declared_as (CInitial.Text (token 8) (codes "ab"))) ≡ 4)
    × (nodes_of_stmt (declared_as (CInitial.Braces (token 8) (CInitials.more (CInitial.Value one) (CInitials.more (CInitial.Value one) CInitials.none))))
    ≡ 3)
    × (nodes_of_stmt (CStmt.For (token 6) CStart.Nothing None None
    (CStmt.Block (token 7) (CStmts.more (CStmt.Empty (token 8)) (CStmts.more (CStmt.Break (token 9)) CStmts.none)))) ≡ 4)

-- Whether `&` is applied to local 0: in a nested expression, below `sizeof`, in an initializer, in the step of a `for`;
-- not where its value is used alone, and not to another local.
abbrev pub local : ℕ → CExpr
local k = CExpr.expr (token 7) CType.Int (CForm.Local k)

abbrev pub address : CExpr → CExpr
address e = CExpr.expr (token 6) (CType.Pointer CType.Int) (CForm.Unary Address e)

abbrev pub Referred : Type 0
Referred =
    (stmt_refers 0 (CStmt.Eval (token 5) (call_with (CExprs.more one (CExprs.more (address (local 0)) CExprs.none)))) ≡ true)
    × (stmt_refers 0 (CStmt.Eval (token 5) (CExpr.expr (token 5) CType.Unsigned (CForm.SizeofExpression (address (local 0))))) ≡ true)
    × (stmt_refers 0 (declared_as
    (CInitial.Braces (token 8) (CInitials.more (CInitial.Value one) (CInitials.more (CInitial.Value (address (local 0))) CInitials.none)))) ≡ true)
    × (stmt_refers 0 (CStmt.For (token 4) CStart.Nothing None (Some (address (local 0))) (CStmt.Empty (token 9))) ≡ true)
    × (stmt_refers 0 (CStmt.Eval (token 5) (sum_of (local 0) (local 0))) ≡ false)
    × (stmt_refers 0 (CStmt.Eval (token 5) (sum_of (local 0) (address (local 1)))) ≡ false)

-- 6.4.5 p6: a string of two bytes is an array of three, and only the program's string of its number
abbrev pub names_text : List ℕ → Environment
names_text bytes = record { structs = []; globals = []; texts = bytes ∷ []; functions = []; locals = []; result = CType.Int }

abbrev pub Strings : Type 0
Strings =
    IsExpr (names_text (codes "ab")) (CExpr.expr (token 7) (CType.Array CType.Char 3) (CForm.Text 0))
    × ¬ IsExpr (names_text (codes "ab")) (CExpr.expr (token 7) (CType.Array CType.Char 2) (CForm.Text 0))
    × ¬ IsExpr (names_text (codes "ab")) (CExpr.expr (token 7) (CType.Array CType.Char 3) (CForm.Text 1))

-- Where no function gives a struct or an array, each typed expression that is one names an object, in which its value is
-- found.
abbrev pub AggregatesHaveObjects : Type 0
AggregatesHaveObjects =
    (names : Environment) (e : CExpr) → All (λ f. IsResult f.result) names.functions → IsExpr names e
    → IsTrue (is_struct (type_of e) || is_array (type_of e)) → IsTrue (has_object e)
