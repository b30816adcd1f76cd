-- From the typed tree to mid code: the code of expressions (C11 6.5), statements (6.8), functions and programs. What is built
-- are programs of numbers: local j of a function is value j of its code.
use Rattle.std.specs.Prelude.{ℕ, min, ◌+◌, Bool, true, false, List, [], ◌∷◌, length, map, Option, Some, None}
use Rattle.bb_words.specs.Answers.{either}
use Rattle.bb_words.specs.declared.steps.ArithOp.{ArithOp}
use Rattle.bb_words.specs.declared.steps.ArithOp.TheVariants as arith
use Rattle.bb_words.specs.declared.steps.DivideOp.{DivideOp}
use Rattle.bb_words.specs.declared.steps.DivideOp.TheVariants as divide
use Rattle.block_layout.specs.Objects.{globals_of, block_items}
use Rattle.c_words.specs.declared.operators.UnaryOperator.{UnaryOperator}
use Rattle.c_words.specs.declared.operators.UnaryOperator.TheVariants as unary
use Rattle.c_words.specs.declared.operators.StepOperator.{StepOperator}
use Rattle.c_words.specs.declared.operators.StepOperator.TheVariants.{Increment, Decrement}
use Rattle.c_words.specs.declared.operators.BinaryOperator.{BinaryOperator}
use Rattle.c_words.specs.declared.operators.BinaryOperator.TheVariants as op
use Rattle.c_words.specs.declared.operators.AssignOperator.{AssignOperator}
use Rattle.c_words.specs.declared.operators.AssignOperator.TheVariants as assign
use Rattle.typed_tree.specs.declared.typed_expr.Called.{Called}
use Rattle.typed_tree.specs.declared.typed_expr.Called.TheVariants as called
use Rattle.typed_tree.specs.Types.{CType, is_unsigned}
use Rattle.typed_tree.specs.Sizes.{size_of}
use Rattle.typed_tree.specs.Counts.{values_of}
use Rattle.typed_tree.specs.TypedTree.{CExpr, CForm, CExprs, CInitial, CInitializer, CDeclaration, CStart, CStmt, CStmts, CStruct, CFunction, CProgram, type_of}
use Rattle.source_meaning.specs.Operators.{binary_of, is_shift}
use Rattle.mid_code.specs.Code.{Step, Steps, Function, Program, append}

abbrev pub only : Step → Steps
only x = Steps.step x Steps.stop

-- ---- Operators

abbrev pub chosen : (is_unsigned : Bool) → ArithOp → ArithOp → ArithOp
chosen true a b = a
chosen false a b = b

abbrev pub chosen_division : (is_unsigned : Bool) → DivideOp → DivideOp → DivideOp
chosen_division true a b = a
chosen_division false a b = b

-- 6.5.5 to 6.5.12: an operator on two numbers of one type, or, for a shift, of the left one's
abbrev pub operation : BinaryOperator → (is_unsigned : Bool) → (line to left right : ℕ) → Step
operation op.Multiply u line t a b = Step.Arith t arith.Mul a b
operation op.Divide u line t a b = Step.Divide t (chosen_division u divide.Divu divide.Div) a b line
operation op.Remainder u line t a b = Step.Divide t (chosen_division u divide.Remu divide.Rem) a b line
operation op.Add u line t a b = Step.Arith t arith.Add a b
operation op.Subtract u line t a b = Step.Arith t arith.Sub a b
operation op.ShiftLeft u line t a b = Step.Arith t arith.Shl a b
operation op.ShiftRight u line t a b = Step.Arith t (chosen u arith.Shr arith.Sar) a b
operation op.Less u line t a b = Step.Arith t (chosen u arith.Ltu arith.Lts) a b
operation op.Greater u line t a b = Step.Arith t (chosen u arith.Ltu arith.Lts) b a
operation op.LessEqual u line t a b = Step.Arith t (chosen u arith.AtMostUnsigned arith.AtMostSigned) a b
operation op.GreaterEqual u line t a b = Step.Arith t (chosen u arith.AtMostUnsigned arith.AtMostSigned) b a
operation op.Equal u line t a b = Step.Arith t arith.Equal a b
operation op.NotEqual u line t a b = Step.Arith t arith.Unequal a b
operation op.BitAnd u line t a b = Step.Arith t arith.And a b
operation op.BitXor u line t a b = Step.Arith t arith.Xor a b
operation op.BitOr u line t a b = Step.Arith t arith.Or a b
operation op.LogicalAnd u line t a b = Step.Number t 0
operation op.LogicalOr u line t a b = Step.Number t 0

-- 6.3.1.3: value t is given to a type; a char takes its low 8 bits
abbrev pub fitting : CType → (t : ℕ) → Steps
fitting CType.Char t = Steps.step (Step.Number (t + 1) 255) (only (Step.Arith t arith.And t (t + 1)))
fitting CType.Void t = Steps.stop
fitting CType.Int t = Steps.stop
fitting CType.Unsigned t = Steps.stop
fitting (CType.Struct k) t = Steps.stop
fitting (CType.Pointer u) t = Steps.stop
fitting (CType.Array u n) t = Steps.stop

-- 6.5.4: value t is cast to a type
abbrev pub casting : CType → (t : ℕ) → Steps
casting CType.Void t = only (Step.Number t 0)
casting u t = fitting u t

-- 1 where value t is not 0, else 0
abbrev pub flagged : (t : ℕ) → Step
flagged t = Step.If t (only (Step.Number t 1)) (only (Step.Number t 0))

abbrev pub one_operand : UnaryOperator → (t : ℕ) → Steps
one_operand unary.Plus t = Steps.stop
one_operand unary.Minus t = Steps.step (Step.Number (t + 1) 0) (only (Step.Arith t arith.Sub (t + 1) t))
one_operand unary.Complement t = Steps.step (Step.Number (t + 1) 4294967295) (only (Step.Arith t arith.Sub (t + 1) t))
one_operand unary.Not t = only (Step.If t (only (Step.Number t 0)) (only (Step.Number t 1)))
one_operand unary.Address t = Steps.stop
one_operand unary.Dereference t = Steps.stop

abbrev pub one_step : StepOperator → ArithOp
one_step Increment = arith.Add
one_step Decrement = arith.Sub

-- Value t becomes value x; value a, t or the next one, becomes that after the step, and then x does.
abbrev pub stepping : StepOperator → CType → (x t a : ℕ) → Steps
stepping o u x t a =
    Steps.step (Step.Same t x) (Steps.step (Step.Number (t + 1) 1) (Steps.step (Step.Arith a (one_step o) t (t + 1))
    (append (fitting u a) (only (Step.Same x a)))))

-- 6.5.16.2: value x is read after the right operand, which is value t + 1
abbrev pub compound : AssignOperator → (line : ℕ) → (left right : CType) → (x t : ℕ) → Steps
compound o line u w x t =
    Steps.step (Step.Same t x) (Steps.step (operation (binary_of o) (is_unsigned (either (is_shift o) u w)) line t t (t + 1))
    (append (casting u t) (only (Step.Same x t))))

-- 6.5.13, 6.5.14: The second operand of `&&` and `||` becomes value t too, where it decides; that of any other operator
-- the next value.
abbrev pub second_at : BinaryOperator → (t : ℕ) → ℕ
second_at op.LogicalAnd t = t
second_at op.LogicalOr t = t
second_at o t = t + 1

-- an operator whose first operand is value t, and whose second operand has this code
abbrev pub binary_steps : BinaryOperator → (is_unsigned : Bool) → (line t : ℕ) → (second : Steps) → Steps
binary_steps op.LogicalAnd u line t y = only (Step.If t (append y (only (flagged t))) (only (Step.Number t 0)))
binary_steps op.LogicalOr u line t y = only (Step.If t (only (Step.Number t 1)) (append y (only (flagged t))))
binary_steps o u line t y = append y (only (operation o u line t t (t + 1)))

-- 6.5.16: the right side of an assignment becomes value t, that of a compound assignment the next value
abbrev pub right_at : AssignOperator → (t : ℕ) → ℕ
right_at assign.Assign t = t
right_at o t = t + 1

-- an assignment to value x, whose right side is a value
abbrev pub assign_steps : AssignOperator → (line : ℕ) → (left right : CType) → (x t : ℕ) → Steps
assign_steps assign.Assign line u w x t = only (Step.Same x t)
assign_steps o line u w x t = compound o line u w x t

-- a size, which no typed program has above 1,048,576
abbrev pub word_size : List CStruct → CType → ℕ
word_size structs t = min (size_of structs t) 4294967295

-- ---- Expressions

-- the local that an expression names
abbrev pub local_of_form : CForm → ℕ
local_of_form (CForm.Local j) = j
local_of_form form = 0

abbrev pub local_of : CExpr → ℕ
local_of (CExpr.expr at u form) = local_of_form form

-- the values that hold the arguments of a call, from value t on
abbrev pub places : CExprs → (t : ℕ) → List ℕ
places CExprs.none t = []
places (CExprs.more e es) t = t ∷ places es (t + 1)

-- a call, once its arguments are values
abbrev pub calling : Called → (line t : ℕ) → List ℕ → Step
calling (called.Defined f) line t args = Step.Call t f args
calling (called.Library f) line t args = Step.Library t f args line None None

-- leaves a turn of a loop where value t is 0
abbrev pub leaving : (t : ℕ) → Step
leaving t = Step.If t Steps.stop (only (Step.Exit 1))

module _ (structs : List CStruct) where
  abbrev mutual
    -- The code that sets value t to an expression's value. It uses no other values than those from t on, and the locals.
    pub code : CExpr → (t : ℕ) → Steps
    code (CExpr.expr at u form) t = form_code form at.line u t

    pub form_code : CForm → (line : ℕ) → CType → (t : ℕ) → Steps
    form_code (CForm.Local j) line u t = only (Step.Same t j)
    form_code (CForm.Number n) line u t = only (Step.Number t n)
    form_code (CForm.Character n) line u t = only (Step.Number t n)
    form_code CForm.Eof line u t = only (Step.Number t 4294967295)
    form_code (CForm.SizeofExpression e) line u t = only (Step.Number t (word_size structs (type_of e)))
    form_code (CForm.SizeofType w) line u t = only (Step.Number t (word_size structs w))
    form_code (CForm.Convert c e) line u t = append (code e t) (fitting u t)
    form_code (CForm.Cast e) line u t = append (code e t) (casting u t)
    form_code (CForm.Unary o e) line u t = append (code e t) (one_operand o t)
    form_code (CForm.Binary o a b) line u t =
        append (code a t) (binary_steps o (is_unsigned (type_of a)) line t (code b (second_at o t)))
    form_code (CForm.Conditional q a b) line u t = append (code q t) (only (Step.If t (code a t) (code b t)))
    form_code (CForm.Comma a b) line u t = append (code a t) (code b t)
    form_code (CForm.Assign o a b) line u t =
        append (code b (right_at o t)) (assign_steps o line (type_of a) (type_of b) (local_of a) t)
    form_code (CForm.StepBefore o e) line u t = stepping o u (local_of e) t t
    form_code (CForm.StepAfter o e) line u t = stepping o u (local_of e) t (t + 1)
    form_code (CForm.Call f es) line u t = append (all_code es t) (only (calling f line t (places es t)))
    -- not built
    form_code (CForm.Global k) line u t = Steps.stop
    form_code (CForm.Text k) line u t = Steps.stop
    form_code CForm.Null line u t = Steps.stop
    form_code (CForm.Index a b) line u t = Steps.stop
    form_code (CForm.Member e m) line u t = Steps.stop
    form_code (CForm.Arrow e m) line u t = Steps.stop

    -- the values from t on become those of arguments
    pub all_code : CExprs → (t : ℕ) → Steps
    all_code CExprs.none t = Steps.stop
    all_code (CExprs.more e es) t = append (code e t) (all_code es (t + 1))

  abbrev pub code_if_any : Option CExpr → (t : ℕ) → Steps
  code_if_any None t = Steps.stop
  code_if_any (Some e) t = code e t

  -- ---- Statements, in a function whose locals are the values below k

  abbrev pub test_code : Option CExpr → (k : ℕ) → Steps
  test_code None k = Steps.stop
  test_code (Some q) k = append (code q k) (only (leaving k))

  -- a local gets the value of its initializer
  abbrev pub initial_code : CInitial → (local k : ℕ) → Steps
  initial_code (CInitial.Value e) j k = append (code e k) (only (Step.Same j k))
  initial_code (CInitial.Text at bytes) j k = Steps.stop
  initial_code (CInitial.Braces at parts) j k = Steps.stop

  abbrev pub initializer_code : Option CInitializer → (local k : ℕ) → Steps
  initializer_code None j k = Steps.stop
  initializer_code (Some i) j k = initial_code i.value j k

  abbrev pub declaration_code : CDeclaration → (k : ℕ) → Steps
  declaration_code d k = initializer_code d.initializer d.local k

  abbrev pub declarations_code : List CDeclaration → (k : ℕ) → Steps
  declarations_code [] k = Steps.stop
  declarations_code (d ∷ ds) k = append (declaration_code d k) (declarations_code ds k)

  abbrev pub start_code : CStart → (k : ℕ) → Steps
  start_code CStart.Nothing k = Steps.stop
  start_code (CStart.Eval e) k = code e k
  start_code (CStart.Declare ds) k = declarations_code ds k

  abbrev pub return_code : Option CExpr → (back k : ℕ) → Steps
  return_code None back k = only (Step.Exit back)
  return_code (Some e) back k = append (code e k) (only (Step.Return k))

  abbrev mutual
    -- The code of a statement with `back` Blocks and Loops around it: `return` without a value leaves them all. Loops alone
    -- make Blocks, each around its body, so that `continue` leaves one of the two and `break` both.
    pub stmt_code : CStmt → (back k : ℕ) → Steps
    stmt_code (CStmt.Block at xs) back k = Steps.step (Step.LineMark at.line) (stmts_code xs back k)
    stmt_code (CStmt.Declare d) back k = declaration_code d k
    stmt_code (CStmt.Empty at) back k = only (Step.LineMark at.line)
    stmt_code (CStmt.Eval at e) back k = Steps.step (Step.LineMark at.line) (code e k)
    stmt_code (CStmt.If at q x) back k =
        Steps.step (Step.LineMark at.line) (append (code q k) (only (Step.If k (stmt_code x back k) Steps.stop)))
    stmt_code (CStmt.IfElse at q x y) back k =
        Steps.step (Step.LineMark at.line) (append (code q k) (only (Step.If k (stmt_code x back k) (stmt_code y back k))))
    stmt_code (CStmt.While at q x) back k =
        Steps.step (Step.LineMark at.line) (only (Step.Loop
        (append (code q k) (Steps.step (leaving k) (only (Step.Block (stmt_code x (back + 2) k)))))))
    stmt_code (CStmt.Do at x q) back k =
        Steps.step (Step.LineMark at.line) (only (Step.Loop
        (Steps.step (Step.Block (stmt_code x (back + 2) k)) (append (code q k) (only (leaving k))))))
    stmt_code (CStmt.For at start q step x) back k =
        Steps.step (Step.LineMark at.line) (append (start_code start k) (only (Step.Loop
        (append (test_code q k) (Steps.step (Step.Block (stmt_code x (back + 2) k)) (code_if_any step k))))))
    stmt_code (CStmt.Break at) back k = Steps.step (Step.LineMark at.line) (only (Step.Exit 2))
    stmt_code (CStmt.Continue at) back k = Steps.step (Step.LineMark at.line) (only (Step.Exit 1))
    stmt_code (CStmt.Return at e) back k = Steps.step (Step.LineMark at.line) (return_code e back k)

    pub stmts_code : CStmts → (back k : ℕ) → Steps
    stmts_code CStmts.none back k = Steps.stop
    stmts_code (CStmts.more x xs) back k = append (stmt_code x back k) (stmts_code xs back k)

  -- the body lies in a Block, which `return` without a value leaves
  abbrev pub function_code : CFunction → Function
  function_code f = record {
    line = f.line;
    values = values_of f;
    params = f.params;
    blocks = block_items f;
    body = only (Step.Block (stmt_code f.body 1 (length f.locals)));
  }

-- the code of a program
abbrev pub lowered : CProgram → Program
lowered p = record {
  named = length p.globals;
  globals = globals_of p;
  functions = map (function_code p.structs) p.functions;
  main = p.main;
}
