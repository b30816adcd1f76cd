-- One walk over expressions and one over statements. What is counted or asked of a typed tree is one line each over them.
use Rattle.std.specs.Prelude.{Bool, true, false, ◌&&◌, ◌||◌, Option, Some, None, List, [], ◌∷◌}
use Rattle.typed_tree.specs.TypedTree.{CExpr, CForm, CExprs, CInitial, CInitials, CInitializer, CDeclaration, CStart, CStmt, CStmts}

-- What `step` makes of an expression and of what it made of the operands, in their order. A cast, a conversion and a
-- `sizeof` have one operand; the operands of a call are its arguments.
abbrev mutual
  pub walked : {X : Type 0} → (step : CExpr → List X → X) → CExpr → X
  walked step (CExpr.expr at t form) = step (CExpr.expr at t form) (walked_operands step form)

  pub walked_operands : {X : Type 0} → (step : CExpr → List X → X) → CForm → List X
  walked_operands step (CForm.Local n) = []
  walked_operands step (CForm.Global n) = []
  walked_operands step (CForm.Text n) = []
  walked_operands step (CForm.Number n) = []
  walked_operands step (CForm.Character n) = []
  walked_operands step CForm.Null = []
  walked_operands step CForm.Eof = []
  walked_operands step (CForm.Convert c e) = walked step e ∷ []
  walked_operands step (CForm.Index a b) = walked step a ∷ walked step b ∷ []
  walked_operands step (CForm.Call f es) = walked_all step es
  walked_operands step (CForm.Member e m) = walked step e ∷ []
  walked_operands step (CForm.Arrow e m) = walked step e ∷ []
  walked_operands step (CForm.StepBefore op e) = walked step e ∷ []
  walked_operands step (CForm.StepAfter op e) = walked step e ∷ []
  walked_operands step (CForm.Unary op e) = walked step e ∷ []
  walked_operands step (CForm.Binary op a b) = walked step a ∷ walked step b ∷ []
  walked_operands step (CForm.Conditional c a b) = walked step c ∷ walked step a ∷ walked step b ∷ []
  walked_operands step (CForm.Assign op a b) = walked step a ∷ walked step b ∷ []
  walked_operands step (CForm.Comma a b) = walked step a ∷ walked step b ∷ []
  walked_operands step (CForm.Cast e) = walked step e ∷ []
  walked_operands step (CForm.SizeofExpression e) = walked step e ∷ []
  walked_operands step (CForm.SizeofType t) = []

  pub walked_all : {X : Type 0} → (step : CExpr → List X → X) → CExprs → List X
  walked_all step CExprs.none = []
  walked_all step (CExprs.more e es) = walked step e ∷ walked_all step es

abbrev pub any_of : List Bool → Bool
any_of [] = false
any_of (b ∷ bs) = b || any_of bs

abbrev pub all_of : List Bool → Bool
all_of [] = true
all_of (b ∷ bs) = b && all_of bs

-- whether the test holds of the expression, or of one in it
abbrev pub some_expr : (CExpr → Bool) → CExpr → Bool
some_expr test e = walked (λ e bs. test e || any_of bs) e

-- whether it holds of the expression and of all in it
abbrev pub every_expr : (CExpr → Bool) → CExpr → Bool
every_expr test e = walked (λ e bs. test e && all_of bs) e

-- A sum over the parts of statements: what nothing gives, what two parts give together, and what each outermost
-- expression, each part of an initializer, each declaration and each statement gives by itself.
pub record Sum (X : Type 0) : Type 0 where
  pub nothing : X
  pub both : X → X → X
  pub expr : CExpr → X
  pub initial : CInitial → X
  pub declaration : CDeclaration → X
  pub statement : CStmt → X

module _ {X : Type 0} (sum : Sum X) where
  abbrev mutual
    pub over_initial : CInitial → X
    over_initial (CInitial.Value e) = sum.both (sum.initial (CInitial.Value e)) (sum.expr e)
    over_initial (CInitial.Text at bytes) = sum.initial (CInitial.Text at bytes)
    over_initial (CInitial.Braces at parts) = sum.both (sum.initial (CInitial.Braces at parts)) (over_initials parts)

    pub over_initials : CInitials → X
    over_initials CInitials.none = sum.nothing
    over_initials (CInitials.more x xs) = sum.both (over_initial x) (over_initials xs)

  abbrev pub over_initializer : Option CInitializer → X
  over_initializer None = sum.nothing
  over_initializer (Some i) = over_initial i.value

  abbrev pub over_declaration : CDeclaration → X
  over_declaration d = sum.both (sum.declaration d) (over_initializer d.initializer)

  abbrev pub over_declarations : List CDeclaration → X
  over_declarations [] = sum.nothing
  over_declarations (d ∷ ds) = sum.both (over_declaration d) (over_declarations ds)

  abbrev pub over_start : CStart → X
  over_start CStart.Nothing = sum.nothing
  over_start (CStart.Eval e) = sum.expr e
  over_start (CStart.Declare ds) = over_declarations ds

  abbrev pub over_expr_if_any : Option CExpr → X
  over_expr_if_any None = sum.nothing
  over_expr_if_any (Some e) = sum.expr e

  -- A declaration in a block is no statement.
  abbrev mutual
    pub over_stmt : CStmt → X
    over_stmt (CStmt.Block at xs) = sum.both (sum.statement (CStmt.Block at xs)) (over_stmts xs)
    over_stmt (CStmt.Declare d) = over_declaration d
    over_stmt (CStmt.Empty at) = sum.statement (CStmt.Empty at)
    over_stmt (CStmt.Eval at e) = sum.both (sum.statement (CStmt.Eval at e)) (sum.expr e)
    over_stmt (CStmt.If at c x) = sum.both (sum.statement (CStmt.If at c x)) (sum.both (sum.expr c) (over_stmt x))
    over_stmt (CStmt.IfElse at c x y) = sum.both (sum.statement (CStmt.IfElse at c x y)) (sum.both (sum.expr c) (sum.both (over_stmt x) (over_stmt y)))
    over_stmt (CStmt.While at c x) = sum.both (sum.statement (CStmt.While at c x)) (sum.both (sum.expr c) (over_stmt x))
    over_stmt (CStmt.Do at x c) = sum.both (sum.statement (CStmt.Do at x c)) (sum.both (over_stmt x) (sum.expr c))
    over_stmt (CStmt.For at start c step x) =
        sum.both (sum.statement (CStmt.For at start c step x))
        (sum.both (over_start start) (sum.both (over_expr_if_any c) (sum.both (over_expr_if_any step) (over_stmt x))))
    over_stmt (CStmt.Break at) = sum.statement (CStmt.Break at)
    over_stmt (CStmt.Continue at) = sum.statement (CStmt.Continue at)
    over_stmt (CStmt.Return at e) = sum.both (sum.statement (CStmt.Return at e)) (over_expr_if_any e)

    pub over_stmts : CStmts → X
    over_stmts CStmts.none = sum.nothing
    over_stmts (CStmts.more x xs) = sum.both (over_stmt x) (over_stmts xs)

-- whether the test holds of an expression in a statement
abbrev pub some_expr_in : (CExpr → Bool) → CStmt → Bool
some_expr_in test x = over_stmt (record {
  nothing = false;
  both = λ a b. a || b;
  expr = some_expr test;
  initial = λ i. false;
  declaration = λ d. false;
  statement = λ s. false;
}) x
