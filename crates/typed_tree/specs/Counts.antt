-- How much of a function counts against the limits: nodes, values and temporaries.
use Rattle.std.specs.Prelude.{ℕ, suc, ◌+◌, max, sum, if◌then◌else◌, List, [], ◌∷◌, length, drop}
use Rattle.typed_tree.specs.TypedTree.{CExpr, CForm, CInitial, CStmt, CLocal, CFunction, CProgram}
use Rattle.typed_tree.specs.Walk.{walked, over_stmt}

-- An expression is one node, and its operands have theirs. A conversion is none, and the operand of `sizeof` has none.
abbrev pub own_nodes : CExpr → List ℕ → ℕ
own_nodes (CExpr.expr at t (CForm.Convert c e)) operands = sum operands
own_nodes (CExpr.expr at t (CForm.SizeofExpression e)) operands = 1
own_nodes (CExpr.expr at t _) operands = 1 + sum operands

-- The nodes of an expression: one for each name, constant, string, operator, call, cast and `sizeof`. Called names and
-- conversions are none, and the operand of `sizeof` has none.
abbrev pub nodes_of : CExpr → ℕ
nodes_of e = walked own_nodes e

-- A string that initializes an array of char is one node, and one more for each of its bytes. Braces are none.
abbrev pub nodes_of_string : CInitial → ℕ
nodes_of_string (CInitial.Text at bytes) = 1 + length bytes
nodes_of_string (CInitial.Value e) = 0
nodes_of_string (CInitial.Braces at parts) = 0

-- The nodes of a statement: one for itself, and those of its parts. A declared name is one.
abbrev pub nodes_of_stmt : CStmt → ℕ
nodes_of_stmt x = over_stmt (record {
  nothing = 0;
  both = λ m n. m + n;
  expr = nodes_of;
  initial = nodes_of_string;
  declaration = λ d. 1;
  statement = λ s. 1;
}) x

-- the nodes of a function: one for the definition, one for each parameter, and those of the body
abbrev pub nodes_of_function : CFunction → ℕ
nodes_of_function f = 1 + f.params + nodes_of_stmt f.body

abbrev pub nodes_of_functions : List CFunction → ℕ
nodes_of_functions [] = 0
nodes_of_functions (f ∷ fs) = nodes_of_function f + nodes_of_functions fs

-- the nodes of all function bodies of a program
abbrev pub nodes_of_program : CProgram → ℕ
nodes_of_program p = nodes_of_functions p.functions

-- the greatest of i and the first of these numbers, i + 1 and the next, and so on
abbrev pub greatest_from : ℕ → List ℕ → ℕ
greatest_from i [] = 0
greatest_from i (n ∷ ns) = max (i + n) (greatest_from (suc i) ns)

-- 4 without operands, else the greatest of i - 1 and what the i-th operand has, for each i from 1 on
abbrev pub temps_with : List ℕ → ℕ
temps_with [] = 4
temps_with (n ∷ ns) = max n (greatest_from 1 ns)

-- A `sizeof` counts as having no operands.
abbrev pub own_temps : CExpr → List ℕ → ℕ
own_temps (CExpr.expr at t (CForm.SizeofExpression e)) operands = 4
own_temps (CExpr.expr at t _) operands = temps_with operands

-- The temporaries of an expression. The operands of a call are its arguments.
abbrev pub temps_of : CExpr → ℕ
temps_of e = walked own_temps e

-- a string that initializes an array is an expression without operands
abbrev pub temps_of_string : CInitial → ℕ
temps_of_string (CInitial.Text at bytes) = 4
temps_of_string (CInitial.Value e) = 0
temps_of_string (CInitial.Braces at parts) = 0

-- the greatest temporaries of the expressions of a statement; 0 where there is none
abbrev pub temps_of_stmt : CStmt → ℕ
temps_of_stmt x = over_stmt (record {
  nothing = 0;
  both = max;
  expr = temps_of;
  initial = temps_of_string;
  declaration = λ d. 0;
  statement = λ s. 0;
}) x

-- how many of these locals are no block locals
abbrev pub value_locals : List CLocal → ℕ
value_locals [] = 0
value_locals (l ∷ ls) = (if l.is_block then 0 else 1) + value_locals ls

-- the values of a function: its parameters, block locals too, its other value locals, and the greatest temporaries
abbrev pub values_of : CFunction → ℕ
values_of f = f.params + value_locals (drop f.params f.locals) + temps_of_stmt f.body
