-- The typing of expressions: the typed expression, or the refusal that comes first. Operands come in the order of the
-- text, then the rule of their operator.
use Rattle.std.specs.Prelude.{ℕ, ◌+◌, nat_lt, true, false, if◌then◌else◌, Option, Some, None, Ok, Err}
use Rattle.std.specs.Prelude.{List, [], ◌∷◌, ◌++◌, length, replicate, slice_get, slice_set, codes}
use Rattle.c_words.specs.declared.place.At.{At}
use Rattle.syntax_tree.specs.declared.syntax.specifiers.Specifier.{Specifier as SpecifierTree}
use Rattle.syntax_tree.specs.declared.syntax.specifiers.Specifier.TheVariants as words
use Rattle.syntax_tree.specs.Syntax.{ExpressionTree, ExpressionTrees, TypeNameTree, TypeDeclaratorTree}
use Rattle.typed_tree.specs.declared.typed_expr.LibCall.{LibCall}
use Rattle.typed_tree.specs.declared.typed_expr.LibCall.TheVariants.{Putchar, Getchar, Exit, Malloc, Calloc, Free, Memcpy, Memset}
use Rattle.typed_tree.specs.declared.typed_expr.Called.TheVariants.{Defined, Library}
use Rattle.typed_tree.specs.Types.{CType}
use Rattle.typed_tree.specs.TypedTree.{CExpr, CForm}
use Rattle.typed_tree.specs.TypedViews.{exprs}
use Rattle.typed_tree.specs.TypedRules.{Prototype, prototype_in_library}
use Rattle.typed_tree.specs.Sizes.{largest}
use Rattle.typing_operators.specs.declared.error.TypeError.TheVariants.{Unknown, BadType, TooLarge}
use Rattle.typing_operators.specs.Rule.{Rule, ◌>>=◌, refuse}
use Rattle.typing_operators.specs.Operators.{unary_rule, binary_rule, step_before_rule, step_after_rule, conditional_rule, comma_rule, cast_rule}
use Rattle.typing_operators.specs.Operators.{index_rule, member_rule, arrow_rule, measured_rule, measured_type, assign_rule, call_rule}
use Rattle.typing_expressions.specs.declared.calls.Callee.{Callee}
use Rattle.typing_expressions.specs.declared.calls.Callee.TheVariants as callee
use Rattle.typing_expressions.specs.Names.{found}
use Rattle.typing_expressions.specs.Scene.{CScene, CLocalName, CEntry, CDeclared, local_in}
use Rattle.typing_expressions.specs.Parts.{CPart, count_of, formed}

-- the functions of the library, by their names (7.21, 7.22, 7.24)
abbrev pub library_names : List (List ℕ × LibCall)
library_names =
    (codes "putchar", Putchar) ∷ (codes "getchar", Getchar) ∷ (codes "exit", Exit) ∷ (codes "malloc", Malloc)
    ∷ (codes "calloc", Calloc) ∷ (codes "free", Free) ∷ (codes "memcpy", Memcpy) ∷ (codes "memset", Memset) ∷ []

unfoldable pub in_library : List ℕ → Option LibCall
in_library x = found x library_names

-- 6.5.1 p2: A name names an object. A local of the innermost scope hides all others of that name (6.2.1 p4).
abbrev pub object_by : At → List ℕ → Option CLocalName → Option CEntry → Option LibCall → Rule CExpr
object_by at x (Some l) e f = Ok (CExpr.expr at l.ty (CForm.Local l.number))
object_by at x None (Some (CEntry.Object n t)) f = Ok (CExpr.expr at t (CForm.Global n))
object_by at x None (Some (CEntry.Function k)) f = Err (BadType at.line 16)
object_by at x None None (Some f) = Err (BadType at.line 16)
object_by at x None None None = Err (Unknown at.line x)

unfoldable pub object : CScene → At → List ℕ → Rule CExpr
object s at x = object_by at x (local_in s.scopes x) (found x s.names) (in_library x)

-- 6.5.2.2: what a called name names
abbrev pub callee_by : At → List ℕ → Option CLocalName → Option CEntry → Option LibCall → Rule Callee
callee_by at x (Some l) e f = Ok callee.Object
callee_by at x None (Some (CEntry.Object n t)) f = Ok callee.Object
callee_by at x None (Some (CEntry.Function k)) f = Ok (callee.Function k)
callee_by at x None None (Some f) = Ok (callee.Library f)
callee_by at x None None None = Err (Unknown at.line x)

unfoldable pub callee_named : CScene → At → List ℕ → Rule Callee
callee_named s at x = callee_by at x (local_in s.scopes x) (found x s.names) (in_library x)

-- what the called name names, if it is a name that is called
abbrev pub callee_of : CScene → ExpressionTree → Rule (Option Callee)
callee_of s (ExpressionTree.Name at x) = callee_named s at x >>= λ c. Ok (Some c)
callee_of s _ = Ok None

-- What is called and is no name is an operand, which comes before the arguments.
abbrev pub called_first : CScene → Option Callee → Rule (CExpr × CScene) → Rule CScene
called_first s None operand = operand >>= λ x. Ok x.1
called_first s (Some c) operand = Ok s

abbrev pub function_called : CScene → At → ℕ → List CExpr → Option CDeclared → Rule (CExpr × CScene)
function_called s at k es None = Err (BadType at.line 16)
function_called s at k es (Some f) =
    call_rule at (Defined f.number) f.result f.params (exprs es) >>= λ v. Ok (v, record s { called = slice_set s.called k true })

abbrev pub library_called : CScene → At → LibCall → List CExpr → Prototype → Rule (CExpr × CScene)
library_called s at f es p = call_rule at (Library f) p.result p.params (exprs es) >>= λ v. Ok (v, s)

-- 6.5.2.2 p1, p2: a call of a function with its arguments
abbrev pub called : CScene → At → Callee → List CExpr → Rule (CExpr × CScene)
called s at (callee.Function k) es = function_called s at k es (slice_get s.functions k)
called s at (callee.Library f) es = library_called s at f es (prototype_in_library f)
called s at callee.Object es = Err (BadType at.line 16)

abbrev pub called_if_named : CScene → At → Option Callee → List CExpr → Rule (CExpr × CScene)
called_if_named s at None es = Err (BadType at.line 16)
called_if_named s at (Some c) es = called s at c es

-- 5.1.1.2 p1 (6): strings that stand side by side are one
abbrev pub joined : List (List ℕ) → List ℕ
joined [] = []
joined (piece ∷ pieces) = piece ++ joined pieces

-- 6.4.5 p6: a string is an object of its bytes and a zero
unfoldable pub text : CScene → At → List ℕ → Rule (CExpr × CScene)
text s at bytes =
    refuse (nat_lt largest (length bytes + 1)) (TooLarge at.line (length bytes + 1))
    (Ok (CExpr.expr at (CType.Array CType.Char (length bytes + 1)) (CForm.Text (length s.texts)), record s { texts = s.texts ++ bytes ∷ [] }))

-- 6.7.2.3: the first mention of a tag declares it
abbrev pub tagged_by : CScene → List ℕ → Option ℕ → ℕ × CScene
tagged_by s x (Some k) = (k, s)
tagged_by s x None = (
  length s.structs,
  record s {
    structs = s.structs ++ record { tag = x; members = []; size = 0; align = 1 } ∷ [];
    tags = s.tags ++ (x, length s.structs) ∷ [];
  },
)

abbrev pub tagged : CScene → List ℕ → ℕ × CScene
tagged s x = tagged_by s x (found x s.tags)

-- 6.7.2: the type that a specifier names
abbrev pub based : CScene → SpecifierTree → CType × CScene
based s (words.Void at) = (CType.Void, s)
based s (words.Char at) = (CType.Char, s)
based s (words.Int at) = (CType.Int, s)
based s (words.Signed at) = (CType.Int, s)
based s (words.SignedInt at) = (CType.Int, s)
based s (words.Unsigned at) = (CType.Unsigned, s)
based s (words.UnsignedInt at) = (CType.Unsigned, s)
based s (words.UnsignedChar at) = (CType.Char, s)
based s (words.Struct at x) = (CType.Struct (tagged s x).0, (tagged s x).1)

-- What stands in the size of an array is no part of the typed tree: its strings are no objects, and its calls do not
-- count as calls. It is typed aside, and only its tags stay.
abbrev pub aside : CScene → CScene
aside s = record s { texts = []; called = [] }

abbrev pub back : CScene → CScene → CScene
back s u = record u { texts = s.texts; called = s.called }

-- the size that an expression gives an array, which was typed aside
abbrev pub counted_by : CScene → Rule (CExpr × CScene) → Rule (Option ℕ × CScene)
counted_by s e = e >>= λ x. Ok (count_of x.1.structs x.0, back s x.1)

-- so many pointers behind these steps
abbrev pub pointed : List CPart → ℕ → List CPart
pointed ps n = ps ++ replicate n CPart.Pointer

abbrev mutual
  pub typed : CScene → ExpressionTree → Rule (CExpr × CScene)
  typed s (ExpressionTree.Name at x) = do
    v ← object s at x
    Ok (v, s)
  typed s (ExpressionTree.Number at n u) = Ok (CExpr.expr at (if u then CType.Unsigned else CType.Int) (CForm.Number n), s)
  typed s (ExpressionTree.Character at n) = Ok (CExpr.expr at CType.Int (CForm.Character n), s)
  typed s (ExpressionTree.Text at pieces) = text s at (joined pieces)
  typed s (ExpressionTree.Null at) = Ok (CExpr.expr at (CType.Pointer CType.Void) CForm.Null, s)
  typed s (ExpressionTree.Eof at) = Ok (CExpr.expr at CType.Int CForm.Eof, s)
  typed s (ExpressionTree.Parenthesized at a) = typed s a
  typed s (ExpressionTree.Index at a i) = do
    x ← typed s a
    y ← typed x.1 i
    v ← index_rule y.1.structs at x.0 y.0
    Ok (v, y.1)
  typed s (ExpressionTree.Call at f es) = do
    c ← callee_of s f
    u ← called_first s c (typed s f)
    vs ← typed_all [] u es
    called_if_named vs.1 at c vs.0
  typed s (ExpressionTree.Member at a m) = do
    x ← typed s a
    v ← member_rule x.1.structs at x.0 m
    Ok (v, x.1)
  typed s (ExpressionTree.Arrow at a m) = do
    x ← typed s a
    v ← arrow_rule x.1.structs at x.0 m
    Ok (v, x.1)
  typed s (ExpressionTree.StepAfter at a op) = do
    x ← typed s a
    v ← step_after_rule x.1.structs at op x.0
    Ok (v, x.1)
  typed s (ExpressionTree.StepBefore at op a) = do
    x ← typed s a
    v ← step_before_rule x.1.structs at op x.0
    Ok (v, x.1)
  typed s (ExpressionTree.Unary at op a) = do
    x ← typed s a
    v ← unary_rule x.1.structs at op x.0
    Ok (v, x.1)
  typed s (ExpressionTree.SizeofType at t) = do
    u ← type_named s t
    v ← measured_type u.1.structs at u.0
    Ok (v, u.1)
  typed s (ExpressionTree.SizeofExpression at a) = do
    x ← typed s a
    v ← measured_rule x.1.structs at x.0
    Ok (v, x.1)
  typed s (ExpressionTree.Cast at t a) = do
    u ← type_named s t
    x ← typed u.1 a
    v ← cast_rule at u.0 x.0
    Ok (v, x.1)
  typed s (ExpressionTree.Binary at a op b) = do
    x ← typed s a
    y ← typed x.1 b
    v ← binary_rule y.1.structs at op x.0 y.0
    Ok (v, y.1)
  typed s (ExpressionTree.Conditional at c a b) = do
    x ← typed s c
    y ← typed x.1 a
    z ← typed y.1 b
    v ← conditional_rule at x.0 y.0 z.0
    Ok (v, z.1)
  typed s (ExpressionTree.Assign at a op b) = do
    x ← typed s a
    y ← typed x.1 b
    v ← assign_rule y.1.structs at op x.0 y.0
    Ok (v, y.1)
  typed s (ExpressionTree.Comma at a b) = do
    x ← typed s a
    y ← typed x.1 b
    Ok (comma_rule at x.0 y.0, y.1)

  -- expressions from left to right, behind those that are typed already
  pub typed_all : List CExpr → CScene → ExpressionTrees → Rule (List CExpr × CScene)
  typed_all vs s ExpressionTrees.none = Ok (vs, s)
  typed_all vs s (ExpressionTrees.more e es) = do
    x ← typed s e
    typed_all (vs ++ x.0 ∷ []) x.1 es

  -- 6.7.7: the type that a type name names
  pub type_named : CScene → TypeNameTree → Rule (CType × CScene)
  type_named s (TypeNameTree.type_name at specifier declarator) = do
    ps ← steps_of [] (based s specifier).1 declarator
    t ← formed ps.1.structs at.line false (based s specifier).0 ps.0
    Ok (t, ps.1)

  -- the steps of a type name, behind those that are read already
  pub steps_of : List CPart → CScene → TypeDeclaratorTree → Rule (List CPart × CScene)
  steps_of ps s (TypeDeclaratorTree.Direct at n es) = do
    x ← sized ps s es
    Ok (pointed x.0 n, x.1)
  steps_of ps s (TypeDeclaratorTree.Nested at n inner es) = do
    x ← steps_of ps s inner
    y ← sized x.0 x.1 es
    Ok (pointed y.0 n, y.1)

  -- the arrays of these sizes
  pub sized : List CPart → CScene → ExpressionTrees → Rule (List CPart × CScene)
  sized ps s ExpressionTrees.none = Ok (ps, s)
  sized ps s (ExpressionTrees.more e es) = do
    x ← counted_by s (typed (aside s) e)
    sized (ps ++ CPart.Array x.0 ∷ []) x.1 es

-- the size that an expression gives an array
abbrev pub counted : CScene → ExpressionTree → Rule (Option ℕ × CScene)
counted s e = counted_by s (typed (aside s) e)
