-- Which expressions the language accepts, and what they are then (C11 6.5): one rule a form. Names are resolved, brackets
-- are gone, operands are accepted from left to right, each in what the ones before have declared, and become what the
-- rule of the operator asks for. Those rules are the ones that typed trees keep.
use Rattle.std.specs.Prelude.{ℕ, ◌≡◌, ◌+◌, ◌≤◌, Bool, true, if◌then◌else◌, Some}
use Rattle.std.specs.Prelude.{None, List, [], ◌∷◌, ◌++◌, length, reverse, slice_get, slice_set}
use Rattle.c_words.specs.declared.place.At.{At}
use Rattle.c_words.specs.declared.operators.UnaryOperator.{UnaryOperator}
use Rattle.c_words.specs.declared.operators.StepOperator.{StepOperator}
use Rattle.c_words.specs.declared.operators.BinaryOperator.{BinaryOperator}
use Rattle.c_words.specs.declared.operators.AssignOperator.{AssignOperator}
use Rattle.syntax_tree.specs.declared.syntax.specifiers.Specifier.{Specifier as SpecifierTree}
use Rattle.syntax_tree.specs.Syntax.{ExpressionTree, ExpressionTrees, TypeNameTree, TypeDeclaratorTree}
use Rattle.typed_tree.specs.declared.typed_expr.LibCall.{LibCall}
use Rattle.typed_tree.specs.declared.typed_expr.Called.TheVariants.{Defined, Library}
use Rattle.typed_tree.specs.Types.{CType}
use Rattle.typed_tree.specs.TypedTree.{CExpr, CForm, CExprs, CStruct}
use Rattle.typed_tree.specs.Sizes.{IsComplete, largest, members_of}
use Rattle.typed_tree.specs.TypedRules.{IsCondition, IsUnary, IsBinary, IsElement, IsMember, IsMemberBehind, IsStepped}
use Rattle.typed_tree.specs.TypedRules.{AreAlternatives, IsAssignment, AreInTurn, IsCast, IsMeasured, AreGiven, prototype_in_library}
use Rattle.typing_operators.specs.Operators.{member_named}
use Rattle.typing_expressions.specs.Names.{found}
use Rattle.typing_expressions.specs.Scene.{CScene, CLocalName, CEntry, CDeclared, local_in}
use Rattle.typing_expressions.specs.Parts.{CPart, count_of}
use Rattle.typing_expressions.specs.Expressions.{in_library, joined, based, aside, back, pointed}
use Rattle.typing_accepted.specs.AcceptanceOperands.{Becomes, BecomeAll, Makes}

-- 6.2.1 p4: no local hides what the name stands for at file scope
abbrev pub IsNoLocal : CScene → List ℕ → Type 0
IsNoLocal s x = local_in s.scopes x ≡ None

-- 6.5.2.3: the member of this name, in the struct of this number, has this number and this type
abbrev pub IsNamed : List CStruct → (struct : ℕ) → List ℕ → (member : ℕ) → CType → Type 0
IsNamed structs struct name member t = member_named name 0 (members_of (slice_get structs struct)) ≡ Some (member, t)

mutual
  -- In the scene before, the expression is accepted as a typed one, and leaves the scene behind it.
  pub data Accepts : (before : CScene) → ExpressionTree → CExpr → (behind : CScene) → Type 0 where
    -- 6.5.1 p2: a name of an object; a local of the innermost scope hides all others (6.2.1 p4)
    local : {s : CScene} {at : At} {x : List ℕ} {l : CLocalName}
        → local_in s.scopes x ≡ Some l
        → Accepts s (ExpressionTree.Name at x) (CExpr.expr at l.ty (CForm.Local l.number)) s
    global : {s : CScene} {at : At} {x : List ℕ} {n : ℕ} {t : CType}
        → IsNoLocal s x → found x s.names ≡ Some (CEntry.Object n t)
        → Accepts s (ExpressionTree.Name at x) (CExpr.expr at t (CForm.Global n)) s
    -- 6.4.4.1, 6.4.4.4: constants
    number : {s : CScene} {at : At} {n : ℕ} {is_unsigned : Bool}
        → Accepts s (ExpressionTree.Number at n is_unsigned) (CExpr.expr at (if is_unsigned then CType.Unsigned else CType.Int) (CForm.Number n)) s
    character : {s : CScene} {at : At} {n : ℕ}
        → Accepts s (ExpressionTree.Character at n) (CExpr.expr at CType.Int (CForm.Character n)) s
    -- 6.4.5 p6: a string is a new object of its bytes and a zero, and has not too many
    text : {s : CScene} {at : At} {pieces : List (List ℕ)}
        → length (joined pieces) + 1 ≤ largest
        → Accepts s (ExpressionTree.Text at pieces) (CExpr.expr at (CType.Array CType.Char (length (joined pieces) + 1)) (CForm.Text (length s.texts)))
        (record s { texts = s.texts ++ joined pieces ∷ [] })
    -- 7.19 p3, 7.21.1 p3
    null : {s : CScene} {at : At} → Accepts s (ExpressionTree.Null at) (CExpr.expr at (CType.Pointer CType.Void) CForm.Null) s
    eof : {s : CScene} {at : At} → Accepts s (ExpressionTree.Eof at) (CExpr.expr at CType.Int CForm.Eof) s
    -- 6.5.1 p5
    parenthesized : {s u : CScene} {at : At} {a : ExpressionTree} {x : CExpr}
        → Accepts s a x u
        → Accepts s (ExpressionTree.Parenthesized at a) x u
    -- 6.5.2.1
    index : {s m u : CScene} {at : At} {a b : ExpressionTree} {x y v w : CExpr} {t : CType}
        → Accepts s a x m → Accepts m b y u → Becomes x v → Becomes y w → IsElement u.structs v w t
        → Accepts s (ExpressionTree.Index at a b) (CExpr.expr at t (CForm.Index v w)) u
    -- 6.5.2.2: a call of a function that is declared, and one of a function of the library
    call : {s u : CScene} {at name_at : At} {x : List ℕ} {es : ExpressionTrees} {xs : List CExpr} {vs : CExprs} {k : ℕ} {f : CDeclared}
        → IsNoLocal s x → found x s.names ≡ Some (CEntry.Function k)
        → AcceptsAll s es xs u → slice_get u.functions k ≡ Some f → BecomeAll xs vs → AreGiven f.params vs
        → Accepts s (ExpressionTree.Call at (ExpressionTree.Name name_at x) es) (CExpr.expr at f.result (CForm.Call (Defined f.number) vs))
        (record u { called = slice_set u.called k true })
    library_call : {s u : CScene} {at name_at : At} {x : List ℕ} {es : ExpressionTrees} {xs : List CExpr} {vs : CExprs} {f : LibCall}
        → IsNoLocal s x → found x s.names ≡ None → in_library x ≡ Some f
        → AcceptsAll s es xs u → BecomeAll xs vs → AreGiven (prototype_in_library f).params vs
        → Accepts s (ExpressionTree.Call at (ExpressionTree.Name name_at x) es) (CExpr.expr at (prototype_in_library f).result (CForm.Call (Library f) vs)) u
    -- 6.5.2.3: the left operand of `.` is not converted (6.3.2.1 p2)
    member : {s u : CScene} {at : At} {a : ExpressionTree} {name : List ℕ} {x : CExpr} {m : ℕ} {t : CType}
        → Accepts s a x u → (is : IsMember u.structs x m t) → IsNamed u.structs is.struct name m t
        → Accepts s (ExpressionTree.Member at a name) (CExpr.expr at t (CForm.Member x m)) u
    arrow : {s u : CScene} {at : At} {a : ExpressionTree} {name : List ℕ} {x v : CExpr} {m : ℕ} {t : CType}
        → Accepts s a x u → Becomes x v → (is : IsMemberBehind u.structs v m t) → IsNamed u.structs is.struct name m t
        → Accepts s (ExpressionTree.Arrow at a name) (CExpr.expr at t (CForm.Arrow v m)) u
    -- 6.5.2.4, 6.5.3.1: the operand of `++` and `--` is not converted (6.3.2.1 p2)
    step_after : {s u : CScene} {at : At} {op : StepOperator} {a : ExpressionTree} {x : CExpr} {t : CType}
        → Accepts s a x u → IsStepped u.structs x t
        → Accepts s (ExpressionTree.StepAfter at a op) (CExpr.expr at t (CForm.StepAfter op x)) u
    step_before : {s u : CScene} {at : At} {op : StepOperator} {a : ExpressionTree} {x : CExpr} {t : CType}
        → Accepts s a x u → IsStepped u.structs x t
        → Accepts s (ExpressionTree.StepBefore at op a) (CExpr.expr at t (CForm.StepBefore op x)) u
    -- 6.5.3.2, 6.5.3.3
    unary : {s u : CScene} {at : At} {op : UnaryOperator} {a : ExpressionTree} {x v : CExpr} {t : CType}
        → Accepts s a x u → Becomes x v → IsUnary u.structs op v t
        → Accepts s (ExpressionTree.Unary at op a) (CExpr.expr at t (CForm.Unary op v)) u
    -- 6.5.3.4: the operand of `sizeof` is not converted (6.3.2.1 p2, p3)
    sizeof_type : {s u : CScene} {at : At} {name : TypeNameTree} {t : CType}
        → NamesType s name t u → IsComplete u.structs t
        → Accepts s (ExpressionTree.SizeofType at name) (CExpr.expr at CType.Unsigned (CForm.SizeofType t)) u
    sizeof_expression : {s u : CScene} {at : At} {a : ExpressionTree} {x : CExpr} {t : CType}
        → Accepts s a x u → IsMeasured u.structs x t
        → Accepts s (ExpressionTree.SizeofExpression at a) (CExpr.expr at t (CForm.SizeofExpression x)) u
    -- 6.5.4
    cast : {s m u : CScene} {at : At} {name : TypeNameTree} {a : ExpressionTree} {t : CType} {x v : CExpr}
        → NamesType s name t m → Accepts m a x u → Becomes x v → IsCast v t
        → Accepts s (ExpressionTree.Cast at name a) (CExpr.expr at t (CForm.Cast v)) u
    -- 6.5.5 to 6.5.14
    binary : {s m u : CScene} {at : At} {op : BinaryOperator} {a b : ExpressionTree} {x y v w : CExpr} {t : CType}
        → Accepts s a x m → Accepts m b y u → Becomes x v → Becomes y w → IsBinary u.structs op v w t
        → Accepts s (ExpressionTree.Binary at a op b) (CExpr.expr at t (CForm.Binary op v w)) u
    -- 6.5.15
    conditional : {s l m u : CScene} {at : At} {c a b : ExpressionTree} {x y z d v w : CExpr} {t : CType}
        → Accepts s c x l → Accepts l a y m → Accepts m b z u
        → Becomes x d → Becomes y v → Becomes z w → IsCondition d → AreAlternatives v w t
        → Accepts s (ExpressionTree.Conditional at c a b) (CExpr.expr at t (CForm.Conditional d v w)) u
    -- 6.5.16: the left operand of an assignment is not converted (6.3.2.1 p2)
    assign : {s m u : CScene} {at : At} {op : AssignOperator} {a b : ExpressionTree} {x y w : CExpr} {t : CType}
        → Accepts s a x m → Accepts m b y u → Becomes y w → IsAssignment u.structs op x w t
        → Accepts s (ExpressionTree.Assign at a op b) (CExpr.expr at t (CForm.Assign op x w)) u
    -- 6.5.17
    comma : {s m u : CScene} {at : At} {a b : ExpressionTree} {x y v w : CExpr} {t : CType}
        → Accepts s a x m → Accepts m b y u → Becomes x v → Becomes y w → AreInTurn v w t
        → Accepts s (ExpressionTree.Comma at a b) (CExpr.expr at t (CForm.Comma v w)) u

  -- expressions from left to right
  pub data AcceptsAll : (before : CScene) → ExpressionTrees → List CExpr → (behind : CScene) → Type 0 where
    nothing : {s : CScene} → AcceptsAll s ExpressionTrees.none [] s
    next : {s m u : CScene} {e : ExpressionTree} {es : ExpressionTrees} {x : CExpr} {xs : List CExpr}
        → Accepts s e x m → AcceptsAll m es xs u
        → AcceptsAll s (ExpressionTrees.more e es) (x ∷ xs) u

  -- 6.7.7: the type that a type name names
  pub data NamesType : (before : CScene) → TypeNameTree → CType → (behind : CScene) → Type 0 where
    type_name : {s u : CScene} {at : At} {specifier : SpecifierTree} {declarator : TypeDeclaratorTree} {ps : List CPart} {t : CType}
        → HasSteps (based s specifier).1 declarator ps u → Makes u.structs (based s specifier).0 (reverse ps) t
        → NamesType s (TypeNameTree.type_name at specifier declarator) t u

  -- 6.7.6: the steps of a type name, from where its name would stand outwards
  pub data HasSteps : (before : CScene) → TypeDeclaratorTree → List CPart → (behind : CScene) → Type 0 where
    direct : {s u : CScene} {at : At} {n : ℕ} {es : ExpressionTrees} {ps : List CPart}
        → HasSizes s es ps u
        → HasSteps s (TypeDeclaratorTree.Direct at n es) (pointed ps n) u
    nested : {s m u : CScene} {at : At} {n : ℕ} {inner : TypeDeclaratorTree} {es : ExpressionTrees} {ps qs : List CPart}
        → HasSteps s inner ps m → HasSizes m es qs u
        → HasSteps s (TypeDeclaratorTree.Nested at n inner es) (pointed (ps ++ qs) n) u

  -- 6.7.6.2: Arrays of these sizes. What stands in a size declares no objects: only its tags stay.
  pub data HasSizes : (before : CScene) → ExpressionTrees → List CPart → (behind : CScene) → Type 0 where
    no_size : {s : CScene} → HasSizes s ExpressionTrees.none [] s
    size : {s m u : CScene} {e : ExpressionTree} {es : ExpressionTrees} {x : CExpr} {ps : List CPart}
        → Accepts (aside s) e x m → HasSizes (back s m) es ps u
        → HasSizes s (ExpressionTrees.more e es) (CPart.Array (count_of m.structs x) ∷ ps) u
