-- The relation of acceptance, and the functions that type: they say the same.
use Rattle.std.specs.Prelude.{ℕ, ◌≡◌, Bool, Some, None, Ok, Err, List, [], ◌∷◌, ◌++◌, codes}
use Rattle.syntax_tree.specs.Syntax.{ExpressionTree, ExpressionTrees, TypeNameTree, InitializerTree, StructDefinitionTree}
use Rattle.syntax_tree.specs.Syntax.{InitDeclaratorTree, StatementTree, BlockItemTree, ExternalTree, UnitTree}
use Rattle.syntax_tree.specs.SyntaxViews.{listed, listed_items}
use Rattle.syntax_in_range.specs.InRange.{InRange}
use Rattle.typed_tree.specs.Types.{CType}
use Rattle.typed_tree.specs.TypedTree.{CExpr, CInitial, CDeclaration, CStmt, CProgram}
use Rattle.typed_tree.specs.Typed.{Typed}
use Rattle.typing_operators.specs.declared.error.TypeError.{TypeError}
use Rattle.typing_operators.specs.declared.error.TypeError.TheVariants.{Unknown, NoMain}
use Rattle.typing_expressions.specs.Names.{found}
use Rattle.typing_expressions.specs.Scene.{CScene, CDeclared}
use Rattle.typing_expressions.specs.Expressions.{typed, typed_all, type_named}
use Rattle.typing_declarations.specs.Structs.{struct_defined}
use Rattle.typing_expressions.specs.Initializers.{initialized}
use Rattle.typing_statements.specs.Statements.{CAround, local, locals, statement, item, items}
use Rattle.typing_unit_keeps.specs.Units.{CDefinitions, CFile, definitions, empty_file, declared, all_declared, external, undefined, typed_unit}
use Rattle.typing_accepted.specs.AcceptanceExpressions.{Accepts, AcceptsAll, NamesType}
use Rattle.typing_accepted.specs.AcceptanceDeclarators.{DefinesStruct, IsInitializedBy}
use Rattle.typing_accepted.specs.AcceptanceStatements.{DeclareLocals, AcceptsStatement, AcceptsItems}
use Rattle.typing_accepted.specs.AcceptanceFiles.{DeclareAll, AcceptsExternal, AcceptsExternals, AreDefined, AcceptsUnit}

-- each follows from the other
pub record BothWays (P Q : Type 0) : Type 0 where
  pub forward : P → Q
  pub backward : Q → P

abbrev pub ExpressionsAreTyped : Type 0
ExpressionsAreTyped = (s : CScene) (e : ExpressionTree) (v : CExpr) (u : CScene) → BothWays (Accepts s e v u) (typed s e ≡ Ok (v, u))

abbrev pub ArgumentsAreTyped : Type 0
ArgumentsAreTyped = (s : CScene) (es : ExpressionTrees) (vs : List CExpr) (u : CScene) → BothWays (AcceptsAll s es vs u) (typed_all [] s es ≡ Ok (vs, u))

abbrev pub TypeNamesAreTyped : Type 0
TypeNamesAreTyped = (s : CScene) (n : TypeNameTree) (t : CType) (u : CScene) → BothWays (NamesType s n t u) (type_named s n ≡ Ok (t, u))

abbrev pub StructsAreTyped : Type 0
StructsAreTyped = (s : CScene) (d : StructDefinitionTree) (k : ℕ) (u : CScene) → BothWays (DefinesStruct s d k u) (struct_defined s d ≡ Ok (k, u))

-- the line is that of a refusal alone
abbrev pub InitializersAreTyped : Type 0
InitializersAreTyped = (is_global : Bool) (s : CScene) (line : ℕ) (t : CType) (i : InitializerTree) (v : CInitial) (u : CScene) →
    BothWays (IsInitializedBy is_global s t i v u) (initialized is_global s line t i ≡ Ok (v, u))

abbrev pub StatementsAreTyped : Type 0
StatementsAreTyped = (a : CAround) (s : CScene) (x : StatementTree) (y : CStmt) (u : CScene)
    → BothWays (AcceptsStatement a s x y u) (statement a s x ≡ Ok (y, u))

abbrev pub ExternalsAreTyped : Type 0
ExternalsAreTyped = (numbers : CDefinitions) (f : CFile) (e : ExternalTree) (g : CFile)
    → BothWays (AcceptsExternal numbers f e g) (external numbers f e ≡ Ok g)

-- A file is accepted as a program exactly where typing gives that program.
abbrev pub AcceptedIsTyped : Type 0
AcceptedIsTyped = (u : UnitTree) (p : CProgram) → BothWays (AcceptsUnit u p) (typed_unit u ≡ Ok p)

-- A file is accepted as one program, though the rules have no order.
abbrev pub AcceptedAsOne : Type 0
AcceptedAsOne = (u : UnitTree) (p q : CProgram) → AcceptsUnit u p → AcceptsUnit u q → p ≡ q

-- The program of an accepted file whose literals are those of their types keeps every rule of typing.
abbrev pub AcceptedKeepsRules : Type 0
AcceptedKeepsRules = (u : UnitTree) (p : CProgram) → InRange u → AcceptsUnit u p → Typed p

-- Where a list is refused: all before one of it is accepted, as `before` says, and that one is refused, as `fails` says.
-- What follows says nothing.
pub record FailsAtFirst {X A : Type 0} (before : List X → A → Type 0) (fails : A → X → Type 0) (list : List X) : Type 0 where
  pub front : List X
  pub next : X
  pub rest : List X
  pub parts : list ≡ front ++ next ∷ rest
  pub state : A
  pub accepted : before front state
  pub refused : fails state next

abbrev pub ArgumentsFailAtFirst : Type 0
ArgumentsFailAtFirst = (s : CScene) (es : List ExpressionTree) (e : TypeError) →
    BothWays (typed_all [] s (listed es) ≡ Err e)
    (FailsAtFirst (λ front u. (vs : List CExpr) × AcceptsAll s (listed front) vs u) (λ u next. typed u next ≡ Err e) es)

abbrev pub ItemsFailAtFirst : Type 0
ItemsFailAtFirst = (a : CAround) (s : CScene) (xs : List BlockItemTree) (e : TypeError) →
    BothWays (items a [] s (listed_items xs) ≡ Err e)
    (FailsAtFirst (λ front u. (ys : List CStmt) × AcceptsItems a s (listed_items front) ys u) (λ u next. item a [] u next ≡ Err e) xs)

-- the declarators of a declaration in a block, and of one of the file
abbrev pub LocalsFailAtFirst : Type 0
LocalsFailAtFirst = (base : CType) (s : CScene) (ds : List InitDeclaratorTree) (e : TypeError) →
    BothWays (locals [] s base ds ≡ Err e)
    (FailsAtFirst (λ front u. (vs : List CDeclaration) × DeclareLocals base s front vs u) (λ u next. local u base next ≡ Err e) ds)

abbrev pub DeclaratorsFailAtFirst : Type 0
DeclaratorsFailAtFirst = (numbers : CDefinitions) (base : CType) (f : CFile) (ds : List InitDeclaratorTree) (e : TypeError) →
    BothWays (all_declared numbers f base ds ≡ Err e)
    (FailsAtFirst (λ front g. DeclareAll numbers base f front g) (λ g next. declared numbers g base next ≡ Err e) ds)

-- Where a file is refused: at the first of its declarations that is; or behind them all, for the first function that is
-- called and not defined; or, if there is none, for want of `main`.
pub data IsRefusedWith (u : UnitTree) (e : TypeError) : Type 0 where
  in_text : FailsAtFirst (AcceptsExternals (definitions [] u.externals) empty_file)
      (λ f next. external (definitions [] u.externals) f next ≡ Err e) u.externals → IsRefusedWith u e
  not_defined : {f : CFile} {g : CDeclared}
      → AcceptsExternals (definitions [] u.externals) empty_file u.externals f → undefined f.scene.functions f.scene.called ≡ Some g
      → e ≡ Unknown g.line g.name → IsRefusedWith u e
  no_main : {f : CFile}
      → AcceptsExternals (definitions [] u.externals) empty_file u.externals f → AreDefined f.scene
      → found (codes "main") (definitions [] u.externals) ≡ None → e ≡ NoMain → IsRefusedWith u e

abbrev pub FilesFailAtFirst : Type 0
FilesFailAtFirst = (u : UnitTree) (e : TypeError) → BothWays (typed_unit u ≡ Err e) (IsRefusedWith u e)
