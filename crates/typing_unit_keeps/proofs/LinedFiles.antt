-- Each line of the typed program of a file in range is one of its text.
use Rattle.std.proofs.Common.{◌≡◌, ℕ, Bool, true, false, ◌&&◌, List, [], ◌∷◌, subst}
use Rattle.std.specs.Prelude.{Option, Some, None, Ok, IfOk, is_some, codes}
use Rattle.std.specs.List.{AllByRecursion}
use Rattle.std.proofs.lemmas.List.Elements.{All-from_recursion}
use Rattle.c_words.specs.declared.place.At.{At}
use Rattle.syntax_tree.specs.Syntax.{DeclaratorTree, InitializerTree, InitDeclaratorTree, BlockTree, ExternalTree, UnitTree}
use Rattle.syntax_tree.specs.GrammarDeclarations.{declarator_at}
use Rattle.typed_tree.specs.Types.{CType}
use Rattle.typed_tree.specs.TypedTree.{CFunction, CProgram}
use Rattle.typed_tree.specs.Typed.{is_line, stmt_on_lines, HasLines}
use Rattle.typing_operators.specs.declared.error.TypeError.TheVariants.{Twice}
use Rattle.typing_expressions.specs.Names.{found}
use Rattle.typing_expressions.specs.Scene.{CScene}
use Rattle.typing_expressions.specs.Parts.{CParam, CPart, is_incomplete, has_function, lacks_size}
use Rattle.typing_expressions.specs.Expressions.{in_library}
use Rattle.typing_declarations.specs.Declarators.{declarator_steps, declared_name, completed, has_many_params}
use Rattle.typing_expressions.specs.Initializers.{initialized}
use Rattle.typing_statements.specs.Statements.{block}
use Rattle.syntax_in_range.specs.InRange.{BlockInRange, DeclaratorInRange, ExternalInRange, InRange}
use Rattle.typing_unit_keeps.specs.Units.{CFile, CDefinitions, definitions, is_main, object_is_taken, function_is_taken, file_type, with_object, initialized_global, declared_object, function_type, declared_function, declared_by, declared, all_declared, begun, defined_function, no_function, defined_by, defined, headed, external, externals, undefined, all_defined, main_or_none, empty_file, finished_file, typed_unit}
use Rattle.typing_unit_keeps.proofs.LinedRules.{Yields, gives, fails, unless, and_then, anything, OnLine, both}
use Rattle.typing_unit_keeps.proofs.LinedExpressions.{on_line, behind}
use Rattle.typing_unit_keeps.proofs.LinedStatements.{declarator_place, block_lined}

-- a function's line, and those in it
abbrev LinedFunction : CFunction → Type 0
LinedFunction f = is_line f.line && stmt_on_lines f.body ≡ true

abbrev LinedFile : CFile → Type 0
LinedFile f = AllByRecursion LinedFunction f.functions

-- a type with a file
abbrev FileBehind : CType × CFile → Type 0
FileBehind x = LinedFile x.1

-- ---- declarations

global_lined : (f : CFile) (s : CScene) (line : ℕ) (x : List ℕ) (t : CType) (o : Option InitializerTree) → LinedFile f → Yields LinedFile (initialized_global f s line x t o)
global_lined f s line x t None h = gives LinedFile _ h
global_lined f s line x t (Some i) h = and_then (initialized true s line t i) _ (anything _) (λ v k. gives LinedFile _ h)

object_lined : (f : CFile) (at : At) (x : List ℕ) (base : CType) (ps : List CPart) (o : Option InitializerTree) → LinedFile f → Yields LinedFile (declared_object f at x base ps o)
object_lined f at x base ps o h =
    unless (object_is_taken f.scene x) (Twice at.line x) _
    (and_then (file_type f.scene.structs at.line (is_main x) base (completed base o ps)) _ (anything _) (λ t k. global_lined f (with_object f x t) at.line x t o h))

function_lined : (numbers : CDefinitions) (f : CFile) (at : At) (x : List ℕ) (base : CType) (params : List CParam) (ps : List CPart) (defines initializes : Bool)
    → LinedFile f → Yields FileBehind (declared_function numbers f at x base params ps defines initializes)
function_lined numbers f at x base params ps defines initializes h =
    unless (function_is_taken f.scene defines (found x f.scene.names) (is_some (in_library x))) (Twice at.line x) _
    (and_then (function_type f at.line x base params ps defines initializes) _ (anything _) (λ t k. gives FileBehind _ h))

declared_by_lined : (numbers : CDefinitions) (f : CFile) (at : At) (x : List ℕ) (base : CType) (o : Option InitializerTree) (ps : List CPart) → LinedFile f
    → Yields LinedFile (declared_by numbers f at x base o ps)
declared_by_lined numbers f at x base o (CPart.Function params ∷ ps) h =
    and_then (declared_function numbers f at x base params ps false (is_some o)) _ (function_lined numbers f at x base params ps false (is_some o) h) (λ y k. gives LinedFile y.1 k)
declared_by_lined numbers f at x base o [] h = object_lined f at x base [] o h
declared_by_lined numbers f at x base o (CPart.Pointer ∷ ps) h = object_lined f at x base (CPart.Pointer ∷ ps) o h
declared_by_lined numbers f at x base o (CPart.Array n ∷ ps) h = object_lined f at x base (CPart.Array n ∷ ps) o h
declared_by_lined numbers f at x base o (CPart.Unsized ∷ ps) h = object_lined f at x base (CPart.Unsized ∷ ps) o h

declared_lined : (numbers : CDefinitions) (f : CFile) (base : CType) (d : InitDeclaratorTree) → LinedFile f → Yields LinedFile (declared numbers f base d)
declared_lined numbers f base d h =
    and_then (declarator_steps [] f.scene d.declarator) _ (anything _)
    (λ ps k. declared_by_lined numbers (record f { scene = ps.1 }) (declarator_at d.declarator) (declared_name d.declarator) base d.initializer ps.0 h)

all_declared_lined : (numbers : CDefinitions) (f : CFile) (base : CType) (ds : List InitDeclaratorTree) → LinedFile f → Yields LinedFile (all_declared numbers f base ds)
all_declared_lined numbers f base [] h = gives LinedFile f h
all_declared_lined numbers f base (d ∷ ds) h = and_then (declared numbers f base d) _ (declared_lined numbers f base d h) (λ g k. all_declared_lined numbers g base ds k)

-- ---- functions

body_lined : (f : CFile) (at : At) (x : List ℕ) (t : CType) (params : List CParam) (body : BlockTree) → OnLine at → BlockInRange body → LinedFile f
    → Yields LinedFile (defined_function f at x t params body)
body_lined f at x t params body p b h =
    and_then (block (record { result = t; in_loop = false }) (begun f.scene params) body) _ (block_lined (record { result = t; in_loop = false }) (begun f.scene params) body b)
    (λ y k. gives LinedFile _ (behind LinedFunction f.functions (_ ∷ []) h (both p k, tt)))

no_function_fails : (f : CFile) (at : At) (x : List ℕ) (base : CType) (ps : List CPart) → Yields LinedFile (no_function f at x base ps)
no_function_fails f at x base ps =
    unless (object_is_taken f.scene x) _ _
    (unless (has_many_params ps) _ _
    (unless (is_incomplete f.scene.structs true base ps) _ _ (unless (has_function ps) _ _ (unless (lacks_size ps) _ _ (fails LinedFile _)))))

defined_by_lined : (numbers : CDefinitions) (f : CFile) (at : At) (x : List ℕ) (base : CType) (body : BlockTree) (ps : List CPart) → OnLine at → BlockInRange body → LinedFile f
    → Yields LinedFile (defined_by numbers f at x base body ps)
defined_by_lined numbers f at x base body (CPart.Function params ∷ ps) p b h =
    and_then (declared_function numbers f at x base params ps true false) _ (function_lined numbers f at x base params ps true false h)
    (λ y k. body_lined y.1 at x y.0 params body p b k)
defined_by_lined numbers f at x base body [] p b h = no_function_fails f at x base []
defined_by_lined numbers f at x base body (CPart.Pointer ∷ ps) p b h = no_function_fails f at x base (CPart.Pointer ∷ ps)
defined_by_lined numbers f at x base body (CPart.Array n ∷ ps) p b h = no_function_fails f at x base (CPart.Array n ∷ ps)
defined_by_lined numbers f at x base body (CPart.Unsized ∷ ps) p b h = no_function_fails f at x base (CPart.Unsized ∷ ps)

defined_lined : (numbers : CDefinitions) (f : CFile) (base : CType) (d : DeclaratorTree) (body : BlockTree) → DeclaratorInRange d → BlockInRange body → LinedFile f
    → Yields LinedFile (defined numbers f base d body)
defined_lined numbers f base d body r b h =
    and_then (declarator_steps [] f.scene d) _ (anything _)
    (λ ps k. defined_by_lined numbers (record f { scene = ps.1 }) (declarator_at d) (declared_name d) base body ps.0 (on_line (declarator_at d) (declarator_place d r)) b h)

-- ---- files

external_lined : (numbers : CDefinitions) (f : CFile) (e : ExternalTree) → ExternalInRange e → LinedFile f → Yields LinedFile (external numbers f e)
external_lined numbers f (ExternalTree.Declaration at head ds) r h =
    and_then (headed f.scene head) _ (anything _) (λ b k. all_declared_lined numbers (record f { scene = b.1 }) b.0 ds h)
external_lined numbers f (ExternalTree.Function at head d body) r h =
    and_then (headed f.scene head) _ (anything _) (λ b k. defined_lined numbers (record f { scene = b.1 }) b.0 d body r.2 r.3 h)

externals_lined : (numbers : CDefinitions) (f : CFile) (es : List ExternalTree) → AllByRecursion ExternalInRange es → LinedFile f → Yields LinedFile (externals numbers f es)
externals_lined numbers f [] r h = gives LinedFile f h
externals_lined numbers f (e ∷ es) r h = and_then (external numbers f e) _ (external_lined numbers f e r.0 h) (λ g k. externals_lined numbers g es r.1 k)

finished_lined : (numbers : CDefinitions) (f : CFile) → LinedFile f → Yields HasLines (finished_file numbers f)
finished_lined numbers f h =
    and_then (all_defined (undefined f.scene.functions f.scene.called)) _ (anything _)
    (λ u k. and_then (main_or_none (found (codes "main") numbers)) _ (anything _) (λ main l. gives HasLines _ (All-from_recursion LinedFunction f.functions h)))

pub unit_lined : (u : UnitTree) → InRange u → Yields HasLines (typed_unit u)
unit_lined u r =
    and_then (externals (definitions [] u.externals) empty_file u.externals) _ (externals_lined (definitions [] u.externals) empty_file u.externals r.1 tt)
    (λ f k. finished_lined (definitions [] u.externals) f k)

-- The program of an accepted file has lines of the text.
pub has_lines : (u : UnitTree) (p : CProgram) → InRange u → typed_unit u ≡ Ok p → HasLines p
has_lines u p r e = subst (λ x. IfOk x HasLines) e (unit_lined u r).each
