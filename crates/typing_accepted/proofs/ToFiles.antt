-- Files that are accepted are what typing gives.
use Rattle.std.proofs.Common.{◌≡◌, ℕ, ◌<◌, Bool, true, false, not, ◌&&◌, ◌||◌, List, [], ◌∷◌, ◌++◌, length, refl, sym, ap, subst, arith}
use Rattle.std.specs.Prelude.{Option, None, Ok, nat_le, nat_lt}
use Rattle.c_words.specs.declared.place.At.{At}
use Rattle.syntax_tree.specs.Syntax.{InitializerTree, DeclaratorTree, InitDeclaratorTree, BlockTree, HeadTree, ExternalTree, UnitTree}
use Rattle.syntax_tree.specs.GrammarDeclarations.{declarator_at}
use Rattle.typed_tree.specs.Types.{CType}
use Rattle.typed_tree.specs.TypedTree.{CStmt, CProgram, CStruct}
use Rattle.typing_operators.specs.Rule.{Rule}
use Rattle.typing_expressions.specs.Names.{found}
use Rattle.typing_expressions.specs.Scene.{CScene}
use Rattle.typing_expressions.specs.Parts.{CParam, CPart, has_function}
use Rattle.typing_declarations.specs.Declarators.{declared_name}
use Rattle.typing_unit_keeps.specs.Units.{CFile, CDefinitions, is_main, file_type, declared_object, gives_aggregate, param_types, is_again, breaks_main, unnamed, function_type, declared_function, declared_by, declared, all_declared, begun, ended, finished, defined_function, defined, headed, external, externals, all_defined, main_or_none, typed_unit}
use Rattle.typing_accepted.specs.AcceptanceDeclarators.{MakesObject}
use Rattle.typing_accepted.specs.AcceptanceStatements.{AcceptsBlock}
use Rattle.typing_accepted.specs.AcceptanceFiles.{DeclaresObject, IsFunction, with_it, Declares, DeclareAll, Defines, Heads, AcceptsExternal, AcceptsExternals, AcceptsUnit}
use Rattle.typing_accepted.proofs.Steps.{onward, passed, no_less}
use Rattle.typing_accepted.proofs.MadeTypes.{tests_of, object_whole}
use Rattle.typing_accepted.proofs.ToDeclarators.{to_declarator, to_struct}
use Rattle.typing_accepted.proofs.ToInitials.{to_initialized}
use Rattle.typing_accepted.proofs.ToStatements.{to_block}
use Rattle.typing_accepted.proofs.Agreement.{again_to, main_to, named_to, defined_to}

no_or : (a b : Bool) → a ≡ false → b ≡ false → a || b ≡ false
no_or true b h i = absurd cc
no_or false b h i = i

file_type_to : (structs : List CStruct) (line : ℕ) (main : Bool) (base t : CType) (ps : List CPart) → main ≡ false → MakesObject structs base ps t → file_type structs line main base ps ≡ Ok t
file_type_to structs line main base t ps other is =
    let tests = tests_of structs line true base t ps (object_whole structs base t ps is) in
    passed _ _ _ _ tests.few (passed _ _ _ _ tests.complete (passed _ _ _ _ tests.no_function (passed _ _ _ _ tests.sized (passed _ _ _ _ other tests.made))))

object_to : (f : CFile) (at : At) (x : List ℕ) (base : CType) (ps : List CPart) (i : Option InitializerTree) (g : CFile) → DeclaresObject base f x ps i g → declared_object f at x base ps i ≡ Ok g
object_to f at x base ps i g (DeclaresObject.zero free other type) =
    passed _ _ _ _ free (onward _ _ _ _ (file_type_to f.scene.structs at.line (is_main x) base _ _ other type) refl)
object_to f at x base ps i g (DeclaresObject.initialized free other type is) =
    passed _ _ _ _ free (onward _ _ _ _ (file_type_to f.scene.structs at.line (is_main x) base _ _ other type) (onward _ _ _ _ (to_initialized true _ at.line _ _ _ _ is) refl))

-- an object's declarator is no function's
function_makes_none : (structs : List CStruct) (base t : CType) (params : List CParam) (ps : List CPart) → MakesObject structs base (CPart.Function params ∷ ps) t → ⊥
function_makes_none structs base t params ps is =
    let tests = tests_of structs 0 true base t (CPart.Function params ∷ ps) (object_whole structs base t (CPart.Function params ∷ ps) is) in
    let no : true ≡ false = tests.no_function in cc

no_function_object : (f : CFile) (x : List ℕ) (base : CType) (params : List CParam) (ps : List CPart) (i : Option InitializerTree) (g : CFile) → DeclaresObject base f x (CPart.Function params ∷ ps) i g → ⊥
no_function_object f x base params ps i g (DeclaresObject.zero free other type) = function_makes_none f.scene.structs base _ params ps type
no_function_object f x base params ps i g (DeclaresObject.initialized free other type is) = function_makes_none f.scene.structs base _ params ps type

module _ (numbers : CDefinitions) where
  by_object : (f : CFile) (at : At) (x : List ℕ) (base : CType) (i : Option InitializerTree) (ps : List CPart) (g : CFile) → DeclaresObject base f x ps i g → declared_by numbers f at x base i ps ≡ Ok g
  by_object f at x base i [] g is = object_to f at x base [] i g is
  by_object f at x base i (CPart.Pointer ∷ ps) g is = object_to f at x base (CPart.Pointer ∷ ps) i g is
  by_object f at x base i (CPart.Array n ∷ ps) g is = object_to f at x base (CPart.Array n ∷ ps) i g is
  by_object f at x base i (CPart.Unsized ∷ ps) g is = object_to f at x base (CPart.Unsized ∷ ps) i g is
  by_object f at x base i (CPart.Function params ∷ ps) g is = absurd (no_function_object f x base params ps i g is)

  fewer : (defines : Bool) (n : ℕ) → (defines ≡ true → n < 1000) → defines && nat_le 1000 n ≡ false
  fewer false n few = refl
  fewer true n few = let less : n < 1000 = few refl in grind arith

  -- the last test, where the result is known
  last : (f : CFile) (x : List ℕ) (params : List CParam) (t : CType) (result : Rule CType) → result ≡ Ok t → breaks_main x (Ok t) params ≡ false → is_again f.scene.functions (found x f.scene.names) (Ok t) (param_types params) ≡ true
      → breaks_main x result params || not (is_again f.scene.functions (found x f.scene.names) result (param_types params)) ≡ false
  last f x params t result is main again =
      no_or _ _ (subst (λ r. breaks_main x r params ≡ false) (sym is) main)
      (subst (λ r. not (is_again f.scene.functions (found x f.scene.names) r (param_types params)) ≡ false) (sym is) (ap not again))

  function_type_to : (f : CFile) (line : ℕ) (x : List ℕ) (base : CType) (params : List CParam) (ps : List CPart) (defines : Bool) (t : CType) → IsFunction f x base params ps defines t
      → function_type f line x base params ps defines false ≡ Ok t
  function_type_to f line x base params ps defines t is =
      let tests = tests_of f.scene.structs line false base t ps (record { made = is.result; complete = λ h. absurd cc }) in
      passed _ _ _ _ (no_or (nat_lt 8 (length params)) _ (no_less 8 (length params) is.few_params) tests.few)
      (passed _ _ _ _ (fewer defines (length f.functions) is.few_functions)
      (passed _ _ _ _ tests.complete
      (passed _ _ _ _ (no_or (has_function ps || gives_aggregate base ps) _ (no_or (has_function ps) _ tests.no_function is.no_aggregate) is.no_structs)
      (passed _ _ _ _ tests.sized
      (passed _ _ _ _ (last f x params t _ tests.made (main_to x t params is.main) (again_to _ _ t _ is.again))
      (named_to defines (unnamed params) _ t tests.made is.named))))))

  function_to : (f : CFile) (at : At) (x : List ℕ) (base : CType) (params : List CParam) (ps : List CPart) (defines : Bool) (t : CType) → IsFunction f x base params ps defines t
      → declared_function numbers f at x base params ps defines false ≡ Ok (t, with_it numbers f at x t params defines)
  function_to f at x base params ps defines t is = passed _ _ _ _ is.free (onward _ _ _ _ (function_type_to f at.line x base params ps defines t is) refl)

  by_function : (f : CFile) (at : At) (x : List ℕ) (base : CType) (i : Option InitializerTree) (params : List CParam) (ps : List CPart) (t : CType) → i ≡ None → IsFunction f x base params ps false t
      → declared_by numbers f at x base i (CPart.Function params ∷ ps) ≡ Ok (with_it numbers f at x t params false)
  by_function f at x base i params ps t none is = rw none (onward _ _ _ _ (function_to f at x base params ps false t is) refl)

  to_declared : (base : CType) (f : CFile) (d : InitDeclaratorTree) (g : CFile) → Declares numbers base f d g → declared numbers f base d ≡ Ok g
  to_declared base f d g (Declares.object steps is) = onward _ _ _ _ (to_declarator _ _ _ _ [] steps) (by_object _ (declarator_at d.declarator) _ base d.initializer _ g is)
  to_declared base f d g (Declares.function steps none is) = onward _ _ _ _ (to_declarator _ _ _ _ [] steps) (by_function _ (declarator_at d.declarator) _ base d.initializer _ _ _ none is)

  pub to_all_declared : (base : CType) (f : CFile) (ds : List InitDeclaratorTree) (g : CFile) → DeclareAll numbers base f ds g → all_declared numbers f base ds ≡ Ok g
  to_all_declared base f ds g DeclareAll.nothing = refl
  to_all_declared base f ds g (DeclareAll.next one more) = onward _ _ _ _ (to_declared base _ _ _ one) (to_all_declared base _ _ _ more)

  to_defined : (base : CType) (f : CFile) (d : DeclaratorTree) (body : BlockTree) (g : CFile) → Defines numbers base f d body g → defined numbers f base d body ≡ Ok g
  to_defined base f d body g (Defines.function steps is same block) =
      onward _ _ _ _ (to_declarator _ _ _ _ [] steps)
      (onward _ _ _ _ (function_to _ (declarator_at d) (declared_name d) base _ _ true _ is)
      (body_to _ _ (declarator_at d) (declared_name d) _ _ body _ _ same block))
    where
      body_to : (g h : CFile) (at : At) (x : List ℕ) (t : CType) (params : List CParam) (body : BlockTree) (y : CStmt) (w : CScene) → g ≡ h → AcceptsBlock (record { result = t; in_loop = false }) (begun g.scene params) body y w
          → defined_function h at x t params body ≡ Ok (record g {
            scene = ended w;
            functions = g.functions ++ record { name = x; line = at.line; result = t; params = length params; locals = finished w.structs y 0 w.locals; body = y } ∷ [];
          })
      body_to g h at x t params body y w same block = rw (sym same) (onward _ _ _ _ (to_block _ _ body y w block) refl)

  to_headed : (s : CScene) (head : HeadTree) (base : CType) (u : CScene) → Heads s head base u → headed s head ≡ Ok (base, u)
  to_headed s head base u Heads.specifier = refl
  to_headed s head base u (Heads.struct is) = onward _ _ _ _ (to_struct s _ _ u is) refl

  pub to_external : (f : CFile) (e : ExternalTree) (g : CFile) → AcceptsExternal numbers f e g → external numbers f e ≡ Ok g
  to_external f e g (AcceptsExternal.declaration head is) = onward _ _ _ _ (to_headed f.scene _ _ _ head) (to_all_declared _ _ _ g is)
  to_external f e g (AcceptsExternal.definition head is) = onward _ _ _ _ (to_headed f.scene _ _ _ head) (to_defined _ _ _ _ g is)

  pub to_externals : (f : CFile) (es : List ExternalTree) (g : CFile) → AcceptsExternals numbers f es g → externals numbers f es ≡ Ok g
  to_externals f es g AcceptsExternals.nothing = refl
  to_externals f es g (AcceptsExternals.next one more) = onward _ _ _ _ (to_external f _ _ one) (to_externals _ _ g more)

pub to_unit : (u : UnitTree) (p : CProgram) → AcceptsUnit u p → typed_unit u ≡ Ok p
to_unit u p (AcceptsUnit.unit {f = f} is defined main) =
    onward _ _ _ _ (to_externals _ _ _ f is)
    (onward _ _ _ _ (ap all_defined (defined_to f.scene.functions f.scene.called defined)) (onward _ _ _ _ (ap main_or_none main) refl))
