-- What typing gives for files is accepted.
use Rattle.std.proofs.Common.{◌≡◌, ℕ, ◌<◌, Bool, true, false, not, ◌&&◌, ◌||◌, List, [], ◌∷◌, length, reverse, refl, sym, ap, ◌∙◌, subst, arith}
use Rattle.std.specs.Prelude.{Option, Some, None, Ok, Err, is_some, nat_le, nat_lt, codes}
use Rattle.c_words.specs.declared.place.At.{At}
use Rattle.syntax_tree.specs.Syntax.{InitializerTree, DeclaratorTree, InitDeclaratorTree, BlockTree, HeadTree, ExternalTree, UnitTree}
use Rattle.syntax_tree.specs.GrammarDeclarations.{declarator_at}
use Rattle.typed_tree.specs.Types.{CType}
use Rattle.typed_tree.specs.TypedTree.{CProgram, CStruct}
use Rattle.typing_operators.specs.declared.error.TypeError.TheVariants.{Twice, BadType, TooManyParams, TooManyFunctions}
use Rattle.typing_operators.specs.Rule.{Rule}
use Rattle.typing_expressions.specs.Names.{found}
use Rattle.typing_expressions.specs.Scene.{CScene, CDeclared}
use Rattle.typing_expressions.specs.Parts.{CParam, CPart, is_incomplete, has_function, lacks_size, made}
use Rattle.typing_expressions.specs.Expressions.{based, in_library}
use Rattle.typing_declarations.specs.Structs.{struct_defined}
use Rattle.typing_declarations.specs.Declarators.{declarator_steps, declared_name, has_many_params, completed}
use Rattle.typing_expressions.specs.Initializers.{initialized}
use Rattle.typing_statements.specs.Statements.{block}
use Rattle.typing_unit_keeps.specs.Units.{CFile, CDefinitions, definitions, is_main, object_is_taken, function_is_taken, file_type, with_object, initialized_global, declared_object, gives_aggregate, takes_struct, param_types, is_again, breaks_main, unnamed, function_type, declared_function, declared_by, declared, all_declared, begun, defined_function, no_function, defined_by, defined, headed, external, externals, undefined, all_defined, main_or_none, empty_file, typed_unit}
use Rattle.typing_accepted.specs.AcceptanceDeclarators.{MakesObject, HasDeclarator}
use Rattle.typing_accepted.specs.AcceptanceFiles.{DeclaresObject, IsFunction, with_it, Declares, DeclareAll, Defines, Heads, AcceptsExternal, AcceptsExternals, AcceptsUnit}
use Rattle.typing_accepted.proofs.Steps.{not_false, passes, bound, same_ok, not_less}
use Rattle.typing_accepted.proofs.MadeTypes.{whole_of}
use Rattle.typing_accepted.proofs.FromDeclarators.{from_whole, from_struct}
use Rattle.typing_accepted.proofs.FromInitials.{from_initialized}
use Rattle.typing_accepted.proofs.FromStatements.{from_block}
use Rattle.typing_accepted.proofs.Agreement.{again_is, main_is, named_is, defined_is}

none_left : (a b : Bool) → a || b ≡ false → (a ≡ false) × (b ≡ false)
none_left true b h = absurd cc
none_left false b h = (refl, h)

file_type_is : (structs : List CStruct) (line : ℕ) (main : Bool) (base t : CType) (ps : List CPart) → file_type structs line main base ps ≡ Ok t → (main ≡ false) × MakesObject structs base ps t
file_type_is structs line main base t ps is =
    let a = passes (has_many_params ps) _ _ t is in
    let b = passes (is_incomplete structs true base ps) (BadType line 1) _ t a.1 in
    let c = passes (has_function ps) (BadType line 2) _ t b.1 in
    let d = passes (lacks_size ps) (BadType line 3) _ t c.1 in
    let e = passes main (BadType line 5) _ t d.1 in
    let whole = whole_of structs line true base t ps b.0 e.1 in
    (e.0, record { made = whole.made; complete = whole.complete refl })

object_by : (f : CFile) (at : At) (x : List ℕ) (base : CType) (ps : List CPart) (i : Option InitializerTree) (t : CType) (g : CFile) → object_is_taken f.scene x ≡ false → is_main x ≡ false
    → MakesObject f.scene.structs base (completed base i ps) t → initialized_global f (with_object f x t) at.line x t i ≡ Ok g → DeclaresObject base f x ps i g
object_by f at x base ps None t g free other type is =
    subst (DeclaresObject base f x ps None) (same_ok _ g is) (DeclaresObject.zero free other type)
object_by f at x base ps (Some i) t g free other type is =
    let v = bound (initialized true (with_object f x t) at.line t i) _ g is in
    subst (DeclaresObject base f x ps (Some i)) (same_ok _ g v.2) (DeclaresObject.initialized free other type (from_initialized true (with_object f x t) at.line t i v.0 v.1))

object_from : (f : CFile) (at : At) (x : List ℕ) (base : CType) (ps : List CPart) (i : Option InitializerTree) (g : CFile) → declared_object f at x base ps i ≡ Ok g → DeclaresObject base f x ps i g
object_from f at x base ps i g is =
    let free = passes (object_is_taken f.scene x) _ _ g is in
    let t = bound (file_type f.scene.structs at.line (is_main x) base (completed base i ps)) _ g free.1 in
    let h = file_type_is f.scene.structs at.line (is_main x) base t.0 (completed base i ps) t.1 in
    object_by f at x base ps i t.0 g free.0 h.0 h.1 t.2

fewer : (defines : Bool) (n : ℕ) → defines && nat_le 1000 n ≡ false → defines ≡ true → n < 1000
fewer true n few is = grind arith
fewer false n few is = absurd cc

-- the tests of a function's declarator, once the result is known
record FunctionTests (f : CFile) (line : ℕ) (x : List ℕ) (base : CType) (params : List CParam) (ps : List CPart) (defines has_initializer : Bool) (t : CType) : Type 0 where
  type : ((free : function_is_taken f.scene defines (found x f.scene.names) (is_some (in_library x)) ≡ false) → IsFunction f x base params ps defines t)
  no_initializer : has_initializer ≡ false

function_type_is : (f : CFile) (line : ℕ) (x : List ℕ) (base : CType) (params : List CParam) (ps : List CPart) (defines has_initializer : Bool) (t : CType)
    → function_type f line x base params ps defines has_initializer ≡ Ok t → FunctionTests f line x base params ps defines has_initializer t
function_type_is f line x base params ps defines has_initializer t is =
    let s = f.scene in
    let result = made f.scene.structs line base (reverse ps) in
    let a = passes (nat_lt 8 (length params) || has_many_params ps) (TooManyParams line) _ t is in
    let b = passes (defines && nat_le 1000 (length f.functions)) (TooManyFunctions line) _ t a.1 in
    let c = passes (is_incomplete f.scene.structs false base ps) (BadType line 1) _ t b.1 in
    let d = passes (has_function ps || gives_aggregate base ps || takes_struct params) (BadType line 2) _ t c.1 in
    let e = passes (lacks_size ps) (BadType line 3) _ t d.1 in
    let i = passes has_initializer (BadType line 4) _ t e.1 in
    let m = passes (breaks_main x (made f.scene.structs line base (reverse ps)) params || not (is_again f.scene.functions (found x f.scene.names) (made f.scene.structs line base (reverse ps)) (param_types params))) (BadType line 5) _ t i.1 in
    let n = named_is defines (unnamed params) (made f.scene.structs line base (reverse ps)) t m.1 in
    let whole = whole_of f.scene.structs line false base t ps c.0 n.0 in
    let kinds = none_left (has_function ps || gives_aggregate base ps) (takes_struct params) d.0 in
    let last = none_left (breaks_main x (made f.scene.structs line base (reverse ps)) params) _ m.0 in
    let main = subst (λ r. breaks_main x r params ≡ false) n.0 last.0 in
    let again = subst (λ r. is_again f.scene.functions (found x f.scene.names) r (param_types params) ≡ true) n.0 (not_false _ last.1) in
    record {
      type = λ free. record {
        free = free;
        few_params = not_less 8 (length params) (none_left (nat_lt 8 (length params)) _ a.0).0;
        few_functions = fewer defines (length f.functions) b.0;
        result = whole.made;
        no_aggregate = (none_left (has_function ps) _ kinds.0).1;
        no_structs = kinds.1;
        main = main_is x t params main;
        again = again_is f.scene.functions (found x f.scene.names) t (param_types params) again;
        named = n.1;
      };
      no_initializer = i.0;
    }

module _ (numbers : CDefinitions) where
  -- what is known of a function that was declared
  record FunctionIs (f : CFile) (at : At) (x : List ℕ) (base : CType) (params : List CParam) (ps : List CPart) (defines has_initializer : Bool) (r : CType × CFile) : Type 0 where
    type : CType
    function : IsFunction f x base params ps defines type
    no_initializer : has_initializer ≡ false
    is : (type, with_it numbers f at x type params defines) ≡ r

  function_from : (f : CFile) (at : At) (x : List ℕ) (base : CType) (params : List CParam) (ps : List CPart) (defines has_initializer : Bool) (r : CType × CFile)
      → declared_function numbers f at x base params ps defines has_initializer ≡ Ok r → FunctionIs f at x base params ps defines has_initializer r
  function_from f at x base params ps defines has_initializer r is =
      let free = passes (function_is_taken f.scene defines (found x f.scene.names) (is_some (in_library x))) _ _ r is in
      let t = bound (function_type f at.line x base params ps defines has_initializer) _ r free.1 in
      let tests = function_type_is f at.line x base params ps defines has_initializer t.0 t.1 in
      record { type = t.0; function = tests.type free.0; no_initializer = tests.no_initializer; is = same_ok (t.0, with_it numbers f at x t.0 params defines) r t.2 }

  no_some : (i : Option InitializerTree) → is_some i ≡ false → i ≡ None
  no_some None h = refl
  no_some (Some i) h = absurd cc

  by_steps : (base : CType) (f : CFile) (d : InitDeclaratorTree) (ps : List CPart) (u : CScene) (g : CFile) → HasDeclarator f.scene d.declarator ps u
      → declared_by numbers (record f { scene = u }) (declarator_at d.declarator) (declared_name d.declarator) base d.initializer ps ≡ Ok g → Declares numbers base f d g
  by_steps base f d [] u g steps is = Declares.object steps (object_from (record f { scene = u }) (declarator_at d.declarator) (declared_name d.declarator) base [] d.initializer g is)
  by_steps base f d (CPart.Pointer ∷ ps) u g steps is = Declares.object steps (object_from (record f { scene = u }) (declarator_at d.declarator) (declared_name d.declarator) base (CPart.Pointer ∷ ps) d.initializer g is)
  by_steps base f d (CPart.Array n ∷ ps) u g steps is = Declares.object steps (object_from (record f { scene = u }) (declarator_at d.declarator) (declared_name d.declarator) base (CPart.Array n ∷ ps) d.initializer g is)
  by_steps base f d (CPart.Unsized ∷ ps) u g steps is = Declares.object steps (object_from (record f { scene = u }) (declarator_at d.declarator) (declared_name d.declarator) base (CPart.Unsized ∷ ps) d.initializer g is)
  by_steps base f d (CPart.Function params ∷ ps) u g steps is =
      let y = bound (declared_function numbers (record f { scene = u }) (declarator_at d.declarator) (declared_name d.declarator) base params ps false (is_some d.initializer)) _ g is in
      let h = function_from (record f { scene = u }) (declarator_at d.declarator) (declared_name d.declarator) base params ps false (is_some d.initializer) y.0 y.1 in
      subst (Declares numbers base f d) (ap (λ q. q.1) h.is ∙ same_ok y.0.1 g y.2) (Declares.function steps (no_some d.initializer h.no_initializer) h.function)

  from_declared : (base : CType) (f : CFile) (d : InitDeclaratorTree) (g : CFile) → declared numbers f base d ≡ Ok g → Declares numbers base f d g
  from_declared base f d g is =
      let ps = bound (declarator_steps [] f.scene d.declarator) _ g is in
      by_steps base f d ps.0.0 ps.0.1 g (from_whole f.scene d.declarator ps.0 ps.1) ps.2

  pub from_all_declared : (base : CType) (f : CFile) (ds : List InitDeclaratorTree) (g : CFile) → all_declared numbers f base ds ≡ Ok g → DeclareAll numbers base f ds g
  from_all_declared base f [] g is = subst (DeclareAll numbers base f []) (same_ok f g is) DeclareAll.nothing
  from_all_declared base f (d ∷ ds) g is =
      let h = bound (declared numbers f base d) _ g is in
      DeclareAll.next (from_declared base f d h.0 h.1) (from_all_declared base h.0 ds g h.2)

  never : (f : CFile) (at : At) (x : List ℕ) (base : CType) (ps : List CPart) (g : CFile) → no_function f at x base ps ≡ Ok g → ⊥
  never f at x base ps g is =
      let a = passes (object_is_taken f.scene x) (Twice at.line x) _ g is in
      let b = passes (has_many_params ps) (TooManyParams at.line) _ g a.1 in
      let c = passes (is_incomplete f.scene.structs true base ps) (BadType at.line 1) _ g b.1 in
      let d = passes (has_function ps) (BadType at.line 2) _ g c.1 in
      let e = passes (lacks_size ps) (BadType at.line 3) _ g d.1 in
      let no : (let r : Rule CFile = Err (BadType at.line 4) in r) ≡ Ok g = e.1 in cc

  body_from : (base : CType) (f : CFile) (d : DeclaratorTree) (body : BlockTree) (params : List CParam) (ps : List CPart) (u : CScene) (t : CType) (h g : CFile)
      → HasDeclarator f.scene d (CPart.Function params ∷ ps) u → IsFunction (record f { scene = u }) (declared_name d) base params ps true t
      → h ≡ with_it numbers (record f { scene = u }) (declarator_at d) (declared_name d) t params true
      → defined_function h (declarator_at d) (declared_name d) t params body ≡ Ok g → Defines numbers base f d body g
  body_from base f d body params ps u t h g steps is same body_is =
      let y = bound (block (record { result = t; in_loop = false }) (begun h.scene params) body) _ g body_is in
      subst (Defines numbers base f d body) (same_ok _ g y.2) (Defines.function steps is same (from_block (record { result = t; in_loop = false }) (begun h.scene params) body y.0 y.1))

  by_definition : (base : CType) (f : CFile) (d : DeclaratorTree) (body : BlockTree) (ps : List CPart) (u : CScene) (g : CFile) → HasDeclarator f.scene d ps u
      → defined_by numbers (record f { scene = u }) (declarator_at d) (declared_name d) base body ps ≡ Ok g → Defines numbers base f d body g
  by_definition base f d body [] u g steps is = absurd (never (record f { scene = u }) (declarator_at d) (declared_name d) base [] g is)
  by_definition base f d body (CPart.Pointer ∷ ps) u g steps is = absurd (never (record f { scene = u }) (declarator_at d) (declared_name d) base (CPart.Pointer ∷ ps) g is)
  by_definition base f d body (CPart.Array n ∷ ps) u g steps is = absurd (never (record f { scene = u }) (declarator_at d) (declared_name d) base (CPart.Array n ∷ ps) g is)
  by_definition base f d body (CPart.Unsized ∷ ps) u g steps is = absurd (never (record f { scene = u }) (declarator_at d) (declared_name d) base (CPart.Unsized ∷ ps) g is)
  by_definition base f d body (CPart.Function params ∷ ps) u g steps is =
      let y = bound (declared_function numbers (record f { scene = u }) (declarator_at d) (declared_name d) base params ps true false) _ g is in
      let h = function_from (record f { scene = u }) (declarator_at d) (declared_name d) base params ps true false y.0 y.1 in
      let type : h.type ≡ y.0.0 = ap (λ q. q.0) h.is in
      let file : y.0.1 ≡ with_it numbers (record f { scene = u }) (declarator_at d) (declared_name d) h.type params true = sym (ap (λ q. q.1) h.is) in
      body_from base f d body params ps u h.type y.0.1 g steps h.function file (subst (λ t. defined_function y.0.1 (declarator_at d) (declared_name d) t params body ≡ Ok g) (sym type) y.2)

  from_defined : (base : CType) (f : CFile) (d : DeclaratorTree) (body : BlockTree) (g : CFile) → defined numbers f base d body ≡ Ok g → Defines numbers base f d body g
  from_defined base f d body g is =
      let ps = bound (declarator_steps [] f.scene d) _ g is in
      by_definition base f d body ps.0.0 ps.0.1 g (from_whole f.scene d ps.0 ps.1) ps.2

  from_headed : (s : CScene) (head : HeadTree) (r : CType × CScene) → headed s head ≡ Ok r → Heads s head r.0 r.1
  from_headed s (HeadTree.Specifier p) r is = subst (λ q. Heads s (HeadTree.Specifier p) q.0 q.1) (same_ok (based s p) r is) Heads.specifier
  from_headed s (HeadTree.Struct d) r is =
      let k = bound (struct_defined s d) _ r is in
      subst (λ q. Heads s (HeadTree.Struct d) q.0 q.1) (same_ok (CType.Struct k.0.0, k.0.1) r k.2) (Heads.struct (from_struct s d k.0 k.1))

  pub from_external : (f : CFile) (e : ExternalTree) (g : CFile) → external numbers f e ≡ Ok g → AcceptsExternal numbers f e g
  from_external f (ExternalTree.Declaration at head ds) g is =
      let b = bound (headed f.scene head) _ g is in
      AcceptsExternal.declaration (from_headed f.scene head b.0 b.1) (from_all_declared b.0.0 (record f { scene = b.0.1 }) ds g b.2)
  from_external f (ExternalTree.Function at head d body) g is =
      let b = bound (headed f.scene head) _ g is in
      AcceptsExternal.definition (from_headed f.scene head b.0 b.1) (from_defined b.0.0 (record f { scene = b.0.1 }) d body g b.2)

  pub from_externals : (f : CFile) (es : List ExternalTree) (g : CFile) → externals numbers f es ≡ Ok g → AcceptsExternals numbers f es g
  from_externals f [] g is = subst (AcceptsExternals numbers f []) (same_ok f g is) AcceptsExternals.nothing
  from_externals f (e ∷ es) g is =
      let h = bound (external numbers f e) _ g is in
      AcceptsExternals.next (from_external f e h.0 h.1) (from_externals h.0 es g h.2)

all_are : (o : Option CDeclared) (t : Unit {0}) → all_defined o ≡ Ok t → o ≡ None
all_are None t is = refl
all_are (Some f) t is = absurd cc

main_found : (o : Option ℕ) (k : ℕ) → main_or_none o ≡ Ok k → o ≡ Some k
main_found None k is = absurd cc
main_found (Some j) k is = ap Some (same_ok j k is)

pub from_unit : (u : UnitTree) (p : CProgram) → typed_unit u ≡ Ok p → AcceptsUnit u p
from_unit u p is =
    let f = bound (externals (definitions [] u.externals) empty_file u.externals) _ p is in
    let a = bound (all_defined (undefined f.0.scene.functions f.0.scene.called)) _ p f.2 in
    let m = bound (main_or_none (found (codes "main") (definitions [] u.externals))) _ p a.2 in
    subst (AcceptsUnit u) (same_ok _ p m.2)
    (AcceptsUnit.unit (from_externals (definitions [] u.externals) empty_file u.externals f.0 f.1)
    (defined_is f.0.scene.functions f.0.scene.called (all_are _ a.0 a.1)) (main_found _ m.0 m.1))
