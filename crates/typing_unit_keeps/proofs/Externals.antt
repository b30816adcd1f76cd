-- The declarations of a file, one after the other.
use Rattle.std.proofs.Common.{◌≡◌, ℕ, true, false, List, [], ◌∷◌, ◌++◌, length, refl, sym, ◌∙◌, ap, subst, arith, append-nil}
use Rattle.std.proofs.lemmas.List.{map-append}
use Rattle.std.specs.Prelude.{Option, Some, None, Ok, Err, IfSome, is_some}
use Rattle.std.specs.List.{AllByRecursion}
use Rattle.c_words.specs.declared.place.At.{At}
use Rattle.syntax_tree.specs.Syntax.{DeclaratorTree, InitializerTree, InitDeclaratorTree, BlockTree, HeadTree, ExternalTree}
use Rattle.syntax_tree.specs.GrammarDeclarations.{declarator_at}
use Rattle.typed_tree.specs.Types.{CType, is_array}
use Rattle.typed_tree.specs.TypedTree.{CFunction}
use Rattle.typed_tree.specs.Sizes.{IsType}
use Rattle.typing_operators.specs.declared.error.TypeError.TheVariants.{Twice, BadType, TooManyParams}
use Rattle.typing_operators.specs.Rule.{Rule}
use Rattle.typing_expressions.specs.Names.{found}
use Rattle.typing_expressions.specs.Scene.{CScene}
use Rattle.typing_expressions.specs.Parts.{CParam, CPart, is_incomplete, has_function, lacks_size}
use Rattle.typing_expressions.specs.Expressions.{based, in_library}
use Rattle.typing_declarations.specs.Declarators.{declarator_steps, declared_name, has_many_params}
use Rattle.typing_declarations.specs.Structs.{struct_defined}
use Rattle.typing_unit_keeps.specs.Units.{CFile, CDefinitions, with_definition, definitions, object_is_taken, is_defined_at, function_is_taken, declared_function, declared_by, declared, all_declared, no_function, defined_by, defined, headed, external, externals}
use Rattle.syntax_in_range.specs.InRange.{InitDeclaratorInRange, InitializerInRange, HeadInRange, ExternalInRange, BlockInRange, DeclaratorInRange}
use Rattle.typing_unit_keeps.proofs.Steps.{passes, bound, same_ok, All-slice_get}
use Rattle.typing_unit_keeps.proofs.Growth.{within_same, based_grows, based_type}
use Rattle.typing_unit_keeps.proofs.Later.{type_later}
use Rattle.typing_unit_keeps.proofs.MadeTypes.{AreParts}
use Rattle.typing_unit_keeps.proofs.DeclaratorParts.{declarator_parts, based_no_array}
use Rattle.typing_unit_keeps.proofs.StructDefinitions.{struct_defines}
use Rattle.typing_unit_keeps.proofs.Files.{function_names, IsKnown, IsFile, Advances, advances_then, grown_advances, definition_advances}
use Rattle.typing_unit_keeps.proofs.Numbering.{numbered, function_numbered, next_number, more_definitions}
use Rattle.typing_unit_keeps.proofs.GlobalObjects.{Laws, object_advances}
use Rattle.typing_unit_keeps.proofs.DefinedFunctions.{declaration_advances, body_advances}

-- the type that a declaration begins with
record IsHead (numbers : CDefinitions) (f : CFile) (r : CType × CScene) : Type 0 where
  advances : Advances numbers [] f (record f { scene = r.1 })
  type : IsType r.1.structs r.0
  no_array : is_array r.0 ≡ false

-- A function is defined: its name is new, and it has the next number.
record Defines (numbers : CDefinitions) (f g : CFile) (x : List ℕ) : Type 0 where
  advances : Advances numbers (x ∷ []) f g
  is_new : found x (numbered f.functions) ≡ None

-- What a declaration of the file adds, and the functions that are still to be numbered.
record AdvancesFile (numbers : CDefinitions) (f g : CFile) (e : ExternalTree) : Type 0 where
  names : List (List ℕ)
  advances : Advances numbers names f g
  numbers_go_on : (es : List ExternalTree) → definitions (numbered f.functions) (e ∷ es) ≡ definitions (numbered g.functions) es

-- The whole text.
pub record IsRead (numbers : CDefinitions) (f g : CFile) : Type 0 where
  pub names : List (List ℕ)
  pub advances : Advances numbers names f g
  pub numbers_are : numbers ≡ numbered g.functions

-- ---- declarators

module _ (laws : Laws) (numbers : CDefinitions) where
  by_parts : (f : CFile) (at : At) (x : List ℕ) (base : CType) (init : Option InitializerTree) (ps : List CPart) (g : CFile) → IsFile numbers f → IsType f.scene.structs base → is_array base ≡ false → AreParts f.scene.structs ps
      → IfSome init InitializerInRange → declared_by numbers f at x base init ps ≡ Ok g → Advances numbers [] f g
  by_parts f at x base init (CPart.Function params ∷ ps) g is base_is no_array are range h =
      let y = bound (declared_function numbers f at x base params ps false (is_some init)) _ g h in
      subst (Advances numbers [] f) (same_ok y.0.1 g y.2) (declaration_advances numbers f at x base params ps (is_some init) y.0 is base_is no_array are.1 are.0 y.1)
  by_parts f at x base init [] g is base_is no_array are range h = object_advances laws numbers f at x base [] init g is base_is are range h
  by_parts f at x base init (CPart.Pointer ∷ ps) g is base_is no_array are range h = object_advances laws numbers f at x base (CPart.Pointer ∷ ps) init g is base_is are range h
  by_parts f at x base init (CPart.Array n ∷ ps) g is base_is no_array are range h = object_advances laws numbers f at x base (CPart.Array n ∷ ps) init g is base_is are range h
  by_parts f at x base init (CPart.Unsized ∷ ps) g is base_is no_array are range h = object_advances laws numbers f at x base (CPart.Unsized ∷ ps) init g is base_is are range h

  one_declared : (f : CFile) (base : CType) (d : InitDeclaratorTree) (g : CFile) → IsFile numbers f → IsType f.scene.structs base → is_array base ≡ false → InitDeclaratorInRange d → declared numbers f base d ≡ Ok g → Advances numbers [] f g
  one_declared f base d g is base_is no_array range h =
      let ps = bound (declarator_steps [] f.scene d.declarator) _ g h in
      let has = declarator_parts [] f.scene d.declarator range.1 ps.0 ps.1 in
      let middle : CFile = record f { scene = ps.0.1 } in
      let first = grown_advances numbers f ps.0.1 is has.grows in
      advances_then numbers [] [] f middle g first
      (by_parts middle (declarator_at d.declarator) (declared_name d.declarator) base d.initializer ps.0.0 g first.is_file (type_later f.scene.structs ps.0.1.structs first.extends base base_is) no_array
      (has.parts is.scene.tags tt) range.2 ps.2)

  declarators_advance : (f : CFile) (base : CType) (ds : List InitDeclaratorTree) (g : CFile) → IsFile numbers f → IsType f.scene.structs base → is_array base ≡ false → AllByRecursion InitDeclaratorInRange ds
      → all_declared numbers f base ds ≡ Ok g → Advances numbers [] f g
  declarators_advance f base [] g is base_is no_array range h = subst (Advances numbers [] f) (same_ok f g h) (grown_advances numbers f f.scene is (within_same f.scene))
  declarators_advance f base (d ∷ ds) g is base_is no_array range h =
      let m = bound (declared numbers f base d) _ g h in
      let first = one_declared f base d m.0 is base_is no_array range.0 m.1 in
      advances_then numbers [] [] f m.0 g first
      (declarators_advance m.0 base ds g first.is_file (type_later f.scene.structs m.0.scene.structs first.extends base base_is) no_array range.1 m.2)

  -- ---- heads

  head_is : (f : CFile) (head : HeadTree) (r : CType × CScene) → IsFile numbers f → HeadInRange head → headed f.scene head ≡ Ok r → IsHead numbers f r
  head_is f (HeadTree.Specifier specifier) r is range h =
      subst (IsHead numbers f) (same_ok (based f.scene specifier) r h) (record {
        advances = grown_advances numbers f (based f.scene specifier).1 is (based_grows f.scene specifier);
        type = based_type f.scene specifier is.scene.tags;
        no_array = based_no_array f.scene specifier;
      })
  head_is f (HeadTree.Struct definition) r is range h =
      let k = bound (struct_defined f.scene definition) _ r h in
      let defines = struct_defines f.scene definition range is.scene.structs is.scene.tags is.ordered k.0 k.1 in
      subst (IsHead numbers f) (same_ok _ r k.2) (record {
        advances = definition_advances numbers f k.0 is defines;
        type = let size : length k.0.1.structs ≡ length defines.structs = ap (λ (u : CScene). length u.structs) defines.after in let number = defines.number in omega arith;
        no_array = refl;
      })

  -- ---- definitions

  nothing_passes : (f : CFile) (at : At) (x : List ℕ) (base : CType) (ps : List CPart) (g : CFile) → no_function f at x base ps ≡ Ok g → ⊥
  nothing_passes f at x base ps g h =
      let one = passes (object_is_taken f.scene x) (Twice at.line x) _ g h in
      let two = passes (has_many_params ps) (TooManyParams at.line) _ g one.1 in
      let three = passes (is_incomplete f.scene.structs true base ps) (BadType at.line 1) _ g two.1 in
      let four = passes (has_function ps) (BadType at.line 2) _ g three.1 in
      let five = passes (lacks_size ps) (BadType at.line 3) _ g four.1 in
      none five.1
    where
      none : (let r : Rule CFile = Err (BadType at.line 4) in r) ≡ Ok g → ⊥
      none h = cc

  -- the name of a function that is defined here is not that of one that was defined before
  name_is_new : (f : CFile) (at : At) (x : List ℕ) (base : CType) (params : List CParam) (ps : List CPart) (r : CType × CFile) → IsFile numbers f → declared_function numbers f at x base params ps true false ≡ Ok r
      → found x (numbered f.functions) ≡ None
  name_is_new f at x base params ps r is h = by (found x (numbered f.functions)) refl
    where
      is_free : function_is_taken f.scene true (found x f.scene.names) (is_some (in_library x)) ≡ false
      is_free = (passes (function_is_taken f.scene true (found x f.scene.names) (is_some (in_library x))) (Twice at.line x) _ r h).0

      taken : IsKnown f.scene x → ⊥
      taken known = apart (sym is_taken ∙ is_free)
        where
          is_taken : function_is_taken f.scene true (found x f.scene.names) (is_some (in_library x)) ≡ true
          is_taken =
              ap (λ o. function_is_taken f.scene true o (is_some (in_library x))) known.found_there
              ∙ ap is_defined_at known.there ∙ known.is_defined

          apart : true ≡ false → ⊥
          apart h = cc

      by : (o : Option ℕ) → found x (numbered f.functions) ≡ o → o ≡ None
      by None h = refl
      by (Some k) h =
          let at = function_numbered f.functions k x h in
          absurd (taken (subst (IsKnown f.scene) at.2 (All-slice_get (λ (fn : CFunction). IsKnown f.scene fn.name) f.functions k at.0 is.known at.1)))

  by_definition : (f : CFile) (at : At) (x : List ℕ) (base : CType) (body : BlockTree) (ps : List CPart) (g : CFile) → IsFile numbers f → IsType f.scene.structs base → is_array base ≡ false → AreParts f.scene.structs ps → BlockInRange body
      → (found x (numbered f.functions) ≡ None → found x numbers ≡ Some (length f.functions)) → defined_by numbers f at x base body ps ≡ Ok g → Defines numbers f g x
  by_definition f at x base body (CPart.Function params ∷ ps) g is base_is no_array are range next h =
      let y = bound (declared_function numbers f at x base params ps true false) _ g h in
      let is_new = name_is_new f at x base params ps y.0 is y.1 in
      record { advances = body_advances laws numbers f at x base params ps body y.0 g is base_is no_array are.1 are.0 (next is_new) range y.1 y.2; is_new = is_new }
  by_definition f at x base body [] g is base_is no_array are range next h = absurd (nothing_passes f at x base [] g h)
  by_definition f at x base body (CPart.Pointer ∷ ps) g is base_is no_array are range next h = absurd (nothing_passes f at x base (CPart.Pointer ∷ ps) g h)
  by_definition f at x base body (CPart.Array n ∷ ps) g is base_is no_array are range next h = absurd (nothing_passes f at x base (CPart.Array n ∷ ps) g h)
  by_definition f at x base body (CPart.Unsized ∷ ps) g is base_is no_array are range next h = absurd (nothing_passes f at x base (CPart.Unsized ∷ ps) g h)

  one_defined : (f : CFile) (base : CType) (d : DeclaratorTree) (body : BlockTree) (g : CFile) → IsFile numbers f → IsType f.scene.structs base → is_array base ≡ false → DeclaratorInRange d → BlockInRange body
      → (found (declared_name d) (numbered f.functions) ≡ None → found (declared_name d) numbers ≡ Some (length f.functions)) → defined numbers f base d body ≡ Ok g → Defines numbers f g (declared_name d)
  one_defined f base d body g is base_is no_array range body_range next h =
      let ps = bound (declarator_steps [] f.scene d) _ g h in
      let has = declarator_parts [] f.scene d range ps.0 ps.1 in
      let middle : CFile = record f { scene = ps.0.1 } in
      let first = grown_advances numbers f ps.0.1 is has.grows in
      let rest = by_definition middle (declarator_at d) (declared_name d) base body ps.0.0 g first.is_file (type_later f.scene.structs ps.0.1.structs first.extends base base_is) no_array (has.parts is.scene.tags tt) body_range next ps.2 in
      record { advances = advances_then numbers [] (declared_name d ∷ []) f middle g first rest.advances; is_new = rest.is_new }

  -- ---- external declarations

  no_functions : (functions more : List CFunction) → function_names more ≡ [] → functions ++ more ≡ functions
  no_functions functions [] h = append-nil functions
  no_functions functions (x ∷ more) h = absurd cc

  same_numbers : (f g : CFile) → Advances numbers [] f g → numbered f.functions ≡ numbered g.functions
  same_numbers f g a = ap numbered (sym (a.all_functions ∙ no_functions f.functions a.functions a.names_are))

  more_numbers : (f g : CFile) (x : List ℕ) → Advances numbers (x ∷ []) f g → found x (numbered f.functions) ≡ None → with_definition (numbered f.functions) x ≡ numbered g.functions
  more_numbers f g x a is_new =
      more_definitions f.functions x (function_names g.functions)
      (ap function_names a.all_functions ∙ map-append (λ (fn : CFunction). fn.name) f.functions a.functions ∙ ap (λ names. function_names f.functions ++ names) a.names_are) is_new

  external_advances : (f : CFile) (e : ExternalTree) (es : List ExternalTree) (g : CFile) → IsFile numbers f → ExternalInRange e → numbers ≡ definitions (numbered f.functions) (e ∷ es) → external numbers f e ≡ Ok g → AdvancesFile numbers f g e
  external_advances f (ExternalTree.Declaration at head ds) es g is range numbers_are h =
      let b = bound (headed f.scene head) _ g h in
      let first = head_is f head b.0 is range.1 b.1 in
      let middle : CFile = record f { scene = b.0.1 } in
      let all = advances_then numbers [] [] f middle g first.advances (declarators_advance middle b.0.0 ds g first.advances.is_file first.type first.no_array range.2 b.2) in
      record { names = []; advances = all; numbers_go_on = λ es. ap (λ names. definitions names es) (same_numbers f g all) }
  external_advances f (ExternalTree.Function at head d body) es g is range numbers_are h =
      let b = bound (headed f.scene head) _ g h in
      let first = head_is f head b.0 is range.1 b.1 in
      let middle : CFile = record f { scene = b.0.1 } in
      let rest = one_defined middle b.0.0 d body g first.advances.is_file first.type first.no_array range.2 range.3
      (λ is_new. next_number numbers f.functions at head d body es numbers_are is_new) b.2 in
      let all = advances_then numbers [] (declared_name d ∷ []) f middle g first.advances rest.advances in
      record { names = declared_name d ∷ []; advances = all; numbers_go_on = λ es. ap (λ names. definitions names es) (more_numbers f g (declared_name d) all rest.is_new) }

  pub externals_advance : (f : CFile) (es : List ExternalTree) (g : CFile) → IsFile numbers f → AllByRecursion ExternalInRange es → numbers ≡ definitions (numbered f.functions) es → externals numbers f es ≡ Ok g → IsRead numbers f g
  externals_advance f [] g is range numbers_are h =
      subst (IsRead numbers f) (same_ok f g h) (record { names = []; advances = grown_advances numbers f f.scene is (within_same f.scene); numbers_are = numbers_are })
  externals_advance f (e ∷ es) g is range numbers_are h =
      let m = bound (external numbers f e) _ g h in
      let first = external_advances f e es m.0 is range.0 numbers_are m.1 in
      let rest = externals_advance m.0 es g first.advances.is_file range.1 (numbers_are ∙ first.numbers_go_on es) m.2 in
      record { names = first.names ++ rest.names; advances = advances_then numbers first.names rest.names f m.0 g first.advances rest.advances; numbers_are = rest.numbers_are }
