-- Which files the language accepts (C11 6.9): their declarations and definitions, in the order of the text, and what is
-- asked after it.
use Rattle.std.specs.Prelude.{ℕ, ◌≡◌, ◌≤◌, ◌<◌, Bool, true, false, Option, Some, None}
use Rattle.std.specs.Prelude.{List, [], ◌∷◌, ◌++◌, length, reverse, slice_get, is_some, codes}
use Rattle.c_words.specs.declared.place.At.{At}
use Rattle.syntax_tree.specs.Syntax.{InitializerTree, DeclaratorTree, InitDeclaratorTree, StructDefinitionTree, BlockTree, HeadTree, ExternalTree, UnitTree}
use Rattle.syntax_tree.specs.declared.syntax.specifiers.Specifier.{Specifier as SpecifierTree}
use Rattle.syntax_tree.specs.GrammarDeclarations.{declarator_at}
use Rattle.typed_tree.specs.Types.{CType}
use Rattle.typed_tree.specs.TypedTree.{CInitial, CStmt, CProgram}
use Rattle.typed_tree.specs.Sizes.{size_of}
use Rattle.typing_expressions.specs.Names.{found}
use Rattle.typing_expressions.specs.Scene.{CScene, CEntry, CDeclared}
use Rattle.typing_expressions.specs.Parts.{CParam, CPart}
use Rattle.typing_expressions.specs.Expressions.{based, in_library}
use Rattle.typing_declarations.specs.Declarators.{declared_name, completed}
use Rattle.typing_expressions.specs.Initializers.{initial_bytes}
use Rattle.typing_unit_keeps.specs.Units.{CFile, CDefinitions, definitions, is_main, object_is_taken, function_is_taken, with_object}
use Rattle.typing_unit_keeps.specs.Units.{gives_aggregate, takes_struct, param_types, unnamed, with_function, begun, ended, finished, empty_file}
use Rattle.typing_accepted.specs.AcceptanceOperands.{Makes}
use Rattle.typing_accepted.specs.AcceptanceDeclarators.{MakesObject, HasDeclarator, DefinesStruct, IsInitializedBy}
use Rattle.typing_accepted.specs.AcceptanceStatements.{AcceptsBlock}

-- 6.7 p3, 6.9 p3: An object of this name, which is free, and not `main`. It has a complete type, and is zero where it has
-- no initializer (6.7.9 p10).
pub data DeclaresObject (base : CType) (f : CFile) (x : List ℕ) (ps : List CPart) : Option InitializerTree → CFile → Type 0 where
  zero : {t : CType}
      → object_is_taken f.scene x ≡ false → is_main x ≡ false → MakesObject f.scene.structs base (completed base None ps) t
      → DeclaresObject base f x ps None
      (record f { scene = with_object f x t; globals = f.globals ++ record { name = x; ty = t; size = size_of f.scene.structs t; initial = [] } ∷ [] })
  initialized : {i : InitializerTree} {t : CType} {v : CInitial} {u : CScene}
      → object_is_taken f.scene x ≡ false → is_main x ≡ false → MakesObject f.scene.structs base (completed base (Some i) ps) t
      → IsInitializedBy true (with_object f x t) t i v u
      → DeclaresObject base f x ps (Some i)
      (record f { scene = u; globals = f.globals ++ record { name = x; ty = t; size = size_of u.structs t; initial = initial_bytes u.structs t v } ∷ [] })

-- A function of these parameters whose result has the type t, declared or defined.
pub record IsFunction (f : CFile) (x : List ℕ) (base : CType) (params : List CParam) (ps : List CPart) (defines : Bool) (t : CType) : Type 0 where
  -- 6.7 p3, 6.9 p3: the name is no object's and none of the library, and a function is defined once
  pub free : function_is_taken f.scene defines (found x f.scene.names) (is_some (in_library x)) ≡ false
  -- a function has at most 8 parameters, and a file defines at most 1,000 functions
  pub few_params : length params ≤ 8
  pub few_functions : defines ≡ true → length f.functions < 1000
  -- 6.7.6.3 p1: its result is no array, and here no struct; nor are its parameters
  pub result : Makes f.scene.structs base (reverse ps) t
  pub no_aggregate : gives_aggregate base ps ≡ false
  pub no_structs : takes_struct params ≡ false
  -- 5.1.2.2.1 p1
  pub main : is_main x ≡ true → (t ≡ CType.Int) × (params ≡ [])
  -- 6.7 p4: it has the type that it was declared with before
  pub again : (k : ℕ) (g : CDeclared) → found x f.scene.names ≡ Some (CEntry.Function k) → slice_get f.scene.functions k ≡ Some g
      → (g.result ≡ t) × (g.params ≡ param_types params)
  -- 6.9.1 p5: the parameters of a definition have names
  pub named : defines ≡ true → unnamed params ≡ None

-- what a declaration begins with
pub data Heads (s : CScene) : HeadTree → CType → (behind : CScene) → Type 0 where
  specifier : {p : SpecifierTree} → Heads s (HeadTree.Specifier p) (based s p).0 (based s p).1
  struct : {d : StructDefinitionTree} {k : ℕ} {u : CScene} → DefinesStruct s d k u → Heads s (HeadTree.Struct d) (CType.Struct k) u

module _ (numbers : CDefinitions) where
  -- the file in which the function is declared, or defined
  abbrev pub with_it : CFile → At → List ℕ → CType → List CParam → (defines : Bool) → CFile
  with_it f at x t params defines = record f { scene = with_function numbers f.scene at.line x t (param_types params) defines (found x f.scene.names) }

  -- one declarator of a declaration; a function has no initializer (6.7.9 p3)
  pub data Declares (base : CType) (f : CFile) (d : InitDeclaratorTree) : CFile → Type 0 where
    object : {u : CScene} {ps : List CPart} {g : CFile}
        → HasDeclarator f.scene d.declarator ps u → DeclaresObject base (record f { scene = u }) (declared_name d.declarator) ps d.initializer g
        → Declares base f d g
    function : {u : CScene} {params : List CParam} {ps : List CPart} {t : CType}
        → HasDeclarator f.scene d.declarator (CPart.Function params ∷ ps) u → d.initializer ≡ None
        → IsFunction (record f { scene = u }) (declared_name d.declarator) base params ps false t
        → Declares base f d (with_it (record f { scene = u }) (declarator_at d.declarator) (declared_name d.declarator) t params false)

  pub data DeclareAll (base : CType) : CFile → List InitDeclaratorTree → CFile → Type 0 where
    nothing : {f : CFile} → DeclareAll base f [] f
    next : {f g h : CFile} {d : InitDeclaratorTree} {ds : List InitDeclaratorTree} → Declares base f d g → DeclareAll base g ds h
        → DeclareAll base f (d ∷ ds) h

  -- 6.9.1: the definition of a function; its body is a block whose scope its parameters are in
  pub data Defines (base : CType) (f : CFile) (d : DeclaratorTree) (body : BlockTree) : CFile → Type 0 where
    function : {u w : CScene} {params : List CParam} {ps : List CPart} {t : CType} {g : CFile} {y : CStmt}
        → HasDeclarator f.scene d (CPart.Function params ∷ ps) u → IsFunction (record f { scene = u }) (declared_name d) base params ps true t
        → g ≡ with_it (record f { scene = u }) (declarator_at d) (declared_name d) t params true
        → AcceptsBlock (record { result = t; in_loop = false }) (begun g.scene params) body y w
        → Defines base f d body (record g {
          scene = ended w;
          functions = g.functions ++ record {
            name = declared_name d;
            line = (declarator_at d).line;
            result = t;
            params = length params;
            locals = finished w.structs y 0 w.locals;
            body = y;
          } ∷ [];
        })

  -- 6.9: one declaration of the file
  pub data AcceptsExternal (f : CFile) : ExternalTree → CFile → Type 0 where
    declaration : {at : At} {head : HeadTree} {ds : List InitDeclaratorTree} {base : CType} {u : CScene} {g : CFile}
        → Heads f.scene head base u → DeclareAll base (record f { scene = u }) ds g → AcceptsExternal f (ExternalTree.Declaration at head ds) g
    definition : {at : At} {head : HeadTree} {d : DeclaratorTree} {body : BlockTree} {base : CType} {u : CScene} {g : CFile}
        → Heads f.scene head base u → Defines base (record f { scene = u }) d body g → AcceptsExternal f (ExternalTree.Function at head d body) g

  pub data AcceptsExternals : CFile → List ExternalTree → CFile → Type 0 where
    nothing : {f : CFile} → AcceptsExternals f [] f
    next : {f g h : CFile} {e : ExternalTree} {es : List ExternalTree} → AcceptsExternal f e g → AcceptsExternals g es h → AcceptsExternals f (e ∷ es) h

-- 6.9 p5: each function that is called is defined
abbrev pub AreDefined : CScene → Type 0
AreDefined s = (k : ℕ) (g : CDeclared) → slice_get s.functions k ≡ Some g → slice_get s.called k ≡ Some true → g.is_defined ≡ true

-- A file is accepted as a program.
pub data AcceptsUnit (u : UnitTree) : CProgram → Type 0 where
  unit : {f : CFile} {main : ℕ}
      → AcceptsExternals (definitions [] u.externals) empty_file u.externals f → AreDefined f.scene
      → found (codes "main") (definitions [] u.externals) ≡ Some main
      → AcceptsUnit u (record { structs = f.scene.structs; globals = f.globals; texts = f.scene.texts; functions = f.functions; main = main })
