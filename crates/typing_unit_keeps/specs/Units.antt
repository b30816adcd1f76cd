-- The declarations of a file (C11 6.9), in the order of the text, and what is asked after it.
use Rattle.std.specs.Prelude.{ℕ, ◌+◌, nat_lt, nat_le, Bool, true, false, not, ◌&&◌, ◌||◌, if◌then◌else◌, Option, Some, None}
use Rattle.std.specs.Prelude.{Ok, Err, List, [], ◌∷◌, ◌++◌, length, map, reverse, slice_get, slice_set, is_some, codes, nat_eq}
use Rattle.std.specs.Cmp.Lexicographic.{pointwise}
use Rattle.c_words.specs.declared.place.At.{At}
use Rattle.syntax_tree.specs.Syntax.{DeclaratorTree, InitializerTree, InitDeclaratorTree, BlockTree, HeadTree, ExternalTree, UnitTree}
use Rattle.syntax_tree.specs.GrammarDeclarations.{declarator_at}
use Rattle.typed_tree.specs.Types.{CType, same, is_array, is_struct}
use Rattle.typed_tree.specs.TypedTree.{CStmt, CStruct, CGlobal, CLocal, CFunction, CProgram}
use Rattle.typed_tree.specs.Sizes.{size_of}
use Rattle.typed_tree.specs.Typed.{stmt_refers}
use Rattle.typing_operators.specs.declared.error.TypeError.TheVariants.{Unknown, Twice, BadType, NoMain, TooManyParams, TooManyFunctions}
use Rattle.typing_operators.specs.Rule.{Rule, ◌>>=◌, refuse}
use Rattle.typing_expressions.specs.Names.{found}
use Rattle.typing_expressions.specs.Scene.{CScene, CEntry, CDeclared, CDraft}
use Rattle.typing_expressions.specs.Parts.{CParam, CPart, is_incomplete, has_function, lacks_size, made}
use Rattle.typing_expressions.specs.Expressions.{based, in_library}
use Rattle.typing_declarations.specs.Declarators.{declarator_steps, declared_name, has_many_params, completed, name_or_none}
use Rattle.typing_declarations.specs.Structs.{struct_defined}
use Rattle.typing_expressions.specs.Initializers.{initialized, initial_bytes}
use Rattle.typing_statements.specs.Statements.{with_local, block}

-- what is typed of the file so far
pub record CFile : Type 0 where
  pub scene : CScene
  pub globals : List CGlobal
  pub functions : List CFunction

-- the functions that the file defines, with their numbers
abbrev pub CDefinitions : Type 0
CDefinitions = List (List ℕ × ℕ)

abbrev pub with_definition : CDefinitions → List ℕ → CDefinitions
with_definition names x = if is_some (found x names) then names else names ++ (x, length names) ∷ []

abbrev pub definitions : CDefinitions → List ExternalTree → CDefinitions
definitions names [] = names
definitions names (ExternalTree.Declaration at head ds ∷ es) = definitions names es
definitions names (ExternalTree.Function at head d body ∷ es) = definitions (with_definition names (declared_name d)) es

-- The number of a function that is called or declared; one that is never defined has none, and 0 stands for it.
abbrev pub number_or_zero : Option ℕ → ℕ
number_or_zero None = 0
number_or_zero (Some k) = k

unfoldable pub is_main : List ℕ → Bool
is_main x = pointwise nat_eq x (codes "main")

-- 6.7 p3, 6.9 p3: an object may be declared once, and its name is neither a function's nor one of the library
abbrev pub object_is_taken : CScene → List ℕ → Bool
object_is_taken s x = is_some (found x s.names) || is_some (in_library x)

abbrev pub is_defined_at : Option CDeclared → Bool
is_defined_at None = false
is_defined_at (Some f) = f.is_defined

-- 6.9 p3: a function may be declared again, and is defined once
abbrev pub function_is_taken : CScene → (defines : Bool) → Option CEntry → Bool → Bool
function_is_taken s defines None in_library = in_library
function_is_taken s defines (Some (CEntry.Object n t)) in_library = true
function_is_taken s defines (Some (CEntry.Function k)) in_library = defines && is_defined_at (slice_get s.functions k)

-- the type of an object at file scope; `main` is none
abbrev pub file_type : List CStruct → ℕ → (main : Bool) → CType → List CPart → Rule CType
file_type structs line main base ps =
    refuse (has_many_params ps) (TooManyParams line)
    (refuse (is_incomplete structs true base ps) (BadType line 1)
    (refuse (has_function ps) (BadType line 2)
    (refuse (lacks_size ps) (BadType line 3)
    (refuse main (BadType line 5)
    (made structs line base (reverse ps))))))

abbrev pub with_object : CFile → List ℕ → CType → CScene
with_object f x t = record f.scene { names = f.scene.names ++ (x, CEntry.Object (length f.globals) t) ∷ [] }

-- the global behind its initializer, or all zero (6.7.9 p10)
abbrev pub initialized_global : CFile → CScene → ℕ → List ℕ → CType → Option InitializerTree → Rule CFile
initialized_global f s line x t None =
    Ok (record f { scene = s; globals = f.globals ++ record { name = x; ty = t; size = size_of s.structs t; initial = [] } ∷ [] })
initialized_global f s line x t (Some i) =
    initialized true s line t i >>= λ v.
    Ok (record f {
      scene = v.1;
      globals = f.globals ++ record { name = x; ty = t; size = size_of v.1.structs t; initial = initial_bytes v.1.structs t v.0 }
          ∷ [];
    })

abbrev pub declared_object : CFile → At → List ℕ → CType → List CPart → Option InitializerTree → Rule CFile
declared_object f at x base ps init =
    refuse (object_is_taken f.scene x) (Twice at.line x)
    (file_type f.scene.structs at.line (is_main x) base (completed base init ps) >>= λ t.
    initialized_global f (with_object f x t) at.line x t init)

-- 6.7.6.3 p1: whether a function gives an array or a struct
abbrev pub gives_aggregate : CType → List CPart → Bool
gives_aggregate base [] = is_struct base
gives_aggregate base (CPart.Array n ∷ ps) = true
gives_aggregate base (CPart.Unsized ∷ ps) = true
gives_aggregate base (CPart.Pointer ∷ ps) = false
gives_aggregate base (CPart.Function params ∷ ps) = false

abbrev pub takes_struct : List CParam → Bool
takes_struct [] = false
takes_struct (p ∷ ps) = is_struct p.ty || takes_struct ps

abbrev pub same_types : List CType → List CType → Bool
same_types [] [] = true
same_types (t ∷ ts) (u ∷ us) = same t u && same_types ts us
same_types [] (u ∷ us) = false
same_types (t ∷ ts) [] = false

abbrev pub param_types : List CParam → List CType
param_types ps = map (λ p. p.ty) ps

-- 6.7 p4: whether a declared function has this type; a result that is too large is no one's
abbrev pub agrees : CDeclared → Rule CType → List CType → Bool
agrees f (Ok t) params = same f.result t && same_types f.params params
agrees f (Err e) params = false

abbrev pub is_again : List CDeclared → Option CEntry → Rule CType → List CType → Bool
is_again fs None result params = true
is_again fs (Some (CEntry.Object n t)) result params = true
is_again fs (Some (CEntry.Function k)) result params = by (slice_get fs k)
  where
    by : Option CDeclared → Bool
    by None = true
    by (Some f) = agrees f result params

-- 5.1.2.2.1: the program begins in `int main(void)`
abbrev pub is_int : Rule CType → Bool
is_int (Ok t) = same t CType.Int
is_int (Err e) = false

abbrev pub has_none : List CParam → Bool
has_none [] = true
has_none (p ∷ ps) = false

abbrev pub breaks_main : List ℕ → Rule CType → List CParam → Bool
breaks_main x result params = is_main x && not (is_int result && has_none params)

-- 6.9.1 p5: the line of the first parameter without a name
abbrev pub line_or : Option (List ℕ) → ℕ → Option ℕ → Option ℕ
line_or None line rest = Some line
line_or (Some x) line rest = rest

abbrev pub unnamed : List CParam → Option ℕ
unnamed [] = None
unnamed (p ∷ ps) = line_or p.name p.line (unnamed ps)

abbrev pub named_unless : (defines : Bool) → Option ℕ → Rule CType → Rule CType
named_unless false o result = result
named_unless true None result = result
named_unless true (Some line) result = Err (BadType line 22)

-- The result of a function, once all that its declarator may break is looked at.
abbrev pub function_type : CFile → ℕ → List ℕ → CType → List CParam → List CPart → (defines has_initializer : Bool) → Rule CType
function_type f line x base params ps defines has_initializer =
    let s = f.scene in
    let result = made s.structs line base (reverse ps) in
    refuse (nat_lt 8 (length params) || has_many_params ps) (TooManyParams line)
    (refuse (defines && nat_le 1000 (length f.functions)) (TooManyFunctions line)
    (refuse (is_incomplete s.structs false base ps) (BadType line 1)
    (refuse (has_function ps || gives_aggregate base ps || takes_struct params) (BadType line 2)
    (refuse (lacks_size ps) (BadType line 3)
    (refuse has_initializer (BadType line 4)
    (refuse (breaks_main x result params || not (is_again s.functions (found x s.names) result (param_types params))) (BadType line 5)
    (named_unless defines (unnamed params) result)))))))

abbrev pub with_function : CDefinitions → CScene → ℕ → List ℕ → CType → List CType → (defines : Bool) → Option CEntry → CScene
with_function numbers s line x t params defines (Some (CEntry.Function k)) =
    record s { functions = defined_again s.functions k defines (slice_get s.functions k) }
  where
    defined_again : List CDeclared → ℕ → Bool → Option CDeclared → List CDeclared
    defined_again fs k defines None = fs
    defined_again fs k defines (Some f) = slice_set fs k (record f { is_defined = f.is_defined || defines })
with_function numbers s line x t params defines (Some (CEntry.Object n u)) = s
with_function numbers s line x t params defines None = record s {
  names = s.names ++ (x, CEntry.Function (length s.functions)) ∷ [];
  functions = s.functions ++ record { name = x; line = line; number = number_or_zero (found x numbers); result = t; params = params; is_defined = defines }
      ∷ [];
  called = s.called ++ false ∷ [];
}

-- a function's declarator, with its result
abbrev pub declared_function : CDefinitions → CFile → At → List ℕ → CType → List CParam → List CPart → (defines has_initializer : Bool)
    → Rule (CType × CFile)
declared_function numbers f at x base params ps defines has_initializer =
    refuse (function_is_taken f.scene defines (found x f.scene.names) (is_some (in_library x))) (Twice at.line x)
    (function_type f at.line x base params ps defines has_initializer >>= λ t.
    Ok (t, record f { scene = with_function numbers f.scene at.line x t (param_types params) defines (found x f.scene.names) }))

abbrev pub declared_by : CDefinitions → CFile → At → List ℕ → CType → Option InitializerTree → List CPart → Rule CFile
declared_by numbers f at x base init (CPart.Function params ∷ ps) =
    declared_function numbers f at x base params ps false (is_some init) >>= λ y. Ok y.1
declared_by numbers f at x base init [] = declared_object f at x base [] init
declared_by numbers f at x base init (CPart.Pointer ∷ ps) = declared_object f at x base (CPart.Pointer ∷ ps) init
declared_by numbers f at x base init (CPart.Array n ∷ ps) = declared_object f at x base (CPart.Array n ∷ ps) init
declared_by numbers f at x base init (CPart.Unsized ∷ ps) = declared_object f at x base (CPart.Unsized ∷ ps) init

-- one declarator of a declaration
abbrev pub declared : CDefinitions → CFile → CType → InitDeclaratorTree → Rule CFile
declared numbers f base d =
    declarator_steps [] f.scene d.declarator >>= λ ps.
    declared_by numbers (record f { scene = ps.1 }) (declarator_at d.declarator) (declared_name d.declarator) base d.initializer ps.0

abbrev pub all_declared : CDefinitions → CFile → CType → List InitDeclaratorTree → Rule CFile
all_declared numbers f base [] = Ok f
all_declared numbers f base (d ∷ ds) = declared numbers f base d >>= λ g. all_declared numbers g base ds

-- 6.9.1 p9: the parameters are the first locals, in the scope of the body's block
abbrev pub with_params : CScene → List CParam → CScene
with_params s [] = s
with_params s (p ∷ ps) = with_params (with_local s (name_or_none p.name) p.ty) ps

abbrev pub begun : CScene → List CParam → CScene
begun s params = with_params (record s { locals = []; scopes = [] ∷ [] }) params

abbrev pub ended : CScene → CScene
ended s = record s { locals = []; scopes = [] }

-- each local with its size, and whether it lies in memory
abbrev pub finished : List CStruct → CStmt → ℕ → List CDraft → List CLocal
finished structs body k [] = []
finished structs body k (l ∷ ls) =
    record { name = l.name; ty = l.ty; size = size_of structs l.ty; is_block = is_array l.ty || is_struct l.ty || stmt_refers k body }
    ∷ finished structs body (k + 1) ls

-- 6.9.1: the body of a function
abbrev pub defined_function : CFile → At → List ℕ → CType → List CParam → BlockTree → Rule CFile
defined_function f at x t params body =
    block (record { result = t; in_loop = false }) (begun f.scene params) body >>= λ y.
    Ok (record f {
      scene = ended y.1;
      functions = f.functions ++ record {
        name = x;
        line = at.line;
        result = t;
        params = length params;
        locals = finished y.1.structs y.0 0 y.1.locals;
        body = y.0;
      } ∷ [];
    })

-- a block behind what is no function
abbrev pub no_function : CFile → At → List ℕ → CType → List CPart → Rule CFile
no_function f at x base ps =
    refuse (object_is_taken f.scene x) (Twice at.line x)
    (refuse (has_many_params ps) (TooManyParams at.line)
    (refuse (is_incomplete f.scene.structs true base ps) (BadType at.line 1)
    (refuse (has_function ps) (BadType at.line 2)
    (refuse (lacks_size ps) (BadType at.line 3)
    (Err (BadType at.line 4))))))

abbrev pub defined_by : CDefinitions → CFile → At → List ℕ → CType → BlockTree → List CPart → Rule CFile
defined_by numbers f at x base body (CPart.Function params ∷ ps) =
    declared_function numbers f at x base params ps true false >>= λ y. defined_function y.1 at x y.0 params body
defined_by numbers f at x base body [] = no_function f at x base []
defined_by numbers f at x base body (CPart.Pointer ∷ ps) = no_function f at x base (CPart.Pointer ∷ ps)
defined_by numbers f at x base body (CPart.Array n ∷ ps) = no_function f at x base (CPart.Array n ∷ ps)
defined_by numbers f at x base body (CPart.Unsized ∷ ps) = no_function f at x base (CPart.Unsized ∷ ps)

abbrev pub defined : CDefinitions → CFile → CType → DeclaratorTree → BlockTree → Rule CFile
defined numbers f base d body =
    declarator_steps [] f.scene d >>= λ ps. defined_by numbers (record f { scene = ps.1 }) (declarator_at d) (declared_name d) base body ps.0

-- what a declaration begins with
abbrev pub headed : CScene → HeadTree → Rule (CType × CScene)
headed s (HeadTree.Specifier specifier) = Ok (based s specifier)
headed s (HeadTree.Struct definition) = struct_defined s definition >>= λ k. Ok (CType.Struct k.0, k.1)

abbrev pub external : CDefinitions → CFile → ExternalTree → Rule CFile
external numbers f (ExternalTree.Declaration at head ds) = headed f.scene head >>= λ b. all_declared numbers (record f { scene = b.1 }) b.0 ds
external numbers f (ExternalTree.Function at head d body) = headed f.scene head >>= λ b. defined numbers (record f { scene = b.1 }) b.0 d body

abbrev pub externals : CDefinitions → CFile → List ExternalTree → Rule CFile
externals numbers f [] = Ok f
externals numbers f (e ∷ es) = external numbers f e >>= λ g. externals numbers g es

-- after the text: the first function that is called and has no definition
abbrev pub undefined : List CDeclared → List Bool → Option CDeclared
undefined [] called = None
undefined (f ∷ fs) [] = None
undefined (f ∷ fs) (c ∷ cs) = if c && not f.is_defined then Some f else undefined fs cs

abbrev pub all_defined : Option CDeclared → Rule (Unit {0})
all_defined None = Ok tt
all_defined (Some f) = Err (Unknown f.line f.name)

abbrev pub main_or_none : Option ℕ → Rule ℕ
main_or_none None = Err NoMain
main_or_none (Some k) = Ok k

abbrev pub empty_file : CFile
empty_file = record {
  scene = record { structs = []; tags = []; texts = []; names = []; functions = []; called = []; locals = []; scopes = [] };
  globals = [];
  functions = [];
}

abbrev pub finished_file : CDefinitions → CFile → Rule CProgram
finished_file numbers f =
    all_defined (undefined f.scene.functions f.scene.called) >>= λ u. main_or_none (found (codes "main") numbers) >>= λ main.
    Ok (record { structs = f.scene.structs; globals = f.globals; texts = f.scene.texts; functions = f.functions; main = main })

-- The typed program of a file, or the refusal that comes first.
abbrev pub typed_unit : UnitTree → Rule CProgram
typed_unit u = externals (definitions [] u.externals) empty_file u.externals >>= λ f. finished_file (definitions [] u.externals) f
