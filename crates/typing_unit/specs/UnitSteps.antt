-- Parts of the typing of a file, as the functions that do them say it.
use Rattle.std.specs.Prelude.{◌≡◌, ℕ, nat_lt, nat_le, Bool, true, false, not, ◌&&◌, ◌||◌, cond, Option, Some, None}
use Rattle.std.specs.Prelude.{Ok, List, [], ◌∷◌, ◌++◌, length, map, reverse, replicate, slice_get, slice_set, is_some}
use Rattle.syntax_tree.specs.Syntax.{BlockTree}
use Rattle.typed_tree.specs.Types.{CType, is_array, is_struct}
use Rattle.typed_tree.specs.TypedTree.{CStruct, CLocal, CProgram}
use Rattle.typed_tree.specs.TypedViews.{global_of, function_of}
use Rattle.typed_tree.specs.Sizes.{size_of}
use Rattle.typing_operators.specs.declared.error.TypeError.{TypeError}
use Rattle.typing_operators.specs.declared.error.TypeError.TheVariants.{BadType, TooManyParams, TooManyFunctions}
use Rattle.typing_operators.specs.Rule.{Rule, ◌>>=◌, refuse}
use Rattle.typing_unit.specs.declared.file.File.{File}
use Rattle.typing_unit.specs.declared.declarations.Declares.{Declares}
use Rattle.typing_unit.specs.declared.declarations.Declares.TheVariants as declares
use Rattle.typing_expressions.specs.Names.{found}
use Rattle.typing_expressions.specs.Scene.{CScene, CEntry, CDeclared, CDraft, scene_of}
use Rattle.typing_expressions.specs.Parts.{CParam, CPart, param_of, parts_of, is_incomplete, has_function, lacks_size, made}
use Rattle.typing_expressions.specs.Expressions.{in_library}
use Rattle.typing_declarations.specs.Declarators.{has_many_params, name_or_none}
use Rattle.typing_statements.specs.Statements.{with_local, block}
use Rattle.typing_unit_keeps.specs.Units.{CFile, CDefinitions, breaks_main, is_main, gives_aggregate, takes_struct}
use Rattle.typing_unit_keeps.specs.Units.{named_unless, unnamed, param_types, with_function, begun, ended, finished}
use Rattle.typing_unit_keeps.specs.Units as units

-- what is typed of a file so far
abbrev pub file_of : File → CFile
file_of f = record { scene = scene_of f.scene; globals = map global_of f.globals.items; functions = map function_of f.functions.items }

abbrev pub is_defined_at : List CDeclared → ℕ → Bool
is_defined_at fs k = units.is_defined_at (slice_get fs k)

abbrev pub function_is_taken : CScene → Bool → List ℕ → Bool
function_is_taken s defines x = units.function_is_taken s defines (found x s.names) (is_some (in_library x))

-- the type that steps make, from the specifier towards the name
abbrev pub made_from : List CStruct → ℕ → CType → List CPart → Rule CType
made_from structs line base ps = made structs line base (reverse ps)

abbrev pub with_object : CFile → List ℕ → CType → CFile
with_object f x t = record f { scene = units.with_object f x t }

abbrev pub is_again : CScene → List ℕ → Rule CType → List CParam → Bool
is_again s x result params = units.is_again s.functions (found x s.names) result (param_types params)

-- whether a function is declared by the name
abbrev pub is_declared_by : List CDeclared → Option CEntry → Bool
is_declared_by fs None = false
is_declared_by fs (Some (CEntry.Object n t)) = false
is_declared_by fs (Some (CEntry.Function k)) = is_some (slice_get fs k)

abbrev pub is_declared : CScene → List ℕ → Bool
is_declared s x = is_declared_by s.functions (found x s.names)

-- the result of a function, once the name and the parameters are looked at
abbrev pub agreed : CScene → ℕ → List ℕ → List CParam → Bool → Rule CType → Rule CType
agreed s line x params defines result =
    refuse (breaks_main x result params || not (is_again s x result params)) (BadType line 5) (named_unless defines (unnamed params) result)

-- the first rule that a function's declarator breaks, before its result is looked at
abbrev pub function_fault : CFile → ℕ → CType → List CParam → List CPart → (defines has_initializer : Bool) → Option TypeError
function_fault f line base params ps defines has_initializer =
    cond (nat_lt 8 (length params) || has_many_params ps) (Some (TooManyParams line))
    (cond (defines && nat_le 1000 (length f.functions)) (Some (TooManyFunctions line))
    (cond (is_incomplete f.scene.structs false base ps) (Some (BadType line 1))
    (cond (has_function ps || gives_aggregate base ps || takes_struct params) (Some (BadType line 2))
    (cond (lacks_size ps) (Some (BadType line 3))
    (cond has_initializer (Some (BadType line 4)) None)))))

abbrev pub defined_once : CDeclared → Bool → CDeclared
defined_once f defines = record f { is_defined = f.is_defined || defines }

abbrev pub defined_by_again : List CDeclared → ℕ → Bool → Option CDeclared → List CDeclared
defined_by_again fs k defines None = fs
defined_by_again fs k defines (Some f) = slice_set fs k (defined_once f defines)

-- the function at the place is declared again, or defined
abbrev pub defined_again : List CDeclared → ℕ → Bool → List CDeclared
defined_again fs k defines = defined_by_again fs k defines (slice_get fs k)

abbrev pub with_new_function : CScene → List ℕ → CDeclared → CScene
with_new_function s x f = record s {
  names = s.names ++ (x, CEntry.Function (length s.functions)) ∷ [];
  functions = s.functions ++ f ∷ [];
  called = s.called ++ false ∷ [];
}

abbrev pub entered : CDefinitions → CScene → ℕ → List ℕ → CType → List CParam → Bool → CScene
entered numbers s line x t params defines = with_function numbers s line x t (param_types params) defines (found x s.names)

-- what the steps of a declarator declare
abbrev pub begins_with_function : List CPart → Bool
begins_with_function [] = false
begins_with_function (CPart.Pointer ∷ ps) = false
begins_with_function (CPart.Array n ∷ ps) = false
begins_with_function (CPart.Unsized ∷ ps) = false
begins_with_function (CPart.Function params ∷ ps) = true

abbrev pub IsSplit : List CPart → Declares → Type 0
IsSplit ps (declares.Function params rest) = ps ≡ CPart.Function (map param_of params.items) ∷ parts_of rest.items
IsSplit ps (declares.Object rest) = (ps ≡ parts_of rest.items) × (begins_with_function ps ≡ false)

abbrev pub with_param : CScene → CParam → CScene
with_param s p = with_local s (name_or_none p.name) p.ty

abbrev pub no_marks : ℕ → List Bool
no_marks n = replicate n false

abbrev pub finished_local : List CStruct → Bool → CDraft → CLocal
finished_local structs is_marked l =
    record { name = l.name; ty = l.ty; size = size_of structs l.ty; is_block = is_array l.ty || is_struct l.ty || is_marked }

-- the locals with their sizes, by their marks
abbrev pub finished_by : List CStruct → List Bool → List CDraft → List CLocal
finished_by structs marks [] = []
finished_by structs [] (l ∷ ls) = finished_local structs false l ∷ finished_by structs [] ls
finished_by structs (m ∷ ms) (l ∷ ls) = finished_local structs m l ∷ finished_by structs ms ls

-- the body of a function on a line
abbrev pub defined_function : CFile → ℕ → List ℕ → CType → List CParam → BlockTree → Rule CFile
defined_function f line x t params body =
    block (record { result = t; in_loop = false }) (begun f.scene params) body >>= λ y.
    Ok (record f {
      scene = ended y.1;
      functions = f.functions ++ record {
        name = x;
        line = line;
        result = t;
        params = length params;
        locals = finished y.1.structs y.0 0 y.1.locals;
        body = y.0;
      } ∷ [];
    })

-- the program of a file, whose main is the function of the number
abbrev pub program_from : CFile → ℕ → CProgram
program_from f main = record { structs = f.scene.structs; globals = f.globals; texts = f.scene.texts; functions = f.functions; main = main }

-- whether a function is called and has no definition
abbrev pub is_missing : CDeclared → Bool → Bool
is_missing f is_called = is_called && not f.is_defined
