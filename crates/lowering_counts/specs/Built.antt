-- Which programs are built: those of numbers.
use Rattle.std.specs.Prelude.{Bool, true, false, not, ◌&&◌, IsTrue, List, [], ◌∷◌}
use Rattle.typed_tree.specs.declared.typed_expr.Called.{Called}
use Rattle.typed_tree.specs.declared.typed_expr.Called.TheVariants.{Defined, Library}
use Rattle.typed_tree.specs.declared.typed_expr.LibCall.{LibCall}
use Rattle.typed_tree.specs.declared.typed_expr.LibCall.TheVariants as lib
use Rattle.typed_tree.specs.Types.{CType}
use Rattle.typed_tree.specs.TypedTree.{CExpr, CForm, CMember, CStruct, CLocal, CFunction, CProgram, CStmt}
use Rattle.typed_tree.specs.Walk.{every_expr, over_stmt}

-- whether a type is a pointer, or an array of such elements
abbrev pub has_pointer : CType → Bool
has_pointer (CType.Pointer t) = true
has_pointer (CType.Array t n) = has_pointer t
has_pointer CType.Void = false
has_pointer CType.Char = false
has_pointer CType.Int = false
has_pointer CType.Unsigned = false
has_pointer (CType.Struct k) = false

-- the functions of the library that work on numbers alone
abbrev pub is_of_numbers : LibCall → Bool
is_of_numbers lib.Putchar = true
is_of_numbers lib.Getchar = true
is_of_numbers lib.Exit = true
is_of_numbers lib.Malloc = false
is_of_numbers lib.Calloc = false
is_of_numbers lib.Free = false
is_of_numbers lib.Memcpy = false
is_of_numbers lib.Memset = false

abbrev pub is_called : Called → Bool
is_called (Defined f) = true
is_called (Library f) = is_of_numbers f

-- an expression of no pointer type, which does not call any other function of the library, and names no pointer type
abbrev pub is_built_expr : CExpr → Bool
is_built_expr (CExpr.expr at t (CForm.Call f es)) = not (has_pointer t) && is_called f
is_built_expr (CExpr.expr at t (CForm.SizeofType u)) = not (has_pointer t) && not (has_pointer u)
is_built_expr (CExpr.expr at t _) = not (has_pointer t)

-- whether all expressions in a statement are such ones, those below `sizeof` too
abbrev pub is_built_stmt : CStmt → Bool
is_built_stmt x = over_stmt (record {
  nothing = true;
  both = λ a b. a && b;
  expr = every_expr is_built_expr;
  initial = λ i. true;
  declaration = λ d. true;
  statement = λ s. true;
}) x

abbrev pub are_built_members : List CMember → Bool
are_built_members [] = true
are_built_members (m ∷ ms) = not (has_pointer m.ty) && are_built_members ms

abbrev pub are_built_structs : List CStruct → Bool
are_built_structs [] = true
are_built_structs (s ∷ ss) = are_built_members s.members && are_built_structs ss

-- a local that is no block local, and no pointer
abbrev pub are_built_locals : List CLocal → Bool
are_built_locals [] = true
are_built_locals (l ∷ ls) = not l.is_block && not (has_pointer l.ty) && are_built_locals ls

abbrev pub is_built_function : CFunction → Bool
is_built_function f = not (has_pointer f.result) && are_built_locals f.locals && is_built_stmt f.body

abbrev pub are_built_functions : List CFunction → Bool
are_built_functions [] = true
are_built_functions (f ∷ fs) = is_built_function f && are_built_functions fs

abbrev pub is_empty : {A : Type 0} → List A → Bool
is_empty [] = true
is_empty (x ∷ xs) = false

-- A program without global objects, block locals, pointer types and calls of the library other than `putchar`, `getchar`
-- and `exit`.
abbrev pub is_built : CProgram → Bool
is_built p = is_empty p.globals && is_empty p.texts && are_built_structs p.structs && are_built_functions p.functions

abbrev pub IsBuilt : CProgram → Type 0
IsBuilt p = IsTrue (is_built p)
