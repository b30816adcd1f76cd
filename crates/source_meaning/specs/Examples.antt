-- How the examples of runs are written: short names for the parts of typed programs, and what is told of a run. The C text
-- of each program stands above it; all of it is line 1, but where its lines are numbered.
use Rattle.std.specs.Prelude.{◌≡◌, ℕ, ◌-◌, Bool, true, false, List, [], ◌∷◌, map, Some, None, ℤ, negsuc}
use Rattle.c_words.specs.declared.place.At.{At}
use Rattle.typed_tree.specs.declared.typed.InitialByte.{InitialByte}
use Rattle.typed_tree.specs.declared.typed_expr.Conversion.TheVariants as conversion
use Rattle.c_words.specs.declared.operators.AssignOperator.TheVariants as assign
use Rattle.typed_tree.specs.Types.{CType}
use Rattle.typed_tree.specs.TypedTree.{CExpr, CForm, CExprs, CInitial, CInitials, CDeclaration, CStmt, CStmts}
use Rattle.typed_tree.specs.TypedTree.{CMember, CStruct, CGlobal, CLocal, CFunction, CProgram, type_of}
use Rattle.source_meaning.specs.declared.values.Pointer.{Pointer}
use Rattle.source_meaning.specs.declared.values.Pointer.TheVariants as pointer
use Rattle.source_meaning.specs.declared.values.Ending.{Ending}
use Rattle.source_meaning.specs.Objects.{Object}
use Rattle.source_meaning.specs.Worlds.{Mark}
use Rattle.source_meaning.specs.Runs.{Outcome, outcome}

-- ---- Programs

-- a place on this line; most texts have one line
abbrev pub on : ℕ → At
on line = record { token = 0; line = line }

abbrev pub here : At
here = on 1

abbrev pub e_on : ℕ → CType → CForm → CExpr
e_on line t form = CExpr.expr (on line) t form

abbrev pub e : CType → CForm → CExpr
e t form = e_on 1 t form

abbrev pub number : ℕ → CExpr
number n = e CType.Int (CForm.Number n)

-- a local of type int
abbrev pub local : ℕ → CExpr
local k = e CType.Int (CForm.Local k)

-- a local of another type
abbrev pub named : CType → ℕ → CExpr
named t k = e t (CForm.Local k)

-- a local array of n elements, as the pointer to its first element
abbrev pub array : (element : CType) → (n k : ℕ) → CExpr
array t n k = e (CType.Pointer t) (CForm.Convert conversion.ArrayToPointer (named (CType.Array t n) k))

-- a number as one of another type
abbrev pub as_number : CType → CExpr → CExpr
as_number t x = e t (CForm.Convert conversion.NumberToNumber x)

-- `x = y`, which has the type of x
abbrev pub set : CExpr → CExpr → CExpr
set x y = e (type_of x) (CForm.Assign assign.Assign x y)

-- the arguments of a call
abbrev pub given : List CExpr → CExprs
given [] = CExprs.none
given (x ∷ xs) = CExprs.more x (given xs)

abbrev pub given_none : CExprs
given_none = CExprs.none

-- what stands between braces
abbrev pub parts : List CInitial → CInitials
parts [] = CInitials.none
parts (x ∷ xs) = CInitials.more x (parts xs)

abbrev pub declares : At → ℕ → CDeclaration
declares at k = record { at = at; local = k; initializer = None }

abbrev pub declares_with : At → ℕ → CInitial → CDeclaration
declares_with at k x = record { at = at; local = k; initializer = Some (record { at = at; value = x }) }

-- statements and declarations on line 1: `x;`, `return x;`, and local k, without an initializer and with one
abbrev pub does : CExpr → CStmt
does x = CStmt.Eval here x

abbrev pub gives : CExpr → CStmt
gives x = CStmt.Return here (Some x)

abbrev pub declared : ℕ → CStmt
declared k = CStmt.Declare (declares here k)

abbrev pub starts : ℕ → CExpr → CStmt
starts k x = CStmt.Declare (declares_with here k (CInitial.Value x))

abbrev pub block : List CStmt → CStmts
block [] = CStmts.none
block (x ∷ xs) = CStmts.more x (block xs)

-- an int or a pointer that has no address
abbrev pub variable : CType → CLocal
variable t = record { name = []; ty = t; size = 4; is_block = false }

-- a char that has none
abbrev pub small_variable : CLocal
small_variable = record { name = []; ty = CType.Char; size = 1; is_block = false }

abbrev pub in_memory : CType → ℕ → CLocal
in_memory t n = record { name = []; ty = t; size = n; is_block = true }

abbrev pub function : (line : ℕ) → CType → (params : ℕ) → List CLocal → (body : CStmt) → CFunction
function line t params locals body =
    record { name = []; line = line; result = t; params = params; locals = locals; body = body }

abbrev pub member : CType → ℕ → CMember
member t offset = record { name = []; ty = t; offset = offset }

abbrev pub struct : (size align : ℕ) → List CMember → CStruct
struct size align members = record { tag = []; members = members; size = size; align = align }

abbrev pub global : CType → ℕ → List InitialByte → CGlobal
global t size initial = record { name = []; ty = t; size = size; initial = initial }

abbrev pub program : List CStruct → List CGlobal → List (List ℕ) → List CFunction → (main : ℕ) → CProgram
program structs globals texts functions main =
    record { structs = structs; globals = globals; texts = texts; functions = functions; main = main }

-- a program of `main` alone, all on line 1
abbrev pub main_of : List CLocal → List CStmt → CProgram
main_of locals body = program [] [] [] (function 1 CType.Int 0 locals (CStmt.Block here (block body)) ∷ []) 0

-- ---- Runs

-- an offset of so many bytes below the start of an object
abbrev pub below : ℕ → ℤ
below n = negsuc (n - 1)

abbrev pub at : ℕ → ℤ → Pointer
at k z = pointer.To k z

-- what is told of a run: how it ended, what it wrote, how many nodes and bytes it counted, and what it left behind
pub record Told : Type 0 where
  pub ending : Ending
  pub output : List ℕ
  pub nodes : ℕ
  pub bytes : ℕ
  pub trail : List Mark

abbrev pub told : Outcome → Told
told o = record {
  ending = o.ending;
  output = o.state.world.output;
  nodes = o.state.nodes;
  bytes = o.state.world.bytes;
  trail = o.state.world.trail;
}

-- an object as it is at the end of a run: whether it lives, its base, its exponent and its length
abbrev pub shown : Object → Bool × ℕ × ℕ × ℕ
shown o = (o.live, o.base, o.exponent, o.length)

-- what the run holds at its end: the rest of the input, how many calls are live, the stack number, and the objects
abbrev pub accounts : Outcome → List ℕ × ℕ × ℕ × List (Bool × ℕ × ℕ × ℕ)
accounts o = (o.state.world.rest, o.state.world.depth, o.state.world.stack, map shown o.state.world.objects)

-- the run of a program on an input, with slots of 2 ^ g bytes and m turns, is told so
abbrev pub Runs : (g : ℕ) → CProgram → (input : List ℕ) → (m : ℕ) → Told → Type 0
Runs g p input m t = told (outcome g p input m) ≡ t
