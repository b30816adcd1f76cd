-- A program for each rule of typing that breaks it, and none of them is typed.
use Rattle.std.specs.Prelude.{ℕ, true, false, Some, None, List, [], ◌∷◌, replicate, codes}
use Rattle.c_words.specs.declared.operators.UnaryOperator.TheVariants as unary
use Rattle.c_words.specs.declared.operators.BinaryOperator.TheVariants as binary
use Rattle.c_words.specs.declared.operators.AssignOperator.TheVariants as assign
use Rattle.c_words.specs.declared.operators.StepOperator.TheVariants as step
use Rattle.typed_tree.specs.declared.typed_expr.Called.TheVariants.{Defined, Library}
use Rattle.typed_tree.specs.declared.typed_expr.LibCall.TheVariants.{Putchar}
use Rattle.typed_tree.specs.declared.typed_expr.Conversion.TheVariants.{PointerToPointer}
use Rattle.typed_tree.specs.declared.typed.InitialByte.TheVariants.{Byte}
use Rattle.typed_tree.specs.Types.{CType}
use Rattle.typed_tree.specs.TypedTree.{CExpr, CForm, CExprs, CInitial, CInitials, CStmt, CStmts, CStruct, CGlobal, CLocal, CFunction, CProgram}
use Rattle.typed_tree.specs.Typed.{Typed, HasLines}
use Rattle.typed_tree.specs.TypedLaws.{token, number, main_function, return_number}

-- `struct s { int m; };` and a tag that is never defined
abbrev pub structs : List CStruct
structs =
    record { tag = codes "s"; members = record { name = codes "m"; ty = CType.Int; offset = 0 } ∷ []; size = 4; align = 4 }
    ∷ record { tag = codes "t"; members = []; size = 0; align = 1 } ∷ []

abbrev pub value_local : CType → ℕ → CLocal
value_local t size = record { name = codes "x"; ty = t; size = size; is_block = false }

abbrev pub block_local : CType → ℕ → CLocal
block_local t size = record { name = codes "x"; ty = t; size = size; is_block = true }

-- `int i; int *p; void *v; struct s s; int a[3]; char c; char *q;`
abbrev pub locals : List CLocal
locals =
    value_local CType.Int 4 ∷ value_local (CType.Pointer CType.Int) 4 ∷ value_local (CType.Pointer CType.Void) 4
    ∷ block_local (CType.Struct 0) 4 ∷ block_local (CType.Array CType.Int 3) 12 ∷ value_local CType.Char 1
    ∷ value_local (CType.Pointer CType.Char) 4 ∷ []

-- `void f(int x) {}`
abbrev pub procedure : CFunction
procedure = record {
  name = codes "f";
  line = 1;
  result = CType.Void;
  params = 1;
  locals = value_local CType.Int 4 ∷ [];
  body = CStmt.Block (token 0) CStmts.none;
}

-- a program of these functions, with the structs
abbrev pub program_with : List CFunction → CProgram
program_with functions = record { structs = structs; globals = []; texts = []; functions = functions; main = 0 }

-- a `main` with those locals and one statement, and `f`
abbrev pub doing_with : CStmt → CProgram
doing_with x = program_with (main_function locals (CStmts.more x CStmts.none) ∷ procedure ∷ [])

abbrev pub made : CType → CForm → CExpr
made t form = CExpr.expr (token 7) t form

-- the program that evaluates an expression
abbrev pub evaluating : CType → CForm → CProgram
evaluating t form = doing_with (CStmt.Eval (token 7) (made t form))

abbrev pub i : CExpr
i = made CType.Int (CForm.Local 0)

abbrev pub p : CExpr
p = made (CType.Pointer CType.Int) (CForm.Local 1)

abbrev pub v : CExpr
v = made (CType.Pointer CType.Void) (CForm.Local 2)

abbrev pub s : CExpr
s = made (CType.Struct 0) (CForm.Local 3)

abbrev pub a : CExpr
a = made (CType.Array CType.Int 3) (CForm.Local 4)

abbrev pub c : CExpr
c = made CType.Char (CForm.Local 5)

abbrev pub q : CExpr
q = made (CType.Pointer CType.Char) (CForm.Local 6)

-- `f(1)`, which has no value
abbrev pub nothing : CExpr
nothing = made CType.Void (CForm.Call (Defined 1) (CExprs.more (number 8 1) CExprs.none))

-- a program with one global
abbrev pub holding : CGlobal → CProgram
holding g = record { structs = []; globals = g ∷ []; texts = []; functions = main_function [] (return_number 0) ∷ []; main = 0 }

-- a `main` with a local of this type
abbrev pub with_local : CLocal → CProgram
with_local l = program_with (main_function (l ∷ []) (return_number 0) ∷ [])

-- None of these is typed.
pub record NotTyped : Type 0 where
  -- an object, or the operand of `sizeof`, of an incomplete type
  pub incomplete_local : ¬ Typed (with_local (block_local (CType.Struct 1) 0))
  pub void_measured : ¬ Typed (evaluating CType.Unsigned (CForm.SizeofType CType.Void))
  -- a function whose result is a struct, one with a parameter that is a struct, one with nine parameters
  pub struct_result : ¬ Typed (program_with (main_function [] (return_number 0) ∷ record procedure { result = CType.Struct 0 } ∷ []))
  pub struct_parameter : ¬ Typed
      (program_with (main_function [] (return_number 0) ∷ record procedure { locals = block_local (CType.Struct 0) 4 ∷ [] } ∷ []))
  pub nine_parameters : ¬ Typed
      (program_with (main_function [] (return_number 0) ∷ record procedure { params = 9; locals = replicate 9 (value_local CType.Int 4) } ∷ []))
  -- an array of no elements
  pub empty_array : ¬ Typed (with_local (block_local (CType.Array CType.Int 0) 0))
  -- `unsigned main(void)`
  pub unsigned_main : ¬ Typed (program_with (record (main_function [] (return_number 0)) { result = CType.Unsigned } ∷ []))
  -- `1 = 2`, `&1`, `a = a`, `a++`
  pub number_set : ¬ Typed (evaluating CType.Int (CForm.Assign assign.Assign (number 6 1) (number 8 2)))
  pub number_referred : ¬ Typed (evaluating (CType.Pointer CType.Int) (CForm.Unary unary.Address (number 8 1)))
  pub array_set : ¬ Typed (evaluating (CType.Array CType.Int 3) (CForm.Assign assign.Assign a a))
  pub array_stepped : ¬ Typed (evaluating (CType.Array CType.Int 3) (CForm.StepAfter step.Increment a))
  -- `p * 2`, `-p`, `p & 1`
  pub pointer_multiplied : ¬ Typed (evaluating CType.Int (CForm.Binary binary.Multiply p (number 8 2)))
  pub pointer_negated : ¬ Typed (evaluating (CType.Pointer CType.Int) (CForm.Unary unary.Minus p))
  pub pointer_masked : ¬ Typed (evaluating CType.Int (CForm.Binary binary.BitAnd p (number 8 1)))
  -- `v + 1`, `1 - p`, `p - q`, `v++`
  pub void_pointer_moved : ¬ Typed (evaluating (CType.Pointer CType.Void) (CForm.Binary binary.Add v (number 8 1)))
  pub pointer_subtracted : ¬ Typed (evaluating (CType.Pointer CType.Int) (CForm.Binary binary.Subtract (number 8 1) p))
  pub pointers_subtracted : ¬ Typed (evaluating CType.Int (CForm.Binary binary.Subtract p q))
  pub void_pointer_stepped : ¬ Typed (evaluating (CType.Pointer CType.Void) (CForm.StepAfter step.Increment v))
  -- `p < 1`, `p < q`, `p == q`
  pub pointer_below_number : ¬ Typed (evaluating CType.Int (CForm.Binary binary.Less p (number 8 1)))
  pub pointers_ordered : ¬ Typed (evaluating CType.Int (CForm.Binary binary.Less p q))
  pub pointers_equated : ¬ Typed (evaluating CType.Int (CForm.Binary binary.Equal p q))
  -- `p = 1`, `p = q`
  pub pointer_set_to_number : ¬ Typed (evaluating (CType.Pointer CType.Int) (CForm.Assign assign.Assign p (number 8 1)))
  pub pointer_converted : ¬ Typed
      (evaluating (CType.Pointer CType.Int) (CForm.Assign assign.Assign p (made (CType.Pointer CType.Int) (CForm.Convert PointerToPointer q))))
  -- `(int *)1`, `(int)p`, `(int)s`
  pub number_cast_to_pointer : ¬ Typed (evaluating (CType.Pointer CType.Int) (CForm.Cast (number 8 1)))
  pub pointer_cast_to_number : ¬ Typed (evaluating CType.Int (CForm.Cast p))
  pub struct_cast : ¬ Typed (evaluating CType.Int (CForm.Cast s))
  -- `*v`, `*i`, `p[p]`
  pub void_followed : ¬ Typed (evaluating CType.Void (CForm.Unary unary.Dereference v))
  pub number_followed : ¬ Typed (evaluating CType.Int (CForm.Unary unary.Dereference i))
  pub pointer_as_index : ¬ Typed (evaluating CType.Int (CForm.Index p p))
  -- the second member of a struct with one, and a member of a number
  pub no_member : ¬ Typed (evaluating CType.Int (CForm.Member s 1))
  pub number_with_member : ¬ Typed (evaluating CType.Int (CForm.Member i 0))
  -- `!s`, `if (s) ;`
  pub struct_negated : ¬ Typed (evaluating CType.Int (CForm.Unary unary.Not s))
  pub struct_tested : ¬ Typed (doing_with (CStmt.If (token 6) s (CStmt.Empty (token 9))))
  -- `i ? i : p`, `i ? s : s`
  pub unlike_alternatives : ¬ Typed (evaluating CType.Int (CForm.Conditional i i p))
  pub struct_alternatives : ¬ Typed (evaluating (CType.Struct 0) (CForm.Conditional i s s))
  -- `f()`, `putchar(1, 2)`
  pub argument_missing : ¬ Typed (evaluating CType.Void (CForm.Call (Defined 1) CExprs.none))
  pub argument_too_many : ¬ Typed (evaluating CType.Int (CForm.Call (Library Putchar) (CExprs.more (number 8 1) (CExprs.more (number 9 2) CExprs.none))))
  -- `break;`, `continue;`, `return;`
  pub break_outside : ¬ Typed (doing_with (CStmt.Break (token 6)))
  pub continue_outside : ¬ Typed (doing_with (CStmt.Continue (token 6)))
  pub returns_nothing : ¬ Typed (doing_with (CStmt.Return (token 6) None))
  -- `i = f(1)`, `(int)f(1)`, `return f(1);`
  pub void_set : ¬ Typed (evaluating CType.Int (CForm.Assign assign.Assign i nothing))
  pub void_cast : ¬ Typed (evaluating CType.Int (CForm.Cast nothing))
  pub void_returned : ¬ Typed (doing_with (CStmt.Return (token 6) (Some nothing)))
  -- `int i = { 1 };`, `struct s s = { 1, 2 };`
  pub braces_for_number : ¬ Typed
      (doing_with (CStmt.Declare (record {
        at = token 6;
        local = 0;
        initializer =
            Some (record { at = token 7; value = CInitial.Braces (token 8) (CInitials.more (CInitial.Value (number 9 1)) CInitials.none) });
      })))
  pub parts_too_many : ¬ Typed (doing_with
      (CStmt.Declare (record {
        at = token 6;
        local = 3;
        initializer =
            Some (record {
              at = token 7;
              value =
                  CInitial.Braces (token 8) (CInitials.more (CInitial.Value (number 9 1)) (CInitials.more (CInitial.Value (number 10 2)) CInitials.none));
            });
      })))
  -- `s = (1, s)`: the right side is no place
  pub struct_set_to_comma : ¬ Typed (evaluating CType.Void (CForm.Assign assign.Assign s (made (CType.Struct 0) (CForm.Comma (number 8 1) s))))
  -- `i + c` and `a + 1` without their conversions
  pub char_as_it_is : ¬ Typed (evaluating CType.Int (CForm.Binary binary.Add i c))
  pub array_as_it_is : ¬ Typed (evaluating (CType.Array CType.Int 3) (CForm.Binary binary.Add a (number 8 1)))
  -- `&i`, where `i` is no block local
  pub block_missed : ¬ Typed (evaluating (CType.Pointer CType.Int) (CForm.Unary unary.Address i))
  -- the number 2^32, and a byte 256 of a global
  pub number_too_great : ¬ Typed (evaluating CType.Unsigned (CForm.Number 4294967296))
  pub byte_too_great : ¬ Typed (holding (record { name = codes "g"; ty = CType.Char; size = 1; initial = Byte 256 ∷ [] }))

-- The program `return 42;` has its lines, and not where `main` stands on line 0.
abbrev pub LinesCount : Type 0
LinesCount =
    HasLines (program_with (main_function [] (return_number 42) ∷ []))
    × ¬ HasLines (program_with (record (main_function [] (return_number 42)) { line = 0 } ∷ []))
    × ¬ HasLines (program_with (main_function [] (CStmts.more (CStmt.Empty (record { token = 6; line = 1048576 })) CStmts.none) ∷ []))
