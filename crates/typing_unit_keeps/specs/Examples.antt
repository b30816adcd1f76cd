-- Small files and what typing answers.
use Rattle.std.specs.Prelude.{◌≡◌, ℕ, Bool, true, false, Option, Some, None, Ok, Err, List, [], ◌∷◌, map, codes}
use Rattle.c_words.specs.declared.place.At.{At}
use Rattle.syntax_tree.specs.declared.syntax.specifiers.Specifier.{Specifier as SpecifierTree}
use Rattle.syntax_tree.specs.declared.syntax.specifiers.Specifier.TheVariants as words
use Rattle.syntax_tree.specs.Syntax.{ExpressionTree, ExpressionTrees, ParameterDeclaratorTree, ParameterTree, ParametersTree, SuffixTree}
use Rattle.syntax_tree.specs.Syntax.{DeclaratorTree, TypeNameTree, TypeDeclaratorTree, InitializerTree, InitializerTrees, InitDeclaratorTree}
use Rattle.syntax_tree.specs.Syntax.{StatementTree, BlockTree, BlockItemTree, BlockItemTrees, HeadTree, ExternalTree}
use Rattle.c_words.specs.declared.operators.UnaryOperator.{UnaryOperator}
use Rattle.c_words.specs.declared.operators.UnaryOperator.TheVariants as one
use Rattle.c_words.specs.declared.operators.BinaryOperator.{BinaryOperator}
use Rattle.c_words.specs.declared.operators.BinaryOperator.TheVariants as two
use Rattle.c_words.specs.declared.operators.AssignOperator.TheVariants as assign
use Rattle.c_words.specs.declared.operators.StepOperator.TheVariants as step
use Rattle.typed_tree.specs.declared.typed.InitialByte.{InitialByte}
use Rattle.typed_tree.specs.declared.typed.InitialByte.TheVariants.{Byte}
use Rattle.typed_tree.specs.TypedTree.{CFunction, CProgram}
use Rattle.typing_operators.specs.declared.error.TypeError.TheVariants.{Unknown, Twice, BadType, NoMain, TooLarge, TooManyParams}
use Rattle.typing_operators.specs.Rule.{Rule}
use Rattle.typing_unit_keeps.specs.Units.{typed_unit}

-- a place on a line; the tokens are not counted here
abbrev on : ℕ → At
on line = record { token = 0; line = line }

abbrev int : SpecifierTree
int = words.Int (on 1)

abbrev number : ℕ → ExpressionTree
number n = ExpressionTree.Number (on 1) n false

abbrev name : List ℕ → ExpressionTree
name x = ExpressionTree.Name (on 1) x

-- `x` on a line
abbrev plain : ℕ → List ℕ → DeclaratorTree
plain line x = DeclaratorTree.Named (on line) 0 x []

-- `x[size]`
abbrev array : List ℕ → Option ExpressionTree → DeclaratorTree
array x size = DeclaratorTree.Named (on 1) 0 x (SuffixTree.Array (record { at = on 1; size = size }) ∷ [])

-- `f(params)` on a line
abbrev function : ℕ → List ℕ → Option ParametersTree → DeclaratorTree
function line f params = DeclaratorTree.Named (on line) 0 f (SuffixTree.Function (on line) params ∷ [])

abbrev declares : DeclaratorTree → Option InitializerTree → InitDeclaratorTree
declares d init = record { at = on 1; declarator = d; initializer = init }

-- `int d;` at file scope
abbrev global : DeclaratorTree → ExternalTree
global d = ExternalTree.Declaration (on 1) (HeadTree.Specifier int) (declares d None ∷ [])

abbrev listed : List BlockItemTree → BlockItemTrees
listed [] = BlockItemTrees.none
listed (x ∷ xs) = BlockItemTrees.more x (listed xs)

-- `int main(void) { .. }`
abbrev main : List BlockItemTree → ExternalTree
main xs = ExternalTree.Function (on 1) (HeadTree.Specifier int) (function 1 (codes "main") (Some (ParametersTree.Void (on 1))))
    (BlockTree.block (on 1) (listed xs))

abbrev returns : ExpressionTree → BlockItemTree
returns e = BlockItemTree.Statement (StatementTree.Return (on 1) (Some e))

abbrev local : SpecifierTree → DeclaratorTree → Option InitializerTree → BlockItemTree
local s d init = BlockItemTree.Declaration (record { at = on 1; specifier = s; declarators = declares d init ∷ [] })

abbrev typing : List ExternalTree → Rule CProgram
typing es = typed_unit (record { at = on 1; externals = es })

-- `void f()`, declared on a line
abbrev nothing_from : ℕ → List ℕ → ExternalTree
nothing_from line f = ExternalTree.Declaration (on line) (HeadTree.Specifier (words.Void (on line))) (declares (function line f None) None ∷ [])

-- `struct s { int m; } s;`
abbrev struct_s : ExternalTree
struct_s = ExternalTree.Declaration (on 1)
    (HeadTree.Struct (record { at = on 1; tag = codes "s"; members = record { at = on 1; specifier = int; declarators = plain 1 (codes "m") ∷ [] } ∷ [] }))
    (declares (plain 1 (codes "s")) None ∷ [])

-- the declarator `*p`
abbrev star : List ℕ → DeclaratorTree
star p = DeclaratorTree.Named (on 1) 1 p []

-- `int *p; void *v; void f(); struct s { int m; } s; int main(void) { e; }`, where `e` stands on line 5
abbrev evaluating : ExpressionTree → Rule CProgram
evaluating e =
    typed_unit (record {
      at = on 1;
      externals =
          global (star (codes "p")) ∷ ExternalTree.Declaration (on 1) (HeadTree.Specifier (words.Void (on 1))) (declares (star (codes "v")) None ∷ [])
          ∷ nothing_from 1 (codes "f") ∷ struct_s ∷ main (BlockItemTree.Statement (StatementTree.Expression (on 5) e) ∷ []) ∷ [];
    })

abbrev unary : UnaryOperator → ExpressionTree → ExpressionTree
unary op e = ExpressionTree.Unary (on 5) op e

abbrev binary : ExpressionTree → BinaryOperator → ExpressionTree → ExpressionTree
binary a op b = ExpressionTree.Binary (on 5) a op b

abbrev sets : ExpressionTree → ExpressionTree → ExpressionTree
sets a b = ExpressionTree.Assign (on 5) a assign.Assign b

abbrev is_accepted : Rule CProgram → Bool
is_accepted (Ok p) = true
is_accepted (Err e) = false

abbrev calls : List ℕ → ExpressionTree
calls f = ExpressionTree.Call (on 1) (name f) ExpressionTrees.none

abbrev parameter : List ℕ → ParameterTree
parameter x = record { at = on 1; specifier = int; declarator = ParameterDeclaratorTree.Named (on 1) 0 x [] }

-- parts in braces
abbrev braces : List ExpressionTree → InitializerTree
braces es = InitializerTree.Braced (on 1) (parts es)
  where
    parts : List ExpressionTree → InitializerTrees
    parts [] = InitializerTrees.none
    parts (e ∷ es) = InitializerTrees.more (InitializerTree.Expression e) (parts es)

-- `s d = init;` at file scope
abbrev initialized : SpecifierTree → DeclaratorTree → InitializerTree → ExternalTree
initialized s d init = ExternalTree.Declaration (on 1) (HeadTree.Specifier s) (declares d (Some init) ∷ [])

abbrev string : List ℕ → ExpressionTree
string bytes = ExpressionTree.Text (on 1) (bytes ∷ [])

-- what the globals of an accepted file hold at first
abbrev initials : Rule CProgram → List (List InitialByte)
initials (Ok p) = map (λ g. g.initial) p.globals
initials (Err e) = []

-- which locals of its first function lie in memory
abbrev blocks : Rule CProgram → List Bool
blocks (Ok p) = of_first p.functions
  where
    of_first : List CFunction → List Bool
    of_first [] = []
    of_first (f ∷ fs) = map (λ l. l.is_block) f.locals
blocks (Err e) = []

-- its strings that are objects
abbrev strings : Rule CProgram → List (List ℕ)
strings (Ok p) = p.texts
strings (Err e) = []

pub record SmallFiles : Type 0 where
  pub nothing : typing [] ≡ Err NoMain
  -- int main(void) { return x; }
  pub unknown : typing (main (returns (name (codes "x")) ∷ []) ∷ []) ≡ Err (Unknown 1 (codes "x"))
  -- int x; int x;
  pub twice : typing (global (plain 1 (codes "x")) ∷ global (plain 2 (codes "x")) ∷ []) ≡ Err (Twice 2 (codes "x"))
  -- int a[1048577];
  pub large : typing (global (array (codes "a") (Some (number 1048577))) ∷ []) ≡ Err (TooLarge 1 4194308)
  -- int putchar;
  pub in_library : typing (global (plain 1 (codes "putchar")) ∷ []) ≡ Err (Twice 1 (codes "putchar"))
  -- int main;
  pub object_main : typing (global (plain 1 (codes "main")) ∷ []) ≡ Err (BadType 1 5)
  -- int main(void) { int *p = 5; return 0; }
  pub pointer : typing (main (local int (DeclaratorTree.Named (on 1) 1 (codes "p") []) (Some (InitializerTree.Expression (number 5))) ∷ returns (number 0)
      ∷ []) ∷ []) ≡ Err (BadType 1 10)
  -- int main(void) { break; }
  pub breaks : typing (main (BlockItemTree.Statement (StatementTree.Break (on 1)) ∷ []) ∷ []) ≡ Err (BadType 1 17)
  -- int f(void); int main(void) { return f(); }
  pub undefined : typing (global (function 7 (codes "f") None) ∷ main (returns (calls (codes "f")) ∷ []) ∷ []) ≡ Err (Unknown 7 (codes "f"))
  -- int f(void); int a[sizeof f()]; int main(void) { return 0; }
  pub aside : is_accepted (typing
      (global (function 7 (codes "f") None) ∷ global (array (codes "a") (Some (ExpressionTree.SizeofExpression (on 1) (calls (codes "f")))))
      ∷ main (returns (number 0) ∷ []) ∷ [])) ≡ true
  -- int main(void) { int a[] = { sizeof a, 0 }; return 0; }
  pub own_size : is_accepted (typing
      (main (local int (array (codes "a") None)
      (Some (InitializerTree.Braced (on 1)
      (InitializerTrees.more (InitializerTree.Expression (ExpressionTree.SizeofExpression (on 1) (name (codes "a"))))
      (InitializerTrees.more (InitializerTree.Expression (number 0)) InitializerTrees.none)))) ∷ returns (number 0) ∷ []) ∷ [])) ≡ true
  -- int f(int a, int a);
  pub params : typing (global (function 1 (codes "f") (Some (ParametersTree.Listed (on 1) (parameter (codes "a") ∷ parameter (codes "a") ∷ [])))) ∷ [])
      ≡ Err (Twice 1 (codes "a"))
  -- struct s { struct s t; };
  pub in_itself : typing (ExternalTree.Declaration (on 1)
      (HeadTree.Struct (record {
        at = on 1;
        tag = codes "s";
        members =
            record { at = on 1; specifier = words.Struct (on 1) (codes "s"); declarators = plain 1 (codes "t") ∷ [] } ∷ [];
      })) [] ∷ []) ≡ Err (BadType 1 1)
  -- int f(void) { } int main(void) { return f(); } int f(void) { }
  pub defined_twice : typing (ExternalTree.Function (on 1) (HeadTree.Specifier int) (function 1 (codes "f") None) (BlockTree.block (on 1) BlockItemTrees.none)
      ∷ main (returns (calls (codes "f")) ∷ []) ∷ ExternalTree.Function (on 3) (HeadTree.Specifier int) (function 3 (codes "f") None)
      (BlockTree.block (on 3) BlockItemTrees.none) ∷ []) ≡ Err (Twice 3 (codes "f"))
  -- int f(int a, int b, int c, int d, int e, int f, int g, int h, int i);
  pub many_params : typing (global
      (function 1 (codes "f") (Some (ParametersTree.Listed (on 1)
      (parameter (codes "a") ∷ parameter (codes "b") ∷ parameter (codes "c") ∷ parameter (codes "d")
      ∷ parameter (codes "e") ∷ parameter (codes "f") ∷ parameter (codes "g") ∷ parameter (codes "h") ∷ parameter (codes "i") ∷ [])))) ∷ [])
      ≡ Err (TooManyParams 1)
  -- struct s { int m; } s; struct s g = "a";
  pub string_copied : typing (struct_s
      ∷ initialized (words.Struct (on 1) (codes "s")) (plain 1 (codes "g")) (InitializerTree.Expression (string (codes "a"))) ∷ []) ≡ Err (BadType 1 23)
  -- void f(); int main(void) { int a[1] = { 1, f() }; return 0; }
  pub void_excess : typing (nothing_from 1 (codes "f")
      ∷ main (local int (array (codes "a") (Some (number 1))) (Some (braces (number 1 ∷ calls (codes "f") ∷ []))) ∷ returns (number 0) ∷ []) ∷ [])
      ≡ Err (BadType 1 19)
  -- void f(); int x = { f() };
  pub void_in_braces : typing (nothing_from 1 (codes "f") ∷ initialized int (plain 1 (codes "x")) (braces (calls (codes "f") ∷ [])) ∷ [])
      ≡ Err (BadType 1 19)

-- For each rule a file that breaks it.
pub record BrokenRules : Type 0 where
  -- void x;
  pub rule1 : typing (ExternalTree.Declaration (on 1) (HeadTree.Specifier (words.Void (on 1))) (declares (plain 2 (codes "x")) None ∷ []) ∷ [])
      ≡ Err (BadType 2 1)
  -- int (*f)();
  pub rule2 : typing (global (DeclaratorTree.Nested (on 1) 0 (star (codes "f")) (SuffixTree.Function (on 2) None ∷ [])) ∷ []) ≡ Err (BadType 1 2)
  -- int a[0];
  pub rule3 : typing (global (array (codes "a") (Some (number 0))) ∷ []) ≡ Err (BadType 1 3)
  -- int a[];
  pub rule3_missing : typing (global (array (codes "a") None) ∷ []) ≡ Err (BadType 1 3)
  -- int x { }
  pub rule4 : typing (ExternalTree.Function (on 1) (HeadTree.Specifier int) (plain 1 (codes "x")) (BlockTree.block (on 1) BlockItemTrees.none) ∷ [])
      ≡ Err (BadType 1 4)
  -- int f() = 1;
  pub rule4_initializer : typing
      (ExternalTree.Declaration (on 1) (HeadTree.Specifier int) (declares (function 1 (codes "f") None) (Some (InitializerTree.Expression (number 1))) ∷ [])
      ∷ []) ≡ Err (BadType 1 4)
  -- int f(); void f();
  pub rule5 : typing (global (function 1 (codes "f") None) ∷ nothing_from 2 (codes "f") ∷ []) ≡ Err (BadType 2 5)
  pub rule6_address : evaluating (unary one.Address (number 1)) ≡ Err (BadType 5 6)
  pub rule6_step : evaluating (ExpressionTree.StepBefore (on 5) step.Increment (number 1)) ≡ Err (BadType 5 6)
  pub rule6_assignment : evaluating (sets (number 1) (number 2)) ≡ Err (BadType 5 6)
  pub rule7 : evaluating (unary one.Minus (name (codes "p"))) ≡ Err (BadType 5 7)
  pub rule8 : evaluating (binary (name (codes "v")) two.Add (number 1)) ≡ Err (BadType 5 8)
  pub rule9 : evaluating (binary (name (codes "p")) two.Less (number 1)) ≡ Err (BadType 5 9)
  pub rule10 : evaluating (sets (name (codes "p")) (number 1)) ≡ Err (BadType 5 10)
  -- (int *) 1
  pub rule11 : evaluating (ExpressionTree.Cast (on 5) (TypeNameTree.type_name (on 5) int (TypeDeclaratorTree.Direct (on 5) 1 ExpressionTrees.none))
      (number 1)) ≡ Err (BadType 5 11)
  pub rule12 : evaluating (unary one.Dereference (number 1)) ≡ Err (BadType 5 12)
  pub rule12_index : evaluating (ExpressionTree.Index (on 5) (name (codes "p")) (name (codes "p"))) ≡ Err (BadType 5 12)
  pub rule13 : evaluating (ExpressionTree.Member (on 5) (name (codes "s")) (codes "n")) ≡ Err (BadType 5 13)
  pub rule14 : evaluating (unary one.Not (name (codes "s"))) ≡ Err (BadType 5 14)
  pub rule15 : evaluating (ExpressionTree.Conditional (on 5) (number 1) (number 2) (name (codes "p"))) ≡ Err (BadType 5 15)
  pub rule16_value : evaluating (binary (name (codes "f")) two.Add (number 1)) ≡ Err (BadType 1 16)
  pub rule16_object : evaluating (ExpressionTree.Call (on 5) (name (codes "p")) ExpressionTrees.none) ≡ Err (BadType 5 16)
  pub rule16_arguments : evaluating (ExpressionTree.Call (on 5) (name (codes "f")) (ExpressionTrees.more (number 1) ExpressionTrees.none))
      ≡ Err (BadType 5 16)
  -- continue;
  pub rule17 : typing (main (BlockItemTree.Statement (StatementTree.Continue (on 3)) ∷ []) ∷ []) ≡ Err (BadType 3 17)
  -- return;
  pub rule18 : typing (main (BlockItemTree.Statement (StatementTree.Return (on 3) None) ∷ []) ∷ []) ≡ Err (BadType 3 18)
  -- s = f()
  pub rule19 : evaluating (sets (name (codes "s")) (calls (codes "f"))) ≡ Err (BadType 5 19)
  -- int a[1] = { 1, 2 };
  pub rule20 : typing (ExternalTree.Declaration (on 1) (HeadTree.Specifier int) (declares (array (codes "a") (Some (number 1)))
      (Some (InitializerTree.Braced (on 1)
      (InitializerTrees.more (InitializerTree.Expression (number 1))
      (InitializerTrees.more (InitializerTree.Expression (number 2)) InitializerTrees.none)))) ∷ []) ∷ []) ≡ Err (BadType 1 20)
  -- int x; int y = x;
  pub rule21 : typing (global (plain 1 (codes "x"))
      ∷ ExternalTree.Declaration (on 1) (HeadTree.Specifier int)
      (declares (plain 1 (codes "y")) (Some (InitializerTree.Expression (name (codes "x")))) ∷ []) ∷ []) ≡ Err (BadType 1 21)
  -- int f(int) { }
  pub rule22 : typing (ExternalTree.Function (on 1) (HeadTree.Specifier int)
      (function 1 (codes "f") (Some (ParametersTree.Listed (on 1)
      (record { at = on 2; specifier = int; declarator = ParameterDeclaratorTree.Unnamed (on 2) 0 [] } ∷ [])))) (BlockTree.block (on 1) BlockItemTrees.none)
      ∷ []) ≡ Err (BadType 2 22)
  -- s = (1, s)
  pub rule23 : evaluating (sets (name (codes "s")) (ExpressionTree.Comma (on 5) (number 1) (name (codes "s")))) ≡ Err (BadType 5 23)

-- Files that are accepted, and what they become.
pub record AcceptedFiles : Type 0 where
  -- int main(void) { return 42; }
  pub forty_two : is_accepted (typing (main (returns (number 42) ∷ []) ∷ [])) ≡ true
  -- f(), p = 0, s = s, v = p, p[1]++
  pub many : is_accepted (evaluating
      (ExpressionTree.Comma (on 5) (sets (name (codes "p")) (number 0)) (ExpressionTree.Comma (on 5) (sets (name (codes "s")) (name (codes "s")))
      (ExpressionTree.Comma (on 5) (sets (name (codes "v")) (name (codes "p")))
      (ExpressionTree.StepAfter (on 5) (ExpressionTree.Index (on 5) (name (codes "p")) (number 1)) step.Increment))))) ≡ true
  -- int x = -2; int main(void) { return 0; }
  pub minus_two : initials (typing (initialized int (plain 1 (codes "x")) (InitializerTree.Expression (ExpressionTree.Unary (on 1) one.Minus (number 2)))
      ∷ main (returns (number 0) ∷ []) ∷ []))
      ≡ (Byte 254 ∷ Byte 255 ∷ Byte 255 ∷ Byte 255 ∷ []) ∷ []
  -- struct s { char c; int i; } g = { 1, 2 }; int main(void) { return 0; }
  pub padded : initials (typing (ExternalTree.Declaration (on 1) (HeadTree.Struct (record {
    at = on 1;
    tag = codes "s";
    members = record { at = on 1; specifier = words.Char (on 1); declarators = plain 1 (codes "c") ∷ [] }
        ∷ record { at = on 1; specifier = int; declarators = plain 1 (codes "i") ∷ [] } ∷ [];
  }))
      (declares (plain 1 (codes "g")) (Some (braces (number 1 ∷ number 2 ∷ []))) ∷ []) ∷ main (returns (number 0) ∷ []) ∷ []))
      ≡ (Byte 1 ∷ Byte 0 ∷ Byte 0 ∷ Byte 0 ∷ Byte 2 ∷ Byte 0 ∷ Byte 0 ∷ Byte 0 ∷ []) ∷ []
  -- int main(void) { int a; int b; int c[sizeof &a]; return sizeof &b; }
  pub in_memory : blocks (typing (main (local int (plain 1 (codes "a")) None ∷ local int (plain 1 (codes "b")) None
      ∷ local int (array (codes "c") (Some (ExpressionTree.SizeofExpression (on 1) (ExpressionTree.Unary (on 1) one.Address (name (codes "a")))))) None
      ∷ returns (ExpressionTree.SizeofExpression (on 1) (ExpressionTree.Unary (on 1) one.Address (name (codes "b")))) ∷ []) ∷ [])) ≡ false ∷ true
      ∷ true ∷ []
  -- int main(void) { char a[sizeof "xy"]; char b[3] = "pq"; return sizeof "z" + "w"[0]; }
  pub objects : strings (typing (main (local (words.Char (on 1)) (array (codes "a") (Some (ExpressionTree.SizeofExpression (on 1) (string (codes "xy"))))) None
      ∷ local (words.Char (on 1)) (array (codes "b") (Some (number 3))) (Some (InitializerTree.Expression (string (codes "pq"))))
      ∷ returns (ExpressionTree.Binary (on 1) (ExpressionTree.SizeofExpression (on 1) (string (codes "z"))) two.Add
      (ExpressionTree.Index (on 1) (string (codes "w")) (number 0))) ∷ []) ∷ [])) ≡ codes "z" ∷ codes "w" ∷ []
