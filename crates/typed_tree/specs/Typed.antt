-- When a typed program keeps the rules of typing.
use Rattle.std.specs.Prelude.{◌≡◌, ℕ, ◌+◌, ◌<◌, ◌≤◌, nat_le, Bool, true, false, ◌&&◌, ◌||◌}
use Rattle.std.specs.Prelude.{◌==◌, IsTrue, All, Option, Some, None, List, length, map, take, slice_get, codes}
use Rattle.c_words.specs.declared.place.At.{At}
use Rattle.c_words.specs.declared.operators.UnaryOperator.TheVariants.{Address}
use Rattle.typed_tree.specs.declared.typed.GlobalObject.{GlobalObject}
use Rattle.typed_tree.specs.declared.typed.GlobalObject.TheVariants.{Named, Text}
use Rattle.typed_tree.specs.declared.typed.InitialByte.{InitialByte}
use Rattle.typed_tree.specs.declared.typed.InitialByte.TheVariants.{Byte, PointerPart}
use Rattle.typed_tree.specs.Types.{CType, is_array, is_struct, IsScalar}
use Rattle.typed_tree.specs.TypedTree.{CExpr, CForm, CInitial, CInitializer, CStmt, CMember, CStruct, CGlobal, CLocal, CFunction, CProgram, at_of}
use Rattle.typed_tree.specs.Walk.{every_expr, some_expr_in, over_stmt}
use Rattle.typed_tree.specs.Sizes.{largest, size_of, IsComplete, IsType, rounded_up, AreInOrder, end_of, greatest_align}
use Rattle.typed_tree.specs.TypedRules.{IsResult, prototype_of}
use Rattle.typed_tree.specs.TypedBody.{Environment, IsBytes, IsStmt}

-- whether an expression is local k
abbrev pub is_local : ℕ → CExpr → Bool
is_local k (CExpr.expr at t (CForm.Local n)) = k == n
is_local k (CExpr.expr at t _) = false

-- whether an expression is `&` applied to local k
abbrev pub refers_to : ℕ → CExpr → Bool
refers_to k (CExpr.expr at t (CForm.Unary Address e)) = is_local k e
refers_to k (CExpr.expr at t _) = false

-- Whether `&` is applied to local k in a statement, also below `sizeof`.
abbrev pub stmt_refers : ℕ → CStmt → Bool
stmt_refers k x = some_expr_in (refers_to k) x

-- 6.7.2.1 p3, p14, p15, p17: The members of a struct have complete types and lie in order, each at the next multiple of
-- its alignment. The struct's alignment is the greatest of theirs, and its size is rounded up to it. A tag that is never
-- defined has no members, and so size 0 and alignment 1.
pub record IsStruct (structs : List CStruct) (s : CStruct) : Type 0 where
  pub types : All (λ m. IsType structs m.ty) s.members
  pub complete : All (λ m. IsComplete structs m.ty) s.members
  pub in_order : AreInOrder structs 0 s.members
  pub align : s.align ≡ greatest_align structs s.members
  pub size : s.size ≡ rounded_up (end_of structs 0 s.members) s.align
  pub fits : s.size ≤ largest

-- struct k lies in a type: as the type itself, or in the elements of an array
pub data IsIn (k : ℕ) : CType → Type 0 where
  itself : IsIn k (CType.Struct k)
  element : {t : CType} {n : ℕ} → IsIn k t → IsIn k (CType.Array t n)

-- 6.7.2.1 p3: struct k lies in struct j: in the type of a member, or in a struct that lies in j
pub data LiesIn (structs : List CStruct) : ℕ → ℕ → Type 0 where
  member : {k j : ℕ} (s : CStruct) (m : CMember) (i : ℕ) → slice_get structs j ≡ Some s → slice_get s.members i ≡ Some m → IsIn k m.ty
      → LiesIn structs k j
  deeper : {k i j : ℕ} → LiesIn structs k i → LiesIn structs i j → LiesIn structs k j

-- 6.7.2.1 p3: A struct lies only in structs of a higher rank, such as the place of its definition among all. So none
-- lies in itself, and what holds of a struct if it holds of those in it holds of all.
pub record AreRanked (structs : List CStruct) : Type 0 where
  pub rank : ℕ → ℕ
  pub rises : (k j : ℕ) (s : CStruct) (m : CMember) (i : ℕ) → slice_get structs j ≡ Some s → slice_get s.members i ≡ Some m → IsIn k m.ty
      → rank k < rank j

-- a global object of the program
abbrev pub IsObject : CProgram → GlobalObject → Type 0
IsObject p (Named k) = k < length p.globals
IsObject p (Text k) = k < length p.texts

-- 6.7.9 p4: A byte of a global is a number, or one of the four parts of a pointer to a global object.
abbrev pub IsInitialByte : CProgram → InitialByte → Type 0
IsInitialByte p (Byte b) = b < 256
IsInitialByte p (PointerPart target part) = IsObject p target × (part < 4)

-- 6.7 p7, 6.7.9: A global has a complete type and the size of it, and what it holds at first is no longer.
pub record IsGlobalObject (p : CProgram) (g : CGlobal) : Type 0 where
  pub type : IsType p.structs g.ty
  pub complete : IsComplete p.structs g.ty
  pub size : g.size ≡ size_of p.structs g.ty
  pub initial_fits : length g.initial ≤ g.size
  pub initial : All (IsInitialByte p) g.initial

-- Local k lies in memory exactly if it is an array, a struct, or `&` is applied to it. It has a complete type (6.7 p7)
-- and the size of it.
pub record IsLocalObject (p : CProgram) (f : CFunction) (k : ℕ) (l : CLocal) : Type 0 where
  pub type : IsType p.structs l.ty
  pub complete : IsComplete p.structs l.ty
  pub size : l.size ≡ size_of p.structs l.ty
  pub is_block : l.is_block ≡ (is_array l.ty || is_struct l.ty || stmt_refers k f.body)

abbrev pub IsBlock : CStmt → Type 0
IsBlock (CStmt.Block at xs) = Unit {0}
IsBlock _ = ⊥

-- what the names in a function of the program stand for
abbrev pub environment_of : CProgram → CFunction → Environment
environment_of p f = record {
  structs = p.structs;
  globals = map (λ g. g.ty) p.globals;
  texts = p.texts;
  functions = map prototype_of p.functions;
  locals = map (λ l. l.ty) f.locals;
  result = f.result;
}

-- 6.9.1: A function has at most 8 parameters, which are numbers or pointers; its body is a block.
pub record IsFunction (p : CProgram) (f : CFunction) : Type 0 where
  pub result_type : IsType p.structs f.result
  pub result : IsResult f.result
  pub params_few : f.params ≤ 8
  pub params_within : f.params ≤ length f.locals
  pub params : All (λ l. IsScalar l.ty) (take f.params f.locals)
  pub locals : (k : ℕ) (l : CLocal) → slice_get f.locals k ≡ Some l → IsLocalObject p f k l
  pub block : IsBlock f.body
  pub body : IsStmt (environment_of p f) false f.body

-- 5.1.2.2.1: the program begins in `int main(void)`
pub record IsMain (p : CProgram) : Type 0 where
  pub function : CFunction
  pub found : slice_get p.functions p.main ≡ Some function
  pub name : function.name ≡ codes "main"
  pub result : function.result ≡ CType.Int
  pub params : function.params ≡ 0

-- 6.4.5: A string has bytes, and with its final zero at most as many as an object may have.
abbrev pub IsString : List ℕ → Type 0
IsString bytes = IsBytes bytes × (length bytes + 1 ≤ largest)

-- The program keeps every rule of typing: each struct has the layout that its members give it and does not lie in
-- itself, each object has the size of its type, no string and no type has more than 1,048,576 bytes, each function's
-- body is typed, and there are at most 1,000 functions.
pub record Typed (p : CProgram) : Type 0 where
  pub structs : All (IsStruct p.structs) p.structs
  pub ranked : AreRanked p.structs
  pub globals : All (IsGlobalObject p) p.globals
  pub texts : All IsString p.texts
  pub functions : All (IsFunction p) p.functions
  pub functions_few : length p.functions ≤ 1000
  pub main : IsMain p

-- a line of a text of at most 1,048,576 bytes, that has a token
abbrev pub is_line : ℕ → Bool
is_line n = nat_le 1 n && nat_le n 1048575

abbrev pub stands_on_line : At → Bool
stands_on_line at = is_line at.line

abbrev pub initial_on_line : CInitial → Bool
initial_on_line (CInitial.Value e) = true
initial_on_line (CInitial.Text at bytes) = stands_on_line at
initial_on_line (CInitial.Braces at parts) = stands_on_line at

abbrev pub initializer_on_line : Option CInitializer → Bool
initializer_on_line None = true
initializer_on_line (Some i) = stands_on_line i.at

abbrev pub statement_on_line : CStmt → Bool
statement_on_line (CStmt.Block at xs) = stands_on_line at
statement_on_line (CStmt.Declare d) = true
statement_on_line (CStmt.Empty at) = stands_on_line at
statement_on_line (CStmt.Eval at e) = stands_on_line at
statement_on_line (CStmt.If at c x) = stands_on_line at
statement_on_line (CStmt.IfElse at c x y) = stands_on_line at
statement_on_line (CStmt.While at c x) = stands_on_line at
statement_on_line (CStmt.Do at x c) = stands_on_line at
statement_on_line (CStmt.For at start c step x) = stands_on_line at
statement_on_line (CStmt.Break at) = stands_on_line at
statement_on_line (CStmt.Continue at) = stands_on_line at
statement_on_line (CStmt.Return at e) = stands_on_line at

-- whether all that stands in a statement has a line
abbrev pub stmt_on_lines : CStmt → Bool
stmt_on_lines x = over_stmt (record {
  nothing = true;
  both = λ a b. a && b;
  expr = every_expr (λ e. stands_on_line (at_of e));
  initial = initial_on_line;
  declaration = λ d. stands_on_line d.at && initializer_on_line d.initializer;
  statement = statement_on_line;
}) x

-- Each line of the program is one of a text of at most 1,048,576 bytes.
abbrev pub HasLines : CProgram → Type 0
HasLines p = All (λ f. IsTrue (is_line f.line && stmt_on_lines f.body)) p.functions
