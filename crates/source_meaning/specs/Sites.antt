-- The numbers of the pointer moves of a program. They are counted from 0 over the functions in the order of their
-- definitions; in a function the parts of a node come in the order in which the text has them, and then the node itself.
-- What `sizeof` measures is not evaluated and has none.
use Rattle.std.specs.Prelude.{◌==◌, ℕ, suc, zero, ◌+◌, Bool, if◌then◌else◌, List, [], ◌∷◌, Option, Some, None, slice_get}
use Rattle.c_words.specs.declared.operators.AssignOperator.{AssignOperator}
use Rattle.c_words.specs.declared.operators.AssignOperator.TheVariants.{Assign}
use Rattle.typed_tree.specs.declared.typed_expr.Called.{Called}
use Rattle.typed_tree.specs.declared.typed_expr.Called.TheVariants.{Defined, Library}
use Rattle.typed_tree.specs.declared.typed_expr.LibCall.{LibCall}
use Rattle.typed_tree.specs.declared.typed_expr.LibCall.TheVariants.{Memcpy, Memset}
use Rattle.typed_tree.specs.Types.{CType, is_pointer, is_struct}
use Rattle.typed_tree.specs.Sizes.{members_of}
use Rattle.typed_tree.specs.TypedTree.{CExpr, CForm, CExprs, CInitial, CInitials, CInitializer, CDeclaration}
use Rattle.typed_tree.specs.TypedTree.{CStart, CStmt, CStmts, CMember, CStruct, CFunction, type_of}

-- the type that a pointer points to
abbrev pub pointee : CType → CType
pointee (CType.Pointer t) = t
pointee t = t

abbrev pub offset_in : Option CMember → ℕ
offset_in None = 0
offset_in (Some m) = m.offset

-- the offset of a member of a struct type (6.7.2.1 p15)
abbrev pub offset_at : List CStruct → CType → ℕ → ℕ
offset_at structs (CType.Struct k) m = offset_in (slice_get (members_of (slice_get structs k)) m)
offset_at structs t m = 0

abbrev pub one_if : Bool → ℕ
one_if b = if b then 1 else 0

-- a member that does not lie at the start is reached by a move
abbrev pub sites_to : (offset : ℕ) → ℕ
sites_to offset = if offset == 0 then 0 else 1

-- a copy has two, that of its source and that of its target; a set has one
abbrev pub sites_of_library : LibCall → ℕ
sites_of_library Memcpy = 2
sites_of_library Memset = 1
sites_of_library other = 0

abbrev pub sites_of_called : Called → ℕ
sites_of_called (Defined f) = 0
sites_of_called (Library f) = sites_of_library f

-- a struct is copied; a pointer is moved by `+=` and `-=`
abbrev pub sites_of_assignment : AssignOperator → CType → ℕ
sites_of_assignment Assign t = if is_struct t then 2 else 0
sites_of_assignment other t = one_if (is_pointer t)

module _ (structs : List CStruct) where
  abbrev mutual
    pub sites_of : CExpr → ℕ
    sites_of (CExpr.expr at t form) = sites_of_form t form

    -- of an expression of this type
    pub sites_of_form : CType → CForm → ℕ
    sites_of_form t (CForm.Local k) = 0
    sites_of_form t (CForm.Global k) = 0
    sites_of_form t (CForm.Text k) = 0
    sites_of_form t (CForm.Number n) = 0
    sites_of_form t (CForm.Character n) = 0
    sites_of_form t CForm.Null = 0
    sites_of_form t CForm.Eof = 0
    sites_of_form t (CForm.Convert k e) = sites_of e
    sites_of_form t (CForm.Index a b) = sites_of a + sites_of b + 1
    sites_of_form t (CForm.Call f es) = sites_of_all es + sites_of_called f
    sites_of_form t (CForm.Member e m) = sites_of e + sites_to (offset_at structs (type_of e) m)
    sites_of_form t (CForm.Arrow e m) = sites_of e + sites_to (offset_at structs (pointee (type_of e)) m)
    sites_of_form t (CForm.StepBefore o e) = sites_of e + one_if (is_pointer t)
    sites_of_form t (CForm.StepAfter o e) = sites_of e + one_if (is_pointer t)
    sites_of_form t (CForm.Unary o e) = sites_of e
    sites_of_form t (CForm.Binary o a b) = sites_of a + sites_of b + one_if (is_pointer t)
    sites_of_form t (CForm.Conditional q a b) = sites_of q + sites_of a + sites_of b
    sites_of_form t (CForm.Assign o a b) = sites_of a + sites_of b + sites_of_assignment o (type_of a)
    sites_of_form t (CForm.Comma a b) = sites_of a + sites_of b
    sites_of_form t (CForm.Cast e) = sites_of e
    sites_of_form t (CForm.SizeofExpression e) = 0
    sites_of_form t (CForm.SizeofType u) = 0

    pub sites_of_all : CExprs → ℕ
    sites_of_all CExprs.none = 0
    sites_of_all (CExprs.more e es) = sites_of e + sites_of_all es

  -- an initializer that is an expression of a struct type copies it
  abbrev mutual
    pub sites_of_initial : CInitial → ℕ
    sites_of_initial (CInitial.Value e) = sites_of e + (if is_struct (type_of e) then 2 else 0)
    sites_of_initial (CInitial.Text at bytes) = 0
    sites_of_initial (CInitial.Braces at parts) = sites_of_parts parts

    pub sites_of_parts : CInitials → ℕ
    sites_of_parts CInitials.none = 0
    sites_of_parts (CInitials.more x xs) = sites_of_initial x + sites_of_parts xs

  abbrev pub sites_of_initializer : Option CInitializer → ℕ
  sites_of_initializer None = 0
  sites_of_initializer (Some i) = sites_of_initial i.value

  abbrev pub sites_of_declarations : List CDeclaration → ℕ
  sites_of_declarations [] = 0
  sites_of_declarations (d ∷ ds) = sites_of_initializer d.initializer + sites_of_declarations ds

  abbrev pub sites_of_start : CStart → ℕ
  sites_of_start CStart.Nothing = 0
  sites_of_start (CStart.Eval e) = sites_of e
  sites_of_start (CStart.Declare ds) = sites_of_declarations ds

  abbrev pub sites_of_option : Option CExpr → ℕ
  sites_of_option None = 0
  sites_of_option (Some e) = sites_of e

  abbrev mutual
    pub sites_of_stmt : CStmt → ℕ
    sites_of_stmt (CStmt.Block at xs) = sites_of_stmts xs
    sites_of_stmt (CStmt.Declare d) = sites_of_initializer d.initializer
    sites_of_stmt (CStmt.Empty at) = 0
    sites_of_stmt (CStmt.Eval at e) = sites_of e
    sites_of_stmt (CStmt.If at q x) = sites_of q + sites_of_stmt x
    sites_of_stmt (CStmt.IfElse at q x y) = sites_of q + sites_of_stmt x + sites_of_stmt y
    sites_of_stmt (CStmt.While at q x) = sites_of q + sites_of_stmt x
    sites_of_stmt (CStmt.Do at x q) = sites_of_stmt x + sites_of q
    sites_of_stmt (CStmt.For at start q step x) =
        sites_of_start start + sites_of_option q + sites_of_option step + sites_of_stmt x
    sites_of_stmt (CStmt.Break at) = 0
    sites_of_stmt (CStmt.Continue at) = 0
    sites_of_stmt (CStmt.Return at e) = sites_of_option e

    pub sites_of_stmts : CStmts → ℕ
    sites_of_stmts CStmts.none = 0
    sites_of_stmts (CStmts.more x xs) = sites_of_stmt x + sites_of_stmts xs

  -- the number of the first move of function f
  abbrev pub first_site : List CFunction → (f : ℕ) → ℕ
  first_site [] f = 0
  first_site (h ∷ hs) zero = 0
  first_site (h ∷ hs) (suc f) = sites_of_stmt h.body + first_site hs f
