-- Mid code: structured code over objects and numbered values, as contracts see it. It has no names, no types and no
-- conversions, and each pointer move and access is a step of its own.
use Rattle.std.specs.Prelude.{ℕ, ℤ, Bool, List, Option}
use Rattle.bb_words.specs.declared.steps.Width.{Width}
use Rattle.bb_words.specs.declared.steps.ArithOp.{ArithOp}
use Rattle.bb_words.specs.declared.steps.DivideOp.{DivideOp}
use Rattle.bb_words.specs.declared.steps.OrderOp.{OrderOp}
use Rattle.block_layout.specs.Layout.{Item}
use Rattle.block_layout.specs.Objects.{Stored}
use Rattle.typed_tree.specs.declared.typed_expr.LibCall.{LibCall}
use Rattle.mid_code.specs.declared.code.MidObject.{MidObject}

mutual
  pub data Step : Type 0 where
    -- a value is set: to a number, to null, to another value
    Number : (to value : ℕ) → Step
    NullPtr : (to : ℕ) → Step
    Same : (to from : ℕ) → Step
    -- an operation on two numbers; a division reports a divisor of zero
    Arith : (to : ℕ) → (op : ArithOp) → (left right : ℕ) → Step
    Divide : (to : ℕ) → (op : DivideOp) → (left right line : ℕ) → Step
    -- the pointer to the start of an object that has a name
    Named : (to : ℕ) → (object : MidObject) → Step
    -- a pointer is moved: by so many elements of `scale` bytes, up or down, or by a distance
    Move : (site to from by scale : ℕ) → (down : Bool) → (line : ℕ) → Step
    MoveBy : (site to from : ℕ) → (distance : ℤ) → (line : ℕ) → Step
    -- memory is read and written; the line is that of the place
    Load : (to at : ℕ) → (width : Width) → (line : ℕ) → Step
    Store : (at from : ℕ) → (width : Width) → Step
    -- initializers: a whole object is zero, a part of one is a value
    Clear : (object : MidObject) → Step
    Init : (object : MidObject) → (offset from : ℕ) → (width : Width) → Step
    -- a struct of so many bytes is copied
    CopyBytes : (site_from site_to from to length line : ℕ) → Step
    -- pointers are compared and subtracted
    PtrSame : (to left right : ℕ) → Step
    PtrOrder : (to : ℕ) → (op : OrderOp) → (left right : ℕ) → Step
    PtrDiff : (to left right size : ℕ) → Step
    Call : (to function : ℕ) → (args : List ℕ) → Step
    Library : (to : ℕ) → (which : LibCall) → (args : List ℕ) → (line : ℕ) → (site_a site_b : Option ℕ) → Step
    If : (cond : ℕ) → (yes no : Steps) → Step
    Block : (body : Steps) → Step
    Loop : (body : Steps) → Step
    -- leaves so many of the Blocks and Loops around it
    Exit : (levels : ℕ) → Step
    Return : (from : ℕ) → Step
    -- a statement of this line begins
    LineMark : (line : ℕ) → Step

  pub data Steps : Type 0 where
    stop : Steps
    step : Step → Steps → Steps

-- A function: the line of its name, how many values it has, the first of which are its parameters, and its block locals
-- with their lengths, each numbered as a local.
pub record Function : Type 0 where
  pub line : ℕ
  pub values : ℕ
  pub params : ℕ
  pub blocks : List Item
  pub body : Steps

-- A program: its global objects, of which the first `named` have names and the others are strings, and its functions.
pub record Program : Type 0 where
  pub named : ℕ
  pub globals : List Stored
  pub functions : List Function
  pub main : ℕ

abbrev pub append : Steps → Steps → Steps
append Steps.stop ys = ys
append (Steps.step x xs) ys = Steps.step x (append xs ys)
