-- What the rules of the grammar are made of: tokens, and the braces, square brackets and commas of its notation.
use Rattle.std.specs.Prelude.{ℕ, List, [], ◌∷◌, ◌++◌, Option, Some, None}
use Rattle.c_words.specs.declared.place.At.{At}
use Rattle.c_words.specs.declared.words.Keyword.{Keyword}
use Rattle.c_words.specs.declared.words.Punctuator.{Punctuator}
use Rattle.c_words.specs.declared.words.Punctuator.TheVariants as m
use Rattle.c_words.specs.declared.operators.UnaryOperator.{UnaryOperator}
use Rattle.c_words.specs.declared.operators.UnaryOperator.TheVariants as unary
use Rattle.c_words.specs.declared.operators.StepOperator.{StepOperator}
use Rattle.c_words.specs.declared.operators.StepOperator.TheVariants as step
use Rattle.c_words.specs.declared.operators.BinaryOperator.{BinaryOperator}
use Rattle.c_words.specs.declared.operators.BinaryOperator.TheVariants as binary
use Rattle.c_words.specs.declared.operators.AssignOperator.{AssignOperator}
use Rattle.c_words.specs.declared.operators.AssignOperator.TheVariants as assign
use Rattle.c_words.specs.Tokens.{Token, Placed}

-- tokens at a place
abbrev pub mark : Punctuator → At → Placed
mark p at = record { token = Token.Punctuator p; at = at }

abbrev pub word : Keyword → At → Placed
word r at = record { token = Token.Keyword r; at = at }

abbrev pub identifier : List ℕ → At → Placed
identifier x at = record { token = Token.Name x; at = at }

-- where the first token stands; if there is none, the place that is given
abbrev pub first_at : List Placed → At → At
first_at [] end = end
first_at (t ∷ ts) end = t.at

-- `[ X ]`: an X or nothing
pub data Optional {A : Type 0} (Is : List Placed → A → Type 0) : List Placed → Option A → Type 0 where
  absent : Optional Is [] None
  present : {ts : List Placed} {x : A} → Is ts x → Optional Is ts (Some x)

-- `{ X }`: any number of X, one behind the other
pub data Many {A : Type 0} (Is : List Placed → A → Type 0) : List Placed → List A → Type 0 where
  none : Many Is [] []
  more : {ts : List Placed} {x : A} {us : List Placed} {xs : List A} → Is ts x → Many Is us xs → Many Is (ts ++ us) (x ∷ xs)

-- `X { "," X }`: one X or more, with commas between
pub data Commas {A : Type 0} (Is : List Placed → A → Type 0) : List Placed → List A → Type 0 where
  last : {ts : List Placed} {x : A} → Is ts x → Commas Is ts (x ∷ [])
  next : {ts : List Placed} {x : A} {us : List Placed} {xs : List A} → Is ts x → (comma : At) → Commas Is us xs
      → Commas Is (ts ++ (mark m.Comma comma ∷ us)) (x ∷ xs)

-- strings side by side (C11 6.4.5), one or more; the place is that of the first
pub data AreStrings : At → List Placed → List (List ℕ) → Type 0 where
  one : {at : At} {bytes : List ℕ} → AreStrings at (record { token = Token.StringLiteral bytes; at = at } ∷ []) (bytes ∷ [])
  another : {at : At} {bytes : List ℕ} {next : At} {ts : List Placed} {pieces : List (List ℕ)} → AreStrings next ts pieces
      → AreStrings at (record { token = Token.StringLiteral bytes; at = at } ∷ ts) (bytes ∷ pieces)

-- the operators before an operand (6.5.3), but for `++`, `--` and `sizeof`
abbrev pub unary_operator : Punctuator → Option UnaryOperator
unary_operator m.Ampersand = Some unary.Address
unary_operator m.Star = Some unary.Dereference
unary_operator m.Plus = Some unary.Plus
unary_operator m.Minus = Some unary.Minus
unary_operator m.Tilde = Some unary.Complement
unary_operator m.Bang = Some unary.Not
unary_operator _ = None

-- `++` and `--`
abbrev pub step_operator : Punctuator → Option StepOperator
step_operator m.PlusPlus = Some step.Increment
step_operator m.MinusMinus = Some step.Decrement
step_operator _ = None

-- The operators between two operands (6.5.5 to 6.5.14), with their strength: 1 binds strongest, 10 weakest.
abbrev pub binary_operator : Punctuator → Option (ℕ × BinaryOperator)
binary_operator m.Star = Some (1, binary.Multiply)
binary_operator m.Slash = Some (1, binary.Divide)
binary_operator m.Percent = Some (1, binary.Remainder)
binary_operator m.Plus = Some (2, binary.Add)
binary_operator m.Minus = Some (2, binary.Subtract)
binary_operator m.ShiftLeft = Some (3, binary.ShiftLeft)
binary_operator m.ShiftRight = Some (3, binary.ShiftRight)
binary_operator m.Less = Some (4, binary.Less)
binary_operator m.Greater = Some (4, binary.Greater)
binary_operator m.LessEqual = Some (4, binary.LessEqual)
binary_operator m.GreaterEqual = Some (4, binary.GreaterEqual)
binary_operator m.EqualEqual = Some (5, binary.Equal)
binary_operator m.BangEqual = Some (5, binary.NotEqual)
binary_operator m.Ampersand = Some (6, binary.BitAnd)
binary_operator m.Caret = Some (7, binary.BitXor)
binary_operator m.Bar = Some (8, binary.BitOr)
binary_operator m.AmpersandAmpersand = Some (9, binary.LogicalAnd)
binary_operator m.BarBar = Some (10, binary.LogicalOr)
binary_operator _ = None

abbrev pub weakest : ℕ
weakest = 10

-- the assignment operators (6.5.16)
abbrev pub assign_operator : Punctuator → Option AssignOperator
assign_operator m.Equal = Some assign.Assign
assign_operator m.StarEqual = Some assign.Multiply
assign_operator m.SlashEqual = Some assign.Divide
assign_operator m.PercentEqual = Some assign.Remainder
assign_operator m.PlusEqual = Some assign.Add
assign_operator m.MinusEqual = Some assign.Subtract
assign_operator m.ShiftLeftEqual = Some assign.ShiftLeft
assign_operator m.ShiftRightEqual = Some assign.ShiftRight
assign_operator m.AmpersandEqual = Some assign.BitAnd
assign_operator m.CaretEqual = Some assign.BitXor
assign_operator m.BarEqual = Some assign.BitOr
assign_operator _ = None
