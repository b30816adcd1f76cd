-- What the operators of C do with their operands (C11 6.5).
use Rattle.std.specs.Prelude.{◌==◌, ℕ, ◌+◌, Bool, true, false, not, if◌then◌else◌, List, ℤ, pos}
use Rattle.bb_words.specs.Answers.{Goes, and_then, either}
use Rattle.bb_words.specs.Numbers.{sum, difference}
use Rattle.bb_words.specs.Steps.{flag}
use Rattle.bb_words.specs.declared.steps.OrderOp.TheVariants as order
use Rattle.c_words.specs.declared.operators.UnaryOperator.{UnaryOperator}
use Rattle.c_words.specs.declared.operators.UnaryOperator.TheVariants as unary
use Rattle.c_words.specs.declared.operators.StepOperator.{StepOperator}
use Rattle.c_words.specs.declared.operators.StepOperator.TheVariants.{Increment, Decrement}
use Rattle.c_words.specs.declared.operators.BinaryOperator.{BinaryOperator}
use Rattle.c_words.specs.declared.operators.BinaryOperator.TheVariants as op
use Rattle.c_words.specs.declared.operators.AssignOperator.{AssignOperator}
use Rattle.c_words.specs.declared.operators.AssignOperator.TheVariants as assign
use Rattle.typed_tree.specs.declared.typed_expr.Conversion.{Conversion}
use Rattle.typed_tree.specs.declared.typed_expr.Conversion.TheVariants as conversion
use Rattle.typed_tree.specs.Types.{CType, is_pointer, is_struct, is_unsigned}
use Rattle.typed_tree.specs.Sizes.{size_of}
use Rattle.typed_tree.specs.TypedTree.{CStruct}
use Rattle.source_meaning.specs.declared.values.Pointer.{Pointer}
use Rattle.source_meaning.specs.declared.values.Pointer.TheVariants.{Null}
use Rattle.source_meaning.specs.declared.values.Value.{Value}
use Rattle.source_meaning.specs.declared.values.Value.TheVariants.{Num, Ptr}
use Rattle.source_meaning.specs.declared.values.Place.{Place}
use Rattle.source_meaning.specs.declared.values.Place.TheVariants.{Memory}
use Rattle.source_meaning.specs.declared.values.Held.{Held}
use Rattle.source_meaning.specs.declared.values.Held.TheVariants.{Of}
use Rattle.source_meaning.specs.declared.values.Want.{Want}
use Rattle.source_meaning.specs.declared.values.Want.TheVariants.{ItsValue, ItsPlace}
use Rattle.source_meaning.specs.declared.values.OutsideCause.TheVariants.{Kind}
use Rattle.source_meaning.specs.Worlds.{World, Does, outside, with_number, with_pointer}
use Rattle.source_meaning.specs.Moves.{move, distance}
use Rattle.source_meaning.specs.Comparisons.{same, ordered, elements_between, truth}
use Rattle.source_meaning.specs.Copies.{copy}
use Rattle.typed_tree.specs.Numbers.{fitted}
use Rattle.source_meaning.specs.Numbers.{calculated}
use Rattle.source_meaning.specs.Sites.{pointee}
use Rattle.source_meaning.specs.States.{State, Runs, doing, giving, using_value, using_number, using_pointer, using_place, using_address, read, write, finish}

-- ---- Moves

-- the place to which a pointer is moved
abbrev pub reach : (g site line : ℕ) → CType → Want → ℤ → Pointer → State → Runs Held
reach g site line t want d q c = and_then (doing (move g site line d q) c) (λ r. finish t want (Memory r))

-- 6.5.2.3: the member that lies so many bytes from the start, which is no move for 0
abbrev pub reach_member : (g site line offset : ℕ) → CType → Want → Pointer → State → Runs Held
reach_member g site line offset t want q c =
    either (offset == 0) (finish t want (Memory q)) (reach g site line t want (pos offset) q) c

-- 6.5.6 p8: a pointer moves up or down by n elements of a size
abbrev pub move_by : (g site line : ℕ) → (down : Bool) → (size : ℕ) → Value → Value → World → Does Value
move_by g site line down size v x w =
    with_pointer v (λ q. with_number x (λ n w1. and_then (move g site line (distance down size n) q w1) (λ r. Goes (Ptr r)))) w

-- ---- Conversions and casts

-- 6.5.4: A value is cast to a type. Only null constants are cast from numbers to pointers.
abbrev pub cast_number : CType → ℕ → World → Does Value
cast_number (CType.Pointer t) n w = if n == 0 then Goes (Ptr Null) w else outside Kind w
cast_number CType.Void n w = Goes (Num 0) w
cast_number CType.Char n w = Goes (Num (fitted CType.Char n)) w
cast_number CType.Int n w = Goes (Num n) w
cast_number CType.Unsigned n w = Goes (Num n) w
cast_number (CType.Struct k) n w = outside Kind w
cast_number (CType.Array t m) n w = outside Kind w

abbrev pub cast_pointer : CType → Pointer → World → Does Value
cast_pointer (CType.Pointer t) q w = Goes (Ptr q) w
cast_pointer CType.Void q w = Goes (Num 0) w
cast_pointer t q w = outside Kind w

abbrev pub cast : CType → Value → World → Does Value
cast t (Num n) w = cast_number t n w
cast t (Ptr q) w = cast_pointer t q w

-- an array is found, so that its place becomes a pointer; anything else is evaluated
abbrev pub wanted_by_conversion : Conversion → Want
wanted_by_conversion conversion.ArrayToPointer = ItsPlace
wanted_by_conversion conversion.NumberToNumber = ItsValue
wanted_by_conversion conversion.NullToPointer = ItsValue
wanted_by_conversion conversion.PointerToPointer = ItsValue

-- 6.3: the conversions that the language makes by itself
abbrev pub convert : Conversion → CType → Held → State → Runs Held
convert conversion.ArrayToPointer t x c = using_address x (λ q. Goes (Of (Ptr q))) c
convert conversion.NumberToNumber t x c = using_number x (λ n. Goes (Of (Num (fitted t n)))) c
convert conversion.NullToPointer t x c = using_value x (λ v. Goes (Of (Ptr Null))) c
convert conversion.PointerToPointer t x c = using_pointer x (λ q. Goes (Of (Ptr q))) c

-- ---- One operand

abbrev pub wanted_by_operator : UnaryOperator → Want
wanted_by_operator unary.Address = ItsPlace
wanted_by_operator unary.Dereference = ItsValue
wanted_by_operator unary.Plus = ItsValue
wanted_by_operator unary.Minus = ItsValue
wanted_by_operator unary.Complement = ItsValue
wanted_by_operator unary.Not = ItsValue

-- 6.5.3.2, 6.5.3.3
abbrev pub on_unary : UnaryOperator → CType → Want → Held → State → Runs Held
on_unary unary.Address t want x c = using_address x (λ q. Goes (Of (Ptr q))) c
on_unary unary.Dereference t want x c = using_pointer x (λ q. finish t want (Memory q)) c
on_unary unary.Plus t want x c = using_number x (λ n. Goes (Of (Num n))) c
on_unary unary.Minus t want x c = using_number x (λ n. Goes (Of (Num (difference 0 n)))) c
on_unary unary.Complement t want x c = using_number x (λ n. Goes (Of (Num (difference 4294967295 n)))) c
on_unary unary.Not t want x c = using_value x (λ v c1. and_then (doing (truth v) c1) (λ b. Goes (Of (Num (flag (not b)))))) c

-- ---- Two operands

-- two numbers
abbrev pub on_two_numbers : BinaryOperator → (is_unsigned : Bool) → (line : ℕ) → Value → Value → World → Does Value
on_two_numbers o u line v x w = with_number v (λ a. with_number x (λ b. calculated o u line a b)) w

-- 6.5.9 p3: 1 where two pointers differ, else 0
abbrev pub unlike : Value → Value → World → Does Value
unlike v x w = and_then (same v x w) (λ r. with_number r (λ n. Goes (Num (difference 1 n))))

-- An operator on two values of these types, of which a pointer moves with this number and line.
abbrev pub on_binary : List CStruct → (g site : ℕ) → BinaryOperator → (is_unsigned : Bool) → (line : ℕ) → (t u : CType) → (v x : Value)
    → World → Does Value
on_binary structs g site op.Add s line t u v x w =
    either (is_pointer t) (move_by g site line false (size_of structs (pointee t)) v x)
    (either (is_pointer u) (move_by g site line false (size_of structs (pointee u)) x v)
    (on_two_numbers op.Add s line v x)) w
on_binary structs g site op.Subtract s line t u v x w =
    either (is_pointer t)
    (either (is_pointer u) (elements_between (size_of structs (pointee t)) v x)
    (move_by g site line true (size_of structs (pointee t)) v x))
    (on_two_numbers op.Subtract s line v x) w
on_binary structs g site op.Less s line t u v x w = either (is_pointer t) (ordered order.Below v x) (on_two_numbers op.Less s line v x) w
on_binary structs g site op.Greater s line t u v x w = either (is_pointer t) (ordered order.Above v x) (on_two_numbers op.Greater s line v x) w
on_binary structs g site op.LessEqual s line t u v x w = either (is_pointer t) (ordered order.AtMost v x) (on_two_numbers op.LessEqual s line v x) w
on_binary structs g site op.GreaterEqual s line t u v x w = either (is_pointer t) (ordered order.AtLeast v x) (on_two_numbers op.GreaterEqual s line v x) w
on_binary structs g site op.Equal s line t u v x w = either (is_pointer t) (same v x) (on_two_numbers op.Equal s line v x) w
on_binary structs g site op.NotEqual s line t u v x w = either (is_pointer t) (unlike v x) (on_two_numbers op.NotEqual s line v x) w
on_binary structs g site o s line t u v x w = on_two_numbers o s line v x w

-- 6.5.13 p4, 6.5.14 p4: the second operand of `&&` and `||` where it decides
abbrev pub decided_by : (State → Runs Held) → State → Runs Held
decided_by b c = and_then (b c) (λ y. using_value y (λ v c1. and_then (doing (truth v) c1) (λ r. Goes (Of (Num (flag r))))))

-- An operator between two operands. All but `&&` and `||` evaluate both, the left one first.
abbrev pub run_binary : List CStruct → (g site : ℕ) → BinaryOperator → (line : ℕ) → (t u : CType) → (a b : State → Runs Held) → State
    → Runs Held
run_binary structs g site op.LogicalAnd line t u a b c =
    and_then (a c) (λ x. using_value x (λ v c1. and_then (doing (truth v) c1) (λ s. either s (decided_by b) (Goes (Of (Num 0))))))
run_binary structs g site op.LogicalOr line t u a b c =
    and_then (a c) (λ x. using_value x (λ v c1. and_then (doing (truth v) c1) (λ s. either s (Goes (Of (Num 1))) (decided_by b))))
run_binary structs g site o line t u a b c =
    and_then (a c) (λ x c1. and_then (b c1)
    (λ y. using_value x (λ v. using_value y (λ z. giving (on_binary structs g site o (is_unsigned t) line t u v z)))))

-- ---- Assignments

-- 6.5.3.1, 6.5.2.4: one step up or down
abbrev pub stepped_number : StepOperator → CType → ℕ → ℕ
stepped_number Increment t n = fitted t (sum n 1)
stepped_number Decrement t n = fitted t (difference n 1)

abbrev pub is_down : StepOperator → Bool
is_down Increment = false
is_down Decrement = true

abbrev pub step : List CStruct → (g site line : ℕ) → StepOperator → CType → Value → World → Does Value
step structs g site line o t v w =
    either (is_pointer t) (move_by g site line (is_down o) (size_of structs (pointee t)) v (Num 1))
    (with_number v (λ n. Goes (Num (stepped_number o t n)))) w

-- a place is read, stepped and written; the expression's value is the one after the step, or the one before
abbrev pub on_step : List CStruct → (g site line : ℕ) → (after : Bool) → StepOperator → CType → Place → State → Runs Held
on_step structs g site line after o t q c =
    and_then (read t q c) (λ v c1. and_then (doing (step structs g site line o t v) c1) (λ x c2.
    and_then (write t q x c2) (λ y. Goes (Of (either after y v)))))

abbrev pub binary_of : AssignOperator → BinaryOperator
binary_of assign.Assign = op.Add
binary_of assign.Multiply = op.Multiply
binary_of assign.Divide = op.Divide
binary_of assign.Remainder = op.Remainder
binary_of assign.Add = op.Add
binary_of assign.Subtract = op.Subtract
binary_of assign.ShiftLeft = op.ShiftLeft
binary_of assign.ShiftRight = op.ShiftRight
binary_of assign.BitAnd = op.BitAnd
binary_of assign.BitXor = op.BitXor
binary_of assign.BitOr = op.BitOr

abbrev pub is_shift : AssignOperator → Bool
is_shift assign.ShiftLeft = true
is_shift assign.ShiftRight = true
is_shift o = false

-- 6.5.16.2: A compound assignment reads the place after its right operand, which has been converted to the common type of
-- both; a shift has the type of the left one. The result is given to the type of the place.
abbrev pub on_compound : List CStruct → (g site line : ℕ) → AssignOperator → (t u : CType) → Place → Value → State → Runs Held
on_compound structs g site line o t u q x c =
    and_then (read t q c) (λ v c1.
    and_then (doing (on_binary structs g site (binary_of o) (is_unsigned (either (is_shift o) t u)) line t u v x) c1) (λ y c2.
    and_then (doing (cast t y) c2) (λ z c3. and_then (write t q z c3) (λ r. Goes (Of r)))))

-- 6.5.16: the value of an assignment is the one that the place has then
abbrev pub on_assign : List CStruct → (g site line : ℕ) → AssignOperator → (t u : CType) → Place → Value → State → Runs Held
on_assign structs g site line assign.Assign t u q x c = and_then (write t q x c) (λ r. Goes (Of r))
on_assign structs g site line o t u q x c = on_compound structs g site line o t u q x c

-- 6.5.16.1 p2: a struct is copied from one place to another, and here gives no value
abbrev pub on_copy : (g site line size : ℕ) → (target source : Held) → State → Runs Held
on_copy g site line size x y c =
    using_address x (λ q. using_address y (λ r c1.
    and_then (doing (copy g site (site + 1) line size q r) c1) (λ done. Goes (Of (Num 0))))) c

-- 6.5.16: An assignment to what the left side gave, a struct or a scalar of type t, from the right side of type u.
abbrev pub assign_struct : (g site line size : ℕ) → Held → (Want → State → Runs Held) → State → Runs Held
assign_struct g site line size x b c = and_then (b ItsPlace c) (on_copy g site line size x)

abbrev pub assign_scalar : List CStruct → (g site line : ℕ) → AssignOperator → (t u : CType) → Held → (Want → State → Runs Held) → State
    → Runs Held
assign_scalar structs g site line o t u x b c =
    and_then (b ItsValue c) (λ y. using_place x (λ q. using_value y (on_assign structs g site line o t u q)))

abbrev pub run_assign : List CStruct → (g site line : ℕ) → AssignOperator → (t u : CType) → Held → (Want → State → Runs Held) → State
    → Runs Held
run_assign structs g site line o t u x b c =
    either (is_struct t) (assign_struct g site line (size_of structs t) x b) (assign_scalar structs g site line o t u x b) c
