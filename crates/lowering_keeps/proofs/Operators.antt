-- The steps of operators on numbers do what the operators do.
use Rattle.std.specs.Prelude.{◌==◌, if◌then◌else◌, not, nat_lt, nat_le}
use Rattle.std.proofs.Common.{◌≡◌, ℕ, ◌≤◌, Bool, true, false, List, refl, sym, ap, ◌∙◌, arith}
use Rattle.bb_words.specs.Answers.{Goes, Ends, either}
use Rattle.bb_words.specs.Steps.{flag, arith as worked}
use Rattle.bb_words.specs.declared.steps.ArithOp.TheVariants as arith_op
use Rattle.c_words.specs.declared.operators.BinaryOperator.{BinaryOperator}
use Rattle.c_words.specs.declared.operators.BinaryOperator.TheVariants as op
use Rattle.typed_tree.specs.Types.{CType, is_pointer}
use Rattle.typed_tree.specs.TypedTree.{CStruct}
use Rattle.source_meaning.specs.declared.values.Value.{Value}
use Rattle.source_meaning.specs.declared.values.Value.TheVariants.{Num}
use Rattle.source_meaning.specs.Worlds.{World, Does}
use Rattle.source_meaning.specs.Numbers.{calculated, unless_zero}
use Rattle.source_meaning.specs.Operators.{on_binary, on_two_numbers}
use Rattle.mid_code.specs.Times.{charge}
use Rattle.mid_code.specs.Meaning.{Point, setting, on_words, Watch, Names, Calls, act}
use Rattle.bb_words.specs.Numbers.{signed_below}
use Rattle.bb_words.specs.Steps.{divided}
use Rattle.bb_words.specs.declared.kinds.ReportKind.TheVariants.{DivZero}
use Rattle.bb_words.specs.declared.steps.OrderOp.TheVariants as order
use Rattle.bb_words.specs.declared.steps.DivideOp.TheVariants as divide
use Rattle.typed_tree.specs.Sizes.{size_of}
use Rattle.source_meaning.specs.declared.values.Ending.TheVariants.{Reported}
use Rattle.typed_tree.specs.Numbers.{quotient, remainder}
use Rattle.source_meaning.specs.Operators.{move_by, unlike}
use Rattle.source_meaning.specs.Comparisons.{same, ordered, elements_between}
use Rattle.source_meaning.specs.Sites.{pointee}
use Rattle.std.proofs.lemmas.Bool.{true≢false}
use Rattle.lowering_code.specs.Lower.{operation}
use Rattle.lowering_keeps.proofs.Meets.{IsNumeral}
use Rattle.lowering_keeps.proofs.Fits.{is_reckoned}

-- `&&` and `||` are no operators on two values
abbrev pub is_eager : BinaryOperator → Bool
is_eager op.LogicalAnd = false
is_eager op.LogicalOr = false
is_eager o = true

pub not_pointer : (t : CType) → is_reckoned t ≡ true → is_pointer t ≡ false
not_pointer CType.Void h = refl
not_pointer CType.Char h = refl
not_pointer CType.Int h = refl
not_pointer CType.Unsigned h = refl
not_pointer (CType.Struct k) h = refl
not_pointer (CType.Pointer t) h = absurd (true≢false (sym h))
not_pointer (CType.Array t n) h = refl

-- ---- What the operators of C do with two numbers

pub on_binary_numbers : (structs : List CStruct) (g site : ℕ) (o : BinaryOperator) (u : Bool) (line : ℕ) (t w : CType) (x y : ℕ) → is_pointer t ≡ false → is_pointer w ≡ false → (z : World) → on_binary structs g site o u line t w (Num x) (Num y) z ≡ calculated o u line x y z
on_binary_numbers structs g site op.Multiply u line t w x y et ew z = refl
on_binary_numbers structs g site op.Divide u line t w x y et ew z = refl
on_binary_numbers structs g site op.Remainder u line t w x y et ew z = refl
on_binary_numbers structs g site op.Add u line t w x y et ew z =
    ap (λ b. either b (move_by g site line false (size_of structs (pointee t)) (Num x) (Num y)) (either (is_pointer w) (move_by g site line false (size_of structs (pointee w)) (Num y) (Num x)) (on_two_numbers op.Add u line (Num x) (Num y))) z) et
    ∙ ap (λ b. either b (move_by g site line false (size_of structs (pointee w)) (Num y) (Num x)) (on_two_numbers op.Add u line (Num x) (Num y)) z) ew
on_binary_numbers structs g site op.Subtract u line t w x y et ew z =
    ap (λ b. either b (either (is_pointer w) (elements_between (size_of structs (pointee t)) (Num x) (Num y)) (move_by g site line true (size_of structs (pointee t)) (Num x) (Num y))) (on_two_numbers op.Subtract u line (Num x) (Num y)) z) et
on_binary_numbers structs g site op.ShiftLeft u line t w x y et ew z = refl
on_binary_numbers structs g site op.ShiftRight u line t w x y et ew z = refl
on_binary_numbers structs g site op.Less u line t w x y et ew z = ap (λ b. either b (ordered order.Below (Num x) (Num y)) (on_two_numbers op.Less u line (Num x) (Num y)) z) et
on_binary_numbers structs g site op.Greater u line t w x y et ew z = ap (λ b. either b (ordered order.Above (Num x) (Num y)) (on_two_numbers op.Greater u line (Num x) (Num y)) z) et
on_binary_numbers structs g site op.LessEqual u line t w x y et ew z = ap (λ b. either b (ordered order.AtMost (Num x) (Num y)) (on_two_numbers op.LessEqual u line (Num x) (Num y)) z) et
on_binary_numbers structs g site op.GreaterEqual u line t w x y et ew z = ap (λ b. either b (ordered order.AtLeast (Num x) (Num y)) (on_two_numbers op.GreaterEqual u line (Num x) (Num y)) z) et
on_binary_numbers structs g site op.Equal u line t w x y et ew z = ap (λ b. either b (same (Num x) (Num y)) (on_two_numbers op.Equal u line (Num x) (Num y)) z) et
on_binary_numbers structs g site op.NotEqual u line t w x y et ew z = ap (λ b. either b (unlike (Num x) (Num y)) (on_two_numbers op.NotEqual u line (Num x) (Num y)) z) et
on_binary_numbers structs g site op.BitAnd u line t w x y et ew z = refl
on_binary_numbers structs g site op.BitXor u line t w x y et ew z = refl
on_binary_numbers structs g site op.BitOr u line t w x y et ew z = refl
on_binary_numbers structs g site op.LogicalAnd u line t w x y et ew z = refl
on_binary_numbers structs g site op.LogicalOr u line t w x y et ew z = refl

unless_zero_numeral : (line y n : ℕ) (w : World) → IsNumeral w (unless_zero line y n w)
unless_zero_numeral line y n w = of (y == 0)
  where
    of : (b : Bool) → IsNumeral w (if b then Ends (Reported DivZero line) w else Goes (Num n) w)
    of true = omega arith
    of false = omega arith

pub calculated_numeral : (o : BinaryOperator) (u : Bool) (line x y : ℕ) (w : World) → IsNumeral w (calculated o u line x y w)
calculated_numeral op.Multiply u line x y w = omega arith
calculated_numeral op.Divide u line x y w = unless_zero_numeral line y (quotient u x y) w
calculated_numeral op.Remainder u line x y w = unless_zero_numeral line y (remainder u x y) w
calculated_numeral op.Add u line x y w = omega arith
calculated_numeral op.Subtract u line x y w = omega arith
calculated_numeral op.ShiftLeft u line x y w = omega arith
calculated_numeral op.ShiftRight u line x y w = omega arith
calculated_numeral op.Less u line x y w = omega arith
calculated_numeral op.Greater u line x y w = omega arith
calculated_numeral op.LessEqual u line x y w = omega arith
calculated_numeral op.GreaterEqual u line x y w = omega arith
calculated_numeral op.Equal u line x y w = omega arith
calculated_numeral op.NotEqual u line x y w = omega arith
calculated_numeral op.BitAnd u line x y w = omega arith
calculated_numeral op.BitXor u line x y w = omega arith
calculated_numeral op.BitOr u line x y w = omega arith
calculated_numeral op.LogicalAnd u line x y w = omega arith
calculated_numeral op.LogicalOr u line x y w = omega arith

at_most : (x y : ℕ) → nat_le x y ≡ not (nat_lt y x)
at_most x y = grind arith

pub words : (F : ℕ → ℕ → World → Does Value) (p q : Value) (x y t : ℕ) (v : Point) → p ≡ Num x → q ≡ Num y → setting t (on_words F p q) v ≡ setting t (F x y) v
words F p q x y t v ea eb = ap (λ z. setting t (on_words F z q) v) ea ∙ ap (λ z. setting t (on_words F (Num x) z) v) eb

-- the step of an operator does what the operator does
pub operation_acts : (g : ℕ) (watch : Watch) (calling : Calls) (m : ℕ) (names : Names) (o : BinaryOperator) (u : Bool) (line t a b x y : ℕ) (v : Point) → is_eager o ≡ true → v.values a ≡ Num x → v.values b ≡ Num y → act g watch calling m names (operation o u line t a b) v ≡ setting t (calculated o u line x y) v
unfolding signed_below
operation_acts g watch calling m names op.Multiply u line t a b x y v eager ea eb = words (λ i j. Goes (Num (worked arith_op.Mul i j))) (v.values a) (v.values b) x y t v ea eb
operation_acts g watch calling m names op.Divide true line t a b x y v eager ea eb = words (λ i j. unless_zero line j (divided divide.Divu i j)) (v.values a) (v.values b) x y t v ea eb
operation_acts g watch calling m names op.Divide false line t a b x y v eager ea eb = words (λ i j. unless_zero line j (divided divide.Div i j)) (v.values a) (v.values b) x y t v ea eb
operation_acts g watch calling m names op.Remainder true line t a b x y v eager ea eb = words (λ i j. unless_zero line j (divided divide.Remu i j)) (v.values a) (v.values b) x y t v ea eb
operation_acts g watch calling m names op.Remainder false line t a b x y v eager ea eb = words (λ i j. unless_zero line j (divided divide.Rem i j)) (v.values a) (v.values b) x y t v ea eb
operation_acts g watch calling m names op.Add u line t a b x y v eager ea eb = words (λ i j. Goes (Num (worked arith_op.Add i j))) (v.values a) (v.values b) x y t v ea eb
operation_acts g watch calling m names op.Subtract u line t a b x y v eager ea eb = words (λ i j. Goes (Num (worked arith_op.Sub i j))) (v.values a) (v.values b) x y t v ea eb
operation_acts g watch calling m names op.ShiftLeft u line t a b x y v eager ea eb = words (λ i j. Goes (Num (worked arith_op.Shl i j))) (v.values a) (v.values b) x y t v ea eb
operation_acts g watch calling m names op.ShiftRight true line t a b x y v eager ea eb = words (λ i j. Goes (Num (worked arith_op.Shr i j))) (v.values a) (v.values b) x y t v ea eb
operation_acts g watch calling m names op.ShiftRight false line t a b x y v eager ea eb = words (λ i j. Goes (Num (worked arith_op.Sar i j))) (v.values a) (v.values b) x y t v ea eb
operation_acts g watch calling m names op.Less true line t a b x y v eager ea eb = words (λ i j. Goes (Num (worked arith_op.Ltu i j))) (v.values a) (v.values b) x y t v ea eb
operation_acts g watch calling m names op.Less false line t a b x y v eager ea eb = words (λ i j. Goes (Num (worked arith_op.Lts i j))) (v.values a) (v.values b) x y t v ea eb
operation_acts g watch calling m names op.Greater true line t a b x y v eager ea eb = words (λ i j. Goes (Num (worked arith_op.Ltu i j))) (v.values b) (v.values a) y x t v eb ea
operation_acts g watch calling m names op.Greater false line t a b x y v eager ea eb = words (λ i j. Goes (Num (worked arith_op.Lts i j))) (v.values b) (v.values a) y x t v eb ea
operation_acts g watch calling m names op.LessEqual true line t a b x y v eager ea eb = words (λ i j. Goes (Num (worked arith_op.AtMostUnsigned i j))) (v.values a) (v.values b) x y t v ea eb ∙ ap (λ z. setting t (λ w. Goes (Num (flag z)) w) v) (at_most x y)
operation_acts g watch calling m names op.LessEqual false line t a b x y v eager ea eb = words (λ i j. Goes (Num (worked arith_op.AtMostSigned i j))) (v.values a) (v.values b) x y t v ea eb
operation_acts g watch calling m names op.GreaterEqual true line t a b x y v eager ea eb = words (λ i j. Goes (Num (worked arith_op.AtMostUnsigned i j))) (v.values b) (v.values a) y x t v eb ea ∙ ap (λ z. setting t (λ w. Goes (Num (flag z)) w) v) (at_most y x)
operation_acts g watch calling m names op.GreaterEqual false line t a b x y v eager ea eb = words (λ i j. Goes (Num (worked arith_op.AtMostSigned i j))) (v.values b) (v.values a) y x t v eb ea
operation_acts g watch calling m names op.Equal u line t a b x y v eager ea eb = words (λ i j. Goes (Num (worked arith_op.Equal i j))) (v.values a) (v.values b) x y t v ea eb
operation_acts g watch calling m names op.NotEqual u line t a b x y v eager ea eb = words (λ i j. Goes (Num (worked arith_op.Unequal i j))) (v.values a) (v.values b) x y t v ea eb
operation_acts g watch calling m names op.BitAnd u line t a b x y v eager ea eb = words (λ i j. Goes (Num (worked arith_op.And i j))) (v.values a) (v.values b) x y t v ea eb
operation_acts g watch calling m names op.BitXor u line t a b x y v eager ea eb = words (λ i j. Goes (Num (worked arith_op.Xor i j))) (v.values a) (v.values b) x y t v ea eb
operation_acts g watch calling m names op.BitOr u line t a b x y v eager ea eb = words (λ i j. Goes (Num (worked arith_op.Or i j))) (v.values a) (v.values b) x y t v ea eb
operation_acts g watch calling m names op.LogicalAnd u line t a b x y v eager ea eb = absurd (true≢false (sym eager))
operation_acts g watch calling m names op.LogicalOr u line t a b x y v eager ea eb = absurd (true≢false (sym eager))

pub operation_charge : (o : BinaryOperator) (u : Bool) (line t a b : ℕ) → charge (operation o u line t a b) ≤ 32
operation_charge op.Multiply u line t a b = omega arith
operation_charge op.Divide u line t a b = omega arith
operation_charge op.Remainder u line t a b = omega arith
operation_charge op.Add u line t a b = omega arith
operation_charge op.Subtract u line t a b = omega arith
operation_charge op.ShiftLeft u line t a b = omega arith
operation_charge op.ShiftRight u line t a b = omega arith
operation_charge op.Less u line t a b = omega arith
operation_charge op.Greater u line t a b = omega arith
operation_charge op.LessEqual u line t a b = omega arith
operation_charge op.GreaterEqual u line t a b = omega arith
operation_charge op.Equal u line t a b = omega arith
operation_charge op.NotEqual u line t a b = omega arith
operation_charge op.BitAnd u line t a b = omega arith
operation_charge op.BitXor u line t a b = omega arith
operation_charge op.BitOr u line t a b = omega arith
operation_charge op.LogicalAnd u line t a b = omega arith
operation_charge op.LogicalOr u line t a b = omega arith
