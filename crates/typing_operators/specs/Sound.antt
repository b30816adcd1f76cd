-- What the rules of the operators accept keeps the rules of typing.
use Rattle.std.specs.Prelude.{◌≡◌, ℕ, All, Ok, List}
use Rattle.c_words.specs.declared.place.At.{At}
use Rattle.c_words.specs.declared.operators.UnaryOperator.{UnaryOperator}
use Rattle.c_words.specs.declared.operators.StepOperator.{StepOperator}
use Rattle.c_words.specs.declared.operators.BinaryOperator.{BinaryOperator}
use Rattle.c_words.specs.declared.operators.AssignOperator.{AssignOperator}
use Rattle.typed_tree.specs.Types.{CType}
use Rattle.typed_tree.specs.TypedTree.{CExpr}
use Rattle.typed_tree.specs.Sizes.{IsType}
use Rattle.typed_tree.specs.TypedOperands.{IsWritten, IsGiven}
use Rattle.typed_tree.specs.TypedBody.{Environment, IsExpr}
use Rattle.typed_tree.specs.Typed.{IsStruct}
use Rattle.typing_operators.specs.Rule.{Rule}
use Rattle.typing_operators.specs.Conversions.{given}
use Rattle.typing_operators.specs.Operators.{binary_rule, unary_rule, step_before_rule, step_after_rule, conditional_rule, comma_rule}
use Rattle.typing_operators.specs.Operators.{cast_rule, index_rule, member_rule, arrow_rule, measured_rule, measured_type, assign_rule}

-- an operand as the text has it: it keeps the rules of typing, and is not converted yet
pub record IsOperand (names : Environment) (e : CExpr) : Type 0 where
  pub typed : IsExpr names e
  pub written : IsWritten e

-- what a rule gives is such an operand again
abbrev pub Keeps : Environment → Rule CExpr → Type 0
Keeps names rule = (v : CExpr) → rule ≡ Ok v → IsOperand names v

-- a value that was given to a type has it, and keeps the rules
abbrev pub KeepsGiven : Environment → CType → Rule CExpr → Type 0
KeepsGiven names t rule = (v : CExpr) → rule ≡ Ok v → IsExpr names v × IsGiven t v

-- Each operator that accepts its operands gives an expression that keeps the rules of typing.
pub record OperatorsKeep (names : Environment) : Type 0 where
  pub unary : (at : At) (op : UnaryOperator) (x : CExpr) → IsOperand names x → Keeps names (unary_rule names.structs at op x)
  pub binary : (at : At) (op : BinaryOperator) (x y : CExpr) → IsOperand names x → IsOperand names y → Keeps names (binary_rule names.structs at op x y)
  pub step_before : (at : At) (op : StepOperator) (x : CExpr) → IsOperand names x → Keeps names (step_before_rule names.structs at op x)
  pub step_after : (at : At) (op : StepOperator) (x : CExpr) → IsOperand names x → Keeps names (step_after_rule names.structs at op x)
  pub conditional : (at : At) (c x y : CExpr) → IsOperand names c → IsOperand names x → IsOperand names y → Keeps names (conditional_rule at c x y)
  pub comma : (at : At) (x y : CExpr) → IsOperand names x → IsOperand names y → IsOperand names (comma_rule at x y)
  pub cast : (at : At) (t : CType) (x : CExpr) → IsType names.structs t → IsOperand names x → Keeps names (cast_rule at t x)
  pub index : (at : At) (x i : CExpr) → IsOperand names x → IsOperand names i → Keeps names (index_rule names.structs at x i)
  pub member : (at : At) (x : CExpr) (name : List ℕ) → IsOperand names x → Keeps names (member_rule names.structs at x name)
  pub arrow : (at : At) (x : CExpr) (name : List ℕ) → IsOperand names x → Keeps names (arrow_rule names.structs at x name)
  pub measured : (at : At) (x : CExpr) → IsOperand names x → Keeps names (measured_rule names.structs at x)
  pub measured_type : (at : At) (t : CType) → IsType names.structs t → Keeps names (measured_type names.structs at t)
  pub assign : (at : At) (op : AssignOperator) (x y : CExpr) → IsOperand names x → IsOperand names y → Keeps names (assign_rule names.structs at op x y)
  pub given : (line : ℕ) (t : CType) (x : CExpr) → IsType names.structs t → IsOperand names x → KeepsGiven names t (given line t x)

-- They do so wherever the structs have their layout.
abbrev pub OperatorsAreSound : Type 0
OperatorsAreSound = (names : Environment) → All (IsStruct names.structs) names.structs → OperatorsKeep names
