-- What the language makes of an operand, and of the type of a specifier, where it accepts them.
use Rattle.std.specs.Prelude.{ℕ, ◌*◌, ◌≤◌, Some, List, [], ◌∷◌}
use Rattle.typed_tree.specs.declared.typed_expr.Conversion.{Conversion}
use Rattle.typed_tree.specs.Types.{CType}
use Rattle.typed_tree.specs.TypedTree.{CExpr, CExprs, CStruct}
use Rattle.typed_tree.specs.Sizes.{IsComplete, size_of, largest}
use Rattle.typed_tree.specs.TypedOperands.{IsConversion}
use Rattle.typing_operators.specs.Conversions.{converted}
use Rattle.typing_expressions.specs.Parts.{CPart}

-- 6.3: What an operand becomes: it stays as it is, or is converted, each time by a conversion that the language makes of
-- such an operand. Which one it is, the rule of its operator says, by what it asks of the operand.
pub data Becomes (e : CExpr) : CExpr → Type 0 where
  itself : Becomes e e
  further : {d : CExpr} → (c : Conversion) (t : CType) → Becomes e d → IsConversion c d t → Becomes e (converted c t d)

-- the same of a call's arguments
pub data BecomeAll : List CExpr → CExprs → Type 0 where
  none : BecomeAll [] CExprs.none
  more : {e d : CExpr} {es : List CExpr} {ds : CExprs} → Becomes e d → BecomeAll es ds → BecomeAll (e ∷ es) (CExprs.more d ds)

-- 6.7.6: The type that the steps of a declarator make of its specifier's, the step next to the specifier first. An array
-- has a size, and elements of a complete type (6.7.6.2 p1), and not too many bytes.
pub data Makes (structs : List CStruct) : CType → List CPart → CType → Type 0 where
  done : {t : CType} → Makes structs t [] t
  pointer : {t u : CType} {ps : List CPart} → Makes structs (CType.Pointer t) ps u → Makes structs t (CPart.Pointer ∷ ps) u
  array : {t u : CType} {n : ℕ} {ps : List CPart} → IsComplete structs t → size_of structs t * n ≤ largest
      → Makes structs (CType.Array t n) ps u → Makes structs t (CPart.Array (Some n) ∷ ps) u
