-- Parts of the typing of initializers, as the functions that do them say it.
use Rattle.std.specs.Prelude.{ℕ, ◌||◌, Bool, true, false, if◌then◌else◌, Option, Some, None, Err, List, ◌++◌, map, is_some}
use Rattle.std.proofs.Common.{Vec, Global}
use Rattle.c_words.specs.declared.place.At.{At}
use Rattle.syntax_tree.specs.Syntax.{ExpressionTree, InitializerTrees}
use Rattle.typed_tree.specs.declared.typed.InitialByte.{InitialByte}
use Rattle.typed_tree.specs.declared.typed.InitialByte.TheVariants.{Byte}
use Rattle.typed_tree.specs.Types.{CType, is_array, is_struct}
use Rattle.typed_tree.specs.TypedTree.{CExpr, CInitial, CStruct}
use Rattle.typing_operators.specs.declared.error.TypeError.TheVariants.{BadType}
use Rattle.typing_operators.specs.Conversions.{decayed}
use Rattle.typing_operators.specs.Rule.{Rule, ◌>>=◌}
use Rattle.typing_expressions.specs.Scene.{CScene}
use Rattle.typing_expressions.specs.Expressions.{joined}
use Rattle.typing_expressions.specs.Initializers.{all_looked_at, aggregate_from, value_from, value_bytes, bytes_or_none, initial_bytes}

-- whether a value is constant
abbrev pub is_constant : List CStruct → CExpr → Bool
is_constant structs e = is_some (value_bytes structs e)

-- whether the form of an expression is allowed in a global, where an array is a pointer to its first element
abbrev pub is_allowed : List CStruct → CExpr → Bool
is_allowed structs e = is_constant structs (decayed e)

-- parts that are too many
abbrev pub excess : {A : Type 0} → CScene → ℕ → InitializerTrees → Rule A
excess s line xs = all_looked_at s line xs >>= λ u. Err (BadType line 20)

abbrev pub is_text_array : CType → Bool
is_text_array (CType.Array CType.Char n) = true
is_text_array _ = false

-- a string that is not in brackets
abbrev pub text_of : ExpressionTree → Option (At × List ℕ)
text_of (ExpressionTree.Text at pieces) = Some (at, joined pieces)
text_of _ = None

-- a string, as contracts see it
abbrev pub seen : At × Vec ℕ Global → At × List ℕ
seen text = (text.0, text.1.items)

-- a part from an expression that is typed
abbrev pub part_from_value : (is_global : Bool) → ℕ → CType → CExpr × CScene → Rule (CInitial × CScene)
part_from_value is_global line t x = if is_array t || is_struct t then aggregate_from line x else value_from is_global line t x

-- what a value gives a global object
abbrev pub bytes_of : List CStruct → CExpr → List InitialByte
bytes_of structs e = bytes_or_none (value_bytes structs e)

-- bytes with a string behind them
abbrev pub with_text : List InitialByte → List ℕ → List InitialByte
with_text bytes text = bytes ++ map Byte text

-- bytes with those of an initializer behind them
abbrev pub with_initial : List CStruct → CType → List InitialByte → CInitial → List InitialByte
with_initial structs t bytes i = bytes ++ initial_bytes structs t i
