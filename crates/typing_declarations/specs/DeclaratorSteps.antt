-- Parts of the typing of declarators, as the functions that do them say it.
use Rattle.std.specs.Prelude.{ℕ, ◌+◌, Bool, true, false, Option, Some, None, Ok, List, [], ◌∷◌, ◌++◌, length}
use Rattle.syntax_tree.specs.Syntax.{ExpressionTree, ArrayTree, SuffixTree, InitializerTree, InitializerTrees}
use Rattle.typed_tree.specs.Types.{CType}
use Rattle.typed_tree.specs.TypedTree.{CStruct}
use Rattle.typing_operators.specs.declared.error.TypeError.TheVariants.{Twice}
use Rattle.typing_operators.specs.Rule.{Rule, ◌>>=◌, refuse}
use Rattle.typing_expressions.specs.Scene.{CScene}
use Rattle.typing_expressions.specs.Parts.{CParam, CPart}
use Rattle.typing_expressions.specs.Expressions.{joined, pointed}
use Rattle.typing_declarations.specs.Declarators.{is_taken, named, array_steps, suffix_steps, parameter_type, part_count, given_count}

-- arrays, and pointers behind them
abbrev pub pointed_arrays : List CPart → CScene → List ArrayTree → ℕ → Rule (List CPart × CScene)
pointed_arrays ps s arrays n = array_steps ps s arrays >>= λ x. Ok (pointed x.0 n, x.1)

-- arrays and functions, and pointers behind them
abbrev pub pointed_suffixes : List CPart → CScene → List SuffixTree → ℕ → Rule (List CPart × CScene)
pointed_suffixes ps s suffixes n = suffix_steps ps s suffixes >>= λ y. Ok (pointed y.0 n, y.1)

-- one more parameter, by the lines of its declarator and of its specifier
abbrev pub named_parameter : List CParam → CScene → List ℕ → ℕ → ℕ → CType → List CPart → Rule (List CParam × CScene)
named_parameter params s x line specifier base ps =
    refuse (is_taken s x) (Twice line x)
    (parameter_type s.structs line base ps >>= λ t.
    Ok (params ++ record { name = Some x; ty = t; line = specifier } ∷ [], named s x (record { number = length params; ty = t })))

abbrev pub unnamed_parameter : List CParam → List CStruct → ℕ → ℕ → CType → List CPart → Rule (List CParam)
unnamed_parameter params structs line specifier base ps =
    parameter_type structs line base ps >>= λ t. Ok (params ++ record { name = None; ty = t; line = specifier } ∷ [])

-- the number of elements that a string gives an array of char
abbrev pub text_count : ExpressionTree → Option ℕ
text_count (ExpressionTree.Text at pieces) = Some (length (joined pieces) + 1)
text_count _ = None

-- whether an array is one of char, where these steps follow it
abbrev pub is_text : CType → List CPart → Bool
is_text CType.Char [] = true
is_text _ _ = false

-- how many parts are between braces
abbrev pub counted_parts : InitializerTrees → Option ℕ
counted_parts parts = Some (part_count parts)

-- the size that an expression gives an array, and that an initializer gives one
abbrev pub count_given_by : CType → List CPart → ExpressionTree → Option ℕ
count_given_by base ps e = given_count base ps (Some (InitializerTree.Expression e))

abbrev pub count_given : CType → List CPart → InitializerTree → Option ℕ
count_given base ps i = given_count base ps (Some i)
