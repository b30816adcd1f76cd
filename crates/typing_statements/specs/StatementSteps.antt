-- Parts of the typing of statements, as the functions that do them say it.
use Rattle.std.specs.Prelude.{ℕ, Bool, false, not, Option, Ok, List, ◌++◌, length, map}
use Rattle.std.specs.Option.{option_map}
use Rattle.c_words.specs.declared.place.At.{At}
use Rattle.syntax_tree.specs.Syntax.{ExpressionTree, InitializerTree, ForStartTree}
use Rattle.typed_tree.specs.Types.{CType}
use Rattle.typed_tree.specs.TypedTree.{CExpr, CDeclaration, CStart, CStmt}
use Rattle.typed_tree.specs.TypedViews.{expr_of, start_of}
use Rattle.typing_operators.specs.declared.error.TypeError.TheVariants.{Twice, BadType}
use Rattle.typing_operators.specs.Rule.{Rule, ◌>>=◌, refuse}
use Rattle.typing_statements.specs.declared.statement.Head.{Head}
use Rattle.typing_expressions.specs.Scene.{CScene}
use Rattle.typing_expressions.specs.Parts.{CPart}
use Rattle.typing_declarations.specs.Declarators.{is_taken, completed, object_type}
use Rattle.typing_statements.specs.Statements.{CAround, with_local, initialized_local, condition, evaluated, start, if_any, returned}

-- a local with its number
abbrev pub added : CScene → List ℕ → CType → Rule (ℕ × CScene)
added s x t = Ok (length s.locals, with_local s x t)

-- a local whose declarator is read
abbrev pub local_from : CScene → CType → At → At → List ℕ → Option InitializerTree → List CPart → Rule (CDeclaration × CScene)
local_from s base at equals x init ps =
    refuse (is_taken s x) (Twice at.line x)
    (object_type s.structs at.line base (completed base init ps) >>= λ t.
    initialized_local (with_local s x t) at (length s.locals) t equals init)

abbrev pub around : CType → Bool → CAround
around t in_loop = record { result = t; in_loop = in_loop }

-- what stands between the brackets of a `for`
pub record CHead : Type 0 where
  pub start : CStart
  pub condition : Option CExpr
  pub step : Option CExpr

abbrev pub head_of : Head → CHead
head_of h = record { start = start_of h.start; condition = option_map expr_of h.condition; step = option_map expr_of h.step }

abbrev pub head : CScene → ℕ → ForStartTree → Option ExpressionTree → Option ExpressionTree → Rule (CHead × CScene)
head s line from e step = do
  f ← start s from
  c ← if_any (λ u. condition u line) f.1 e
  u ← if_any evaluated c.1 step
  Ok (record { start = f.0; condition = c.0; step = u.0 }, u.1)

abbrev pub with_head : At → CHead → CStmt → CStmt
with_head at h x = CStmt.For at h.start h.condition h.step x

abbrev pub return_from : CType → CScene → At → Option ExpressionTree → Rule (CStmt × CScene)
return_from t s at e = returned (around t false) s at e

abbrev pub break_from : At → Bool → Rule CStmt
break_from at in_loop = refuse (not in_loop) (BadType at.line 17) (Ok (CStmt.Break at))

abbrev pub continue_from : At → Bool → Rule CStmt
continue_from at in_loop = refuse (not in_loop) (BadType at.line 17) (Ok (CStmt.Continue at))

-- statements with declarations behind them
abbrev pub with_declarations : List CStmt → List CDeclaration → List CStmt
with_declarations done ds = done ++ map CStmt.Declare ds
