-- A typed expression of a file in range stands on lines of the text.
use Rattle.std.proofs.Common.{ℕ, List, [], ◌∷◌, ◌++◌, refl, arith}
use Rattle.std.specs.Prelude.{Option, Some, None, Ok, nat_le, slice_get}
use Rattle.std.specs.List.{AllByRecursion}
use Rattle.std.proofs.lemmas.Bool.Decides.{nat_tests}
use Rattle.c_words.specs.declared.place.At.{At}
use Rattle.syntax_tree.specs.Syntax.{ExpressionTree, ExpressionTrees}
use Rattle.typed_tree.specs.declared.typed_expr.LibCall.{LibCall}
use Rattle.typed_tree.specs.TypedTree.{CExpr}
use Rattle.typed_tree.specs.TypedViews.{exprs}
use Rattle.typing_operators.specs.Rule.{Rule, ◌>>=◌}
use Rattle.typing_expressions.specs.declared.calls.Callee.{Callee}
use Rattle.typing_expressions.specs.declared.calls.Callee.TheVariants as callee
use Rattle.typing_expressions.specs.Names.{found}
use Rattle.typing_expressions.specs.Scene.{CScene, CLocalName, CEntry, CDeclared, local_in}
use Rattle.typing_expressions.specs.Expressions.{in_library, object_by, object, callee_of, called_first, function_called, called_if_named, joined, text, type_named, typed, typed_all}
use Rattle.syntax_in_range.specs.InRange.{IsPlace, ExpressionInRange, ExpressionsInRange}
use Rattle.typing_unit_keeps.proofs.LinedRules.{Yields, gives, fails, unless, and_then, anything, OnLine, Lined, AreLined, both, alone, binary_lined, comma_lined, unary_lined, step_before_lined, step_after_lined, cast_lined, measured_lined, measured_type_lined, index_lined, member_lined, arrow_lined, conditional_lined, assign_lined, call_lined}

pub on_line : (at : At) → IsPlace at → OnLine at
on_line at h = both {a = nat_le 1 at.line} {b = nat_le at.line 1048575} (grind (arith, nat_tests, h.0)) (grind (arith, nat_tests, h.1))

pub behind : {A : Type 0} (P : A → Type 0) (xs ys : List A) → AllByRecursion P xs → AllByRecursion P ys → AllByRecursion P (xs ++ ys)
behind P [] ys h k = k
behind P (x ∷ xs) ys h k = (h.0, behind P xs ys h.1 k)

-- an expression with the scene behind it
abbrev pub LinedHere : CExpr × CScene → Type 0
LinedHere x = Lined x.0

abbrev AllLinedHere : List CExpr × CScene → Type 0
AllLinedHere x = AllByRecursion Lined x.0

-- what a rule gives, with a scene
ruled : (r : Rule CExpr) (u : CScene) → Yields Lined r → Yields LinedHere (r >>= λ v. Ok (v, u))
ruled r u h = and_then r _ h (λ v k. gives LinedHere (v, u) k)

object_by_lined : (at : At) (x : List ℕ) (l : Option CLocalName) (e : Option CEntry) (f : Option LibCall) → OnLine at → Yields Lined (object_by at x l e f)
object_by_lined at x (Some l) e f p = gives Lined _ (alone p)
object_by_lined at x None (Some (CEntry.Object n t)) f p = gives Lined _ (alone p)
object_by_lined at x None (Some (CEntry.Function k)) f p = fails Lined _
object_by_lined at x None None (Some f) p = fails Lined _
object_by_lined at x None None None p = fails Lined _

object_lined : (s : CScene) (at : At) (x : List ℕ) → OnLine at → Yields Lined (object s at x)
unfolding object
object_lined s at x p = object_by_lined at x (local_in s.scopes x) (found x s.names) (in_library x) p

text_lined : (s : CScene) (at : At) (bytes : List ℕ) → OnLine at → Yields LinedHere (text s at bytes)
unfolding text
text_lined s at bytes p = unless _ _ _ (gives LinedHere _ (alone p))

exprs_lined : (vs : List CExpr) → AllByRecursion Lined vs → AreLined (exprs vs)
exprs_lined [] h = refl
exprs_lined (v ∷ vs) h = both h.0 (exprs_lined vs h.1)

function_called_lined : (s : CScene) (at : At) (k : ℕ) (es : List CExpr) (o : Option CDeclared) → OnLine at → AllByRecursion Lined es → Yields LinedHere (function_called s at k es o)
function_called_lined s at k es None p h = fails LinedHere _
function_called_lined s at k es (Some f) p h = ruled _ _ (call_lined at _ f.result f.params (exprs es) p (exprs_lined es h))

called_lined : (s : CScene) (at : At) (c : Option Callee) (es : List CExpr) → OnLine at → AllByRecursion Lined es → Yields LinedHere (called_if_named s at c es)
called_lined s at None es p h = fails LinedHere _
called_lined s at (Some (callee.Function k)) es p h = function_called_lined s at k es (slice_get s.functions k) p h
called_lined s at (Some (callee.Library f)) es p h = ruled _ s (call_lined at _ _ _ (exprs es) p (exprs_lined es h))
called_lined s at (Some callee.Object) es p h = fails LinedHere _

mutual
  pub typed_lined : (s : CScene) (e : ExpressionTree) → ExpressionInRange e → Yields LinedHere (typed s e)
  typed_lined s (ExpressionTree.Name at x) h = ruled (object s at x) s (object_lined s at x (on_line at h))
  typed_lined s (ExpressionTree.Number at n u) h = gives LinedHere _ (alone (on_line at h.0))
  typed_lined s (ExpressionTree.Character at n) h = gives LinedHere _ (alone (on_line at h.0))
  typed_lined s (ExpressionTree.Text at pieces) h = text_lined s at (joined pieces) (on_line at h.0)
  typed_lined s (ExpressionTree.Null at) h = gives LinedHere _ (alone (on_line at h))
  typed_lined s (ExpressionTree.Eof at) h = gives LinedHere _ (alone (on_line at h))
  typed_lined s (ExpressionTree.Parenthesized at a) h = typed_lined s a h.1
  typed_lined s (ExpressionTree.Index at a i) h =
      and_then (typed s a) _ (typed_lined s a h.1)
      (λ x k. and_then (typed x.1 i) _ (typed_lined x.1 i h.2) (λ y l. ruled _ y.1 (index_lined y.1.structs at x.0 y.0 (on_line at h.0) k l)))
  typed_lined s (ExpressionTree.Call at f es) h =
      and_then (callee_of s f) _ (anything _)
      (λ c k. and_then (called_first s c (typed s f)) _ (anything _)
      (λ u l. and_then (typed_all [] u es) _ (all_lined [] u es tt h.2) (λ vs m. called_lined vs.1 at c vs.0 (on_line at h.0) m)))
  typed_lined s (ExpressionTree.Member at a m) h =
      and_then (typed s a) _ (typed_lined s a h.1) (λ x k. ruled _ x.1 (member_lined x.1.structs at x.0 m (on_line at h.0) k))
  typed_lined s (ExpressionTree.Arrow at a m) h =
      and_then (typed s a) _ (typed_lined s a h.1) (λ x k. ruled _ x.1 (arrow_lined x.1.structs at x.0 m (on_line at h.0) k))
  typed_lined s (ExpressionTree.StepAfter at a op) h =
      and_then (typed s a) _ (typed_lined s a h.1) (λ x k. ruled _ x.1 (step_after_lined x.1.structs at op x.0 (on_line at h.0) k))
  typed_lined s (ExpressionTree.StepBefore at op a) h =
      and_then (typed s a) _ (typed_lined s a h.1) (λ x k. ruled _ x.1 (step_before_lined x.1.structs at op x.0 (on_line at h.0) k))
  typed_lined s (ExpressionTree.Unary at op a) h =
      and_then (typed s a) _ (typed_lined s a h.1) (λ x k. ruled _ x.1 (unary_lined x.1.structs at op x.0 (on_line at h.0) k))
  typed_lined s (ExpressionTree.SizeofType at t) h =
      and_then (type_named s t) _ (anything _) (λ u k. ruled _ u.1 (measured_type_lined u.1.structs at u.0 (on_line at h.0)))
  typed_lined s (ExpressionTree.SizeofExpression at a) h =
      and_then (typed s a) _ (typed_lined s a h.1) (λ x k. ruled _ x.1 (measured_lined x.1.structs at x.0 (on_line at h.0) k))
  typed_lined s (ExpressionTree.Cast at t a) h =
      and_then (type_named s t) _ (anything _)
      (λ u k. and_then (typed u.1 a) _ (typed_lined u.1 a h.2) (λ x l. ruled _ x.1 (cast_lined at u.0 x.0 (on_line at h.0) l)))
  typed_lined s (ExpressionTree.Binary at a op b) h =
      and_then (typed s a) _ (typed_lined s a h.1)
      (λ x k. and_then (typed x.1 b) _ (typed_lined x.1 b h.2) (λ y l. ruled _ y.1 (binary_lined y.1.structs at op x.0 y.0 (on_line at h.0) k l)))
  typed_lined s (ExpressionTree.Conditional at c a b) h =
      and_then (typed s c) _ (typed_lined s c h.1)
      (λ x k. and_then (typed x.1 a) _ (typed_lined x.1 a h.2)
      (λ y l. and_then (typed y.1 b) _ (typed_lined y.1 b h.3) (λ z m. ruled _ z.1 (conditional_lined at x.0 y.0 z.0 (on_line at h.0) k l m))))
  typed_lined s (ExpressionTree.Assign at a op b) h =
      and_then (typed s a) _ (typed_lined s a h.1)
      (λ x k. and_then (typed x.1 b) _ (typed_lined x.1 b h.2) (λ y l. ruled _ y.1 (assign_lined y.1.structs at op x.0 y.0 (on_line at h.0) k l)))
  typed_lined s (ExpressionTree.Comma at a b) h =
      and_then (typed s a) _ (typed_lined s a h.1)
      (λ x k. and_then (typed x.1 b) _ (typed_lined x.1 b h.2) (λ y l. gives LinedHere _ (comma_lined at x.0 y.0 (on_line at h.0) k l)))

  all_lined : (vs : List CExpr) (s : CScene) (es : ExpressionTrees) → AllByRecursion Lined vs → ExpressionsInRange es → Yields AllLinedHere (typed_all vs s es)
  all_lined vs s ExpressionTrees.none g h = gives AllLinedHere (vs, s) g
  all_lined vs s (ExpressionTrees.more e es) g h =
      and_then (typed s e) _ (typed_lined s e h.0) (λ x k. all_lined (vs ++ x.0 ∷ []) x.1 es (behind Lined vs (x.0 ∷ []) g (k, tt)) h.1)
