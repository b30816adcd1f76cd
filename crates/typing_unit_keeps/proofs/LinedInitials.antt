-- The typed initializers of a file in range stand on lines of the text.
use Rattle.std.proofs.Common.{◌≡◌, ℕ, suc, Bool, true, ◌&&◌, ◌||◌, List, [], ◌∷◌, ◌++◌, refl}
use Rattle.std.specs.Prelude.{Option, Some, None, IfSome}
use Rattle.std.specs.List.{AllByRecursion}
use Rattle.c_words.specs.declared.place.At.{At}
use Rattle.syntax_tree.specs.Syntax.{ExpressionTree, InitializerTree, InitializerTrees}
use Rattle.typed_tree.specs.Types.{CType, is_array, is_struct}
use Rattle.typed_tree.specs.TypedTree.{CExpr, CInitial, CInitials, CStruct, at_of, type_of}
use Rattle.typed_tree.specs.TypedViews.{initials as listed}
use Rattle.typed_tree.specs.TypedRules.{part_type}
use Rattle.typed_tree.specs.Walk.{Sum, every_expr, over_initial, over_initials}
use Rattle.typed_tree.specs.Typed.{stands_on_line, initial_on_line, initializer_on_line, statement_on_line}
use Rattle.typing_operators.specs.declared.error.TypeError.TheVariants.{BadType}
use Rattle.typing_operators.specs.Rule.{Rule}
use Rattle.typing_operators.specs.Conversions.{decayed, given, is_void}
use Rattle.typing_operators.specs.Operators.{copied_from}
use Rattle.typing_expressions.specs.Scene.{CScene}
use Rattle.typing_expressions.specs.Expressions.{typed}
use Rattle.typing_expressions.specs.Initializers.{allowed, all_looked_at, string_of, aggregate_from, value_from, part_from, part_or_excess, initial, initials, copied, struct_copied, initialized}
use Rattle.syntax_in_range.specs.InRange.{IsPlace, InitializerInRange, InitializersInRange, ExpressionInRange}
use Rattle.typing_unit_keeps.proofs.LinedRules.{Yields, gives, fails, unless, either, and_then, anything, Lined, both, given_lined, copied_lined}
use Rattle.typing_unit_keeps.proofs.LinedExpressions.{on_line, behind, typed_lined}

-- whether what stands in a statement has a line, as a sum
abbrev pub lines : Sum Bool
lines = record {
  nothing = true;
  both = λ a b. a && b;
  expr = every_expr (λ e. stands_on_line (at_of e));
  initial = initial_on_line;
  declaration = λ d. stands_on_line d.at && initializer_on_line d.initializer;
  statement = statement_on_line;
}

abbrev pub LinedInitial : CInitial → Type 0
LinedInitial x = over_initial lines x ≡ true

abbrev AreLinedInitials : CInitials → Type 0
AreLinedInitials xs = over_initials lines xs ≡ true

abbrev pub InitialHere : CInitial × CScene → Type 0
InitialHere x = LinedInitial x.0

abbrev InitialsHere : List CInitial × CScene → Type 0
InitialsHere x = AllByRecursion LinedInitial x.0

listed_lined : (xs : List CInitial) → AllByRecursion LinedInitial xs → AreLinedInitials (listed xs)
listed_lined [] h = refl
listed_lined (x ∷ xs) h = both h.0 (listed_lined xs h.1)

allowed_lined : (g : Bool) (structs : List CStruct) (line : ℕ) (e : CExpr) → Lined e → Yields Lined (allowed g structs line e)
allowed_lined g structs line e h = unless _ _ _ (gives Lined e h)

aggregate_lined : (line : ℕ) (x : CExpr × CScene) → Yields InitialHere (aggregate_from line x)
aggregate_lined line x = unless _ _ _ (fails InitialHere _)

value_lined : (g : Bool) (line : ℕ) (t : CType) (x : CExpr × CScene) → Lined x.0 → Yields InitialHere (value_from g line t x)
value_lined g line t x h =
    and_then (given line t x.0) _ (given_lined line t x.0 h)
    (λ v k. and_then (allowed g x.1.structs line v) _ (allowed_lined g x.1.structs line v k) (λ w l. gives InitialHere (CInitial.Value w, x.1) l))

-- a string that is an initializer stands where the expression does
string_place : (t : CType) (e : ExpressionTree) → ExpressionInRange e → IfSome (string_of t e) (λ x. IsPlace x.0)
string_place (CType.Array CType.Char n) (ExpressionTree.Text at pieces) h = h.0
string_place t e h = tt

part_lined : (g : Bool) (s : CScene) (line : ℕ) (t : CType) (e : ExpressionTree) (o : Option (At × List ℕ)) → ExpressionInRange e → IfSome o (λ x. IsPlace x.0) → Yields InitialHere (part_from g s line t e o)
part_lined g s line t e (Some x) h p = unless _ _ _ (gives InitialHere (CInitial.Text x.0 x.1, s) (on_line x.0 p))
part_lined g s line t e None h p =
    and_then (typed s e) _ (typed_lined s e h)
    (λ x k. either (is_array t || is_struct t) _ _ (aggregate_lined line x) (value_lined g line t x k))

parts_lined : (o : Option CType) (part : CType → Rule (CInitial × CScene)) (rest : CInitial → CScene → Rule (List CInitial × CScene)) (excess : Rule CScene) (line : ℕ)
    → ((u : CType) → Yields InitialHere (part u)) → ((x : CInitial) (s : CScene) → LinedInitial x → Yields InitialsHere (rest x s)) → Yields InitialsHere (part_or_excess o part rest excess line)
parts_lined None part rest excess line f g = and_then excess _ (anything _) (λ u k. fails InitialsHere _)
parts_lined (Some u) part rest excess line f g = and_then (part u) _ (f u) (λ y k. g y.0 y.1 k)

mutual
  initial_lined : (g : Bool) (s : CScene) (line : ℕ) (t : CType) (i : InitializerTree) → InitializerInRange i → Yields InitialHere (initial g s line t i)
  initial_lined g s line t (InitializerTree.Expression e) h = part_lined g s line t e (string_of t e) h (string_place t e h)
  initial_lined g s line t (InitializerTree.Braced at parts) h =
      either (is_array t || is_struct t) _ _
      (and_then (initials g [] s line t 0 parts) _ (initials_lined g [] s line t 0 parts tt h.2)
      (λ x k. gives InitialHere (CInitial.Braces at (listed x.0), x.1) (both (on_line at h.0) (listed_lined x.0 k))))
      (and_then (all_looked_at s line parts) _ (anything _) (λ u k. fails InitialHere (BadType line 20)))

  initials_lined : (g : Bool) (vs : List CInitial) (s : CScene) (line : ℕ) (t : CType) (i : ℕ) (xs : InitializerTrees) → AllByRecursion LinedInitial vs → InitializersInRange xs
      → Yields InitialsHere (initials g vs s line t i xs)
  initials_lined g vs s line t i InitializerTrees.none k h = gives InitialsHere (vs, s) k
  initials_lined g vs s line t i (InitializerTrees.more x xs) k h =
      parts_lined (part_type s.structs t i) _ _ _ line (λ u. initial_lined g s line u x h.0)
      (λ v u l. initials_lined g (vs ++ v ∷ []) u line t (suc i) xs (behind LinedInitial vs (v ∷ []) k (l, tt)) h.1)

copy_lined : (g : Bool) (line : ℕ) (t : CType) (x : CExpr × CScene) → Lined x.0 → Yields InitialHere (copied g line t x)
copy_lined g line t x h =
    unless (is_void (type_of x.0)) _ _
    (and_then (allowed g x.1.structs line (decayed x.0)) _ (anything _)
    (λ v k. and_then (copied_from line t x.0) _ (copied_lined line t x.0 h) (λ w l. gives InitialHere (CInitial.Value w, x.1) l)))

struct_lined : (g : Bool) (s : CScene) (line : ℕ) (t : CType) (i : InitializerTree) → InitializerInRange i → Yields InitialHere (struct_copied g s line t i)
struct_lined g s line t (InitializerTree.Expression e) h = and_then (typed s e) _ (typed_lined s e h) (λ x k. copy_lined g line t x k)
struct_lined g s line t (InitializerTree.Braced at parts) h = initial_lined g s line t (InitializerTree.Braced at parts) h

pub initialized_lined : (g : Bool) (s : CScene) (line : ℕ) (t : CType) (i : InitializerTree) → InitializerInRange i → Yields InitialHere (initialized g s line t i)
initialized_lined g s line t i h = either (is_struct t) _ _ (struct_lined g s line t i h) (initial_lined g s line t i h)
