-- Lists of steps, and what stands for them.
use Rattle.std.specs.Prelude.{min}
use Rattle.mid_code.proofs.Views.{step_views}
use Rattle.std.proofs.lemmas.Bool.{cases_lt}
use Rattle.std.proofs.Math.Nat.{mul-suc}
use Rattle.std.proofs.Common.{mul-zero, inl, inr, ◌<◌, ◌≡◌, ℕ, zero, suc, ◌+◌, ◌*◌, arith, List, [], ◌∷◌, ◌++◌, refl, sym, ap, ◌∙◌}
use Rattle.mid_code.specs.declared.code.MidStep.{MidStep}
use Rattle.mid_code.specs.Code.{Step, Steps, append}
use Rattle.mid_code.specs.Code.Steps.{stop, step as more}
use Rattle.mid_code.specs.Views.{step_of, steps_of}
use Rattle.std.proofs.Common.{Vec, Global}
use Rattle.typed_tree.specs.declared.typed_expr.Called.{Called}
use Rattle.typed_tree.specs.declared.typed_expr.TypedExpr.{TypedExpr}
use Rattle.typed_tree.specs.declared.typed_expr.TypedForm.TheVariants as form
use Rattle.typed_tree.specs.TypedTree.{CStruct}
use Rattle.typed_tree.specs.TypesViewed.{ty_of}
use Rattle.typed_tree.specs.TypedViews.{form_view, expr_of, exprs_of}
use Rattle.typed_tree.proofs.TypedViewed.{view-Call}
use Rattle.typed_tree.specs.Counts.{temps_of, own_temps, temps_with}
use Rattle.typed_tree.specs.Walk.{walked_all}
use Rattle.lowering_counts.proofs.Counted.{call_temps}
use Rattle.std.specs.Prelude.{Box, Option, Some, None}
use Rattle.c_words.specs.declared.place.At.{At}
use Rattle.typed_tree.specs.declared.typed_stmt.TypedStmt.{TypedStmt}
use Rattle.typed_tree.specs.declared.typed_stmt.TypedStmt.TheVariants as stmt
use Rattle.typed_tree.specs.TypedViews.{stmt_of}
use Rattle.typed_tree.proofs.TypedViewed.{view-If, view-IfElse}
use Rattle.lowering_code.specs.Lower.{stmt_code, only, code, form_code, all_code, places, calling}

pub steps_append : (xs ys : List MidStep) → steps_of (xs ++ ys) ≡ append (steps_of xs) (steps_of ys)
steps_append [] ys = refl
steps_append (x ∷ xs) ys = ap (more (step_of x)) (steps_append xs ys)

pub append_stop : (xs : Steps) → append xs stop ≡ xs
append_stop stop = refl
append_stop (more x xs) = ap (more x) (append_stop xs)

pub append_assoc : (xs ys zs : Steps) → append (append xs ys) zs ≡ append xs (append ys zs)
append_assoc stop ys zs = refl
append_assoc (more x xs) ys zs = ap (more x) (append_assoc xs ys zs)

pub two_more : (s0 s1 s2 x y : Steps) → s1 ≡ append s0 x → s2 ≡ append s1 y → s2 ≡ append s0 (append x y)
two_more s0 s1 s2 x y e1 e2 = e2 ∙ ap (λ s. append s y) e1 ∙ append_assoc s0 x y

pub three_more : (s0 s1 s2 s3 x y z : Steps) → s1 ≡ append s0 x → s2 ≡ append s1 y → s3 ≡ append s2 z → s3 ≡ append s0 (append x (append y z))
three_more s0 s1 s2 s3 x y z e1 e2 e3 = two_more s0 s1 s3 x (append y z) e1 (two_more s1 s2 s3 y z e2 e3)

pub four_more : (s0 s1 s2 s3 s4 x y z w : Steps) → s1 ≡ append s0 x → s2 ≡ append s1 y → s3 ≡ append s2 z → s4 ≡ append s3 w → s4 ≡ append s0 (append x (append y (append z w)))
four_more s0 s1 s2 s3 s4 x y z w e1 e2 e3 e4 = two_more s0 s1 s4 x (append y (append z w)) e1 (three_more s1 s2 s3 s4 y z w e2 e3 e4)

pub five_more : (s0 s1 s2 s3 s4 s5 x y z w u : Steps) → s1 ≡ append s0 x → s2 ≡ append s1 y → s3 ≡ append s2 z → s4 ≡ append s3 w → s5 ≡ append s4 u → s5 ≡ append s0 (append x (append y (append z (append w u))))
five_more s0 s1 s2 s3 s4 s5 x y z w u e1 e2 e3 e4 e5 = two_more s0 s1 s5 x (append y (append z (append w u))) e1 (four_more s1 s2 s3 s4 s5 y z w u e2 e3 e4 e5)

-- to an empty list
pub from_nothing : (xs : List MidStep) (s y : Steps) → xs ≡ [] → s ≡ append (steps_of xs) y → s ≡ y
from_nothing xs s y e h = h ∙ ap (λ z. append (steps_of z) y) e

pub min_mul : (a n : ℕ) → min (min a 4294967295 * n) 4294967295 ≡ min (a * n) 4294967295
min_mul a n = elim (cases_lt 4294967295 a) [ inl gt ↦ large a n gt | inr le ↦ let e : min a 4294967295 ≡ a = omega (arith, le) in ap (λ z. min (z * n) 4294967295) e ]
  where
    large : (a n : ℕ) → 4294967295 < a → min (min a 4294967295 * n) 4294967295 ≡ min (a * n) 4294967295
    large a zero gt = let e : a * 0 ≡ 0 = mul-zero a in omega (arith, e)
    large a (suc n) gt =
        let m : min a 4294967295 ≡ 4294967295 = omega (arith, gt) in
        let e : a * suc n ≡ a * n + a = mul-suc a n in
        ap (λ z. min (z * suc n) 4294967295) m ∙ omega (arith, gt, e)

-- one step and then more, as the code of an operator has them
pub more_one : (s0 s1 s2 y : Steps) (a : Step) → s1 ≡ append s0 (only a) → s2 ≡ append s1 y → s2 ≡ append s0 (more a y)
more_one s0 s1 s2 y a e1 e2 = two_more s0 s1 s2 (only a) y e1 e2

pub compound_more : (s0 s1 s2 s3 s4 x : Steps) (a b c : Step) → s1 ≡ append s0 (only a) → s2 ≡ append s1 (only b) → s3 ≡ append s2 x → s4 ≡ append s3 (only c) → s4 ≡ append s0 (more a (more b (append x (only c))))
compound_more s0 s1 s2 s3 s4 x a b c e1 e2 e3 e4 = four_more s0 s1 s2 s3 s4 (only a) (only b) x (only c) e1 e2 e3 e4

pub stepping_more : (s0 s1 s2 s3 s4 s5 x : Steps) (a b c d : Step) → s1 ≡ append s0 (only a) → s2 ≡ append s1 (only b) → s3 ≡ append s2 (only c) → s4 ≡ append s3 x → s5 ≡ append s4 (only d) → s5 ≡ append s0 (more a (more b (more c (append x (only d)))))
stepping_more s0 s1 s2 s3 s4 s5 x a b c d e1 e2 e3 e4 e5 = five_more s0 s1 s2 s3 s4 s5 (only a) (only b) (only c) x (only d) e1 e2 e3 e4 e5

-- a call: the code of its arguments, and its step
pub call_code : (structs : List CStruct) (e : TypedExpr) (f : Called) (es : Vec TypedExpr Global) (args : List TypedExpr) (to : ℕ) (s0 s1 s2 : Steps) (ps : List ℕ) (x : Step) → e.form ≡ form.Call f es → args ≡ es.items → s1 ≡ append s0 (all_code structs (exprs_of args) to) → ps ≡ places (exprs_of args) to → x ≡ calling f e.at.line to ps → s2 ≡ append s1 (only x) → s2 ≡ append s0 (code structs (expr_of e) to)
call_code structs e f es args to s0 s1 s2 ps x is same e1 ep ex e2 =
    two_more s0 s1 s2 (all_code structs (exprs_of args) to) (only x) e1 e2
    ∙ ap (λ z. append s0 (append (all_code structs (exprs_of args) to) (only z))) (ex ∙ ap (calling f e.at.line to) ep)
    ∙ ap (λ z. append s0 (append (all_code structs (exprs_of z) to) (only (calling f e.at.line to (places (exprs_of z) to))))) same
    ∙ ap (λ z. append s0 (form_code structs z e.at.line (ty_of e.ty) to)) (sym (ap form_view is ∙ view-Call f es))

-- the arguments of a call have the room of the call
pub room_of_call : (e : TypedExpr) (f : Called) (es : Vec TypedExpr Global) (args : List TypedExpr) (to : ℕ) → e.form ≡ form.Call f es → args ≡ es.items → to + temps_of (expr_of e) < 4294967296 → to + temps_with (walked_all own_temps (exprs_of args)) < 4294967296
room_of_call e f es args to is same room = omega (arith, room, call_temps e f es is, ap (λ z. temps_with (walked_all own_temps (exprs_of z))) same)

-- ---- Statements

pub more_two : (s0 s1 s2 s3 x y : Steps) (a : Step) → s1 ≡ append s0 (only a) → s2 ≡ append s1 x → s3 ≡ append s2 y → s3 ≡ append s0 (more a (append x y))
more_two s0 s1 s2 s3 x y a e1 e2 e3 = three_more s0 s1 s2 s3 (only a) x y e1 e2 e3

-- a list of steps that was empty at first
pub begun_two : (xs : List MidStep) (s1 s2 x y : Steps) → xs ≡ [] → s1 ≡ append (steps_of xs) x → s2 ≡ append s1 y → s2 ≡ append x y
begun_two xs s1 s2 x y e e1 e2 = from_nothing xs s2 (append x y) e (two_more (steps_of xs) s1 s2 x y e1 e2)

pub begun_while : (xs : List MidStep) (s1 s2 s3 x : Steps) (a b : Step) → xs ≡ [] → s1 ≡ append (steps_of xs) x → s2 ≡ append s1 (only a) → s3 ≡ append s2 (only b) → s3 ≡ append x (more a (only b))
begun_while xs s1 s2 s3 x a b e e1 e2 e3 = from_nothing xs s3 (append x (more a (only b))) e (three_more (steps_of xs) s1 s2 s3 x (only a) (only b) e1 e2 e3)

pub begun_do : (xs : List MidStep) (s1 s2 s3 y : Steps) (a b : Step) → xs ≡ [] → s1 ≡ append (steps_of xs) (only a) → s2 ≡ append s1 y → s3 ≡ append s2 (only b) → s3 ≡ more a (append y (only b))
begun_do xs s1 s2 s3 y a b e e1 e2 e3 = from_nothing xs s3 (more a (append y (only b))) e (three_more (steps_of xs) s1 s2 s3 (only a) y (only b) e1 e2 e3)

pub begun_for : (xs : List MidStep) (s1 s2 s3 x y : Steps) (a : Step) → xs ≡ [] → s1 ≡ append (steps_of xs) x → s2 ≡ append s1 (only a) → s3 ≡ append s2 y → s3 ≡ append x (more a y)
begun_for xs s1 s2 s3 x y a e e1 e2 e3 = from_nothing xs s3 (append x (more a y)) e (three_more (steps_of xs) s1 s2 s3 x (only a) y e1 e2 e3)

-- `if`, with the code of its parts
pub if_then_code : (structs : List CStruct) (x : TypedStmt) (at : At) (q : TypedExpr) (b : Box TypedStmt Global) (o : Option (Box TypedStmt Global)) (bn : TypedStmt) (back to : ℕ) (s0 s1 s2 s3 y n : Steps) (z : Step) → x ≡ stmt.If at q b o → o ≡ None → bn ≡ b.value → s1 ≡ append s0 (only (Step.LineMark at.line)) → s2 ≡ append s1 (code structs (expr_of q) to) → y ≡ stmt_code structs (stmt_of bn) back to → n ≡ stop → z ≡ Step.If to y n → s3 ≡ append s2 (only z) → s3 ≡ append s0 (stmt_code structs (stmt_of x) back to)
if_then_code structs x at q b o bn back to s0 s1 s2 s3 y n z ex eo eb e1 e2 ey en ez e3 =
    more_two s0 s1 s2 s3 (code structs (expr_of q) to) (only z) (Step.LineMark at.line) e1 e2 e3
    ∙ ap (λ w. append s0 (more (Step.LineMark at.line) (append (code structs (expr_of q) to) (only w)))) (ez ∙ ap (λ w. Step.If to w n) (ey ∙ ap (λ w. stmt_code structs (stmt_of w) back to) eb) ∙ ap (λ w. Step.If to (stmt_code structs (stmt_of b.value) back to) w) en)
    ∙ ap (λ w. append s0 (stmt_code structs w back to)) (sym (ap stmt_of ex ∙ ap (λ w. stmt_of (stmt.If at q b w)) eo ∙ view-If at q b))

pub if_else_code : (structs : List CStruct) (x : TypedStmt) (at : At) (q : TypedExpr) (b d : Box TypedStmt Global) (o : Option (Box TypedStmt Global)) (bn dn : TypedStmt) (back to : ℕ) (s0 s1 s2 s3 y n : Steps) (z : Step) → x ≡ stmt.If at q b o → o ≡ Some d → bn ≡ b.value → dn ≡ d.value → s1 ≡ append s0 (only (Step.LineMark at.line)) → s2 ≡ append s1 (code structs (expr_of q) to) → y ≡ stmt_code structs (stmt_of bn) back to → n ≡ stmt_code structs (stmt_of dn) back to → z ≡ Step.If to y n → s3 ≡ append s2 (only z) → s3 ≡ append s0 (stmt_code structs (stmt_of x) back to)
if_else_code structs x at q b d o bn dn back to s0 s1 s2 s3 y n z ex eo eb ed e1 e2 ey en ez e3 =
    more_two s0 s1 s2 s3 (code structs (expr_of q) to) (only z) (Step.LineMark at.line) e1 e2 e3
    ∙ ap (λ w. append s0 (more (Step.LineMark at.line) (append (code structs (expr_of q) to) (only w)))) (ez ∙ ap (λ w. Step.If to w n) (ey ∙ ap (λ w. stmt_code structs (stmt_of w) back to) eb) ∙ ap (λ w. Step.If to (stmt_code structs (stmt_of b.value) back to) w) (en ∙ ap (λ w. stmt_code structs (stmt_of w) back to) ed))
    ∙ ap (λ w. append s0 (stmt_code structs w back to)) (sym (ap stmt_of ex ∙ ap (λ w. stmt_of (stmt.If at q b w)) eo ∙ view-IfElse at q b d))

pub ruleset statements = (more_one, more_two, from_nothing, begun_while, begun_do, begun_for)

pub ruleset emitted = (append_stop, two_more, three_more, four_more, five_more, more_one, from_nothing, step_views)
