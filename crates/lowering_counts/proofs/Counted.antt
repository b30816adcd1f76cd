-- Counts that stop at the greatest u32.
use Rattle.std.proofs.Common.{◌≡◌, ℕ, ◌+◌, ◌<◌, ◌≤◌, Bool, true, false, List, [], ◌∷◌, length, get_or, refl, sym, ap, ◌∙◌, arith}
use Rattle.std.specs.Prelude.{sum, min, max, drop, ◌&&◌}
use Rattle.std.proofs.lemmas.List.{at_drop_more, drop_all}
use Rattle.typed_tree.specs.declared.typed_expr.TypedExpr.{TypedExpr}
use Rattle.typed_tree.specs.TypedTree.{CForm, CExprs}
use Rattle.typed_tree.specs.TypedViews.{expr_of, exprs_of}
use Rattle.std.proofs.Common.{Vec, Global}
use Rattle.typed_tree.specs.declared.typed_expr.Called.{Called}
use Rattle.typed_tree.specs.declared.typed_expr.TypedForm.TheVariants as form
use Rattle.typed_tree.specs.Counts.{nodes_of, temps_of, own_nodes, own_temps, temps_with, greatest_from}
use Rattle.typed_tree.specs.Walk.{walked_operands, walked_all, all_of, every_expr}
use Rattle.typed_tree.specs.TypedViews.{viewed, form_view}
use Rattle.typed_tree.specs.TypedLaws.{TempsAtLeastFour}
use Rattle.lowering_counts.specs.Built.{is_built_expr}
use Rattle.typed_tree.proofs.TypedViewed.{typed_views, view-Call}

pub one_nodes : (r a n : ℕ) → r ≡ min (1 + (a + 0)) 4294967295 → a ≡ min n 4294967295 → r ≡ min (1 + (n + 0)) 4294967295
one_nodes r a n e ea = omega (arith, e, ea)

pub two_nodes : (r a b n m : ℕ) → r ≡ min (1 + (a + (b + 0))) 4294967295 → a ≡ min n 4294967295 → b ≡ min m 4294967295 → r ≡ min (1 + (n + (m + 0))) 4294967295
two_nodes r a b n m e ea eb = omega (arith, e, ea, eb)

pub three_nodes : (r a b c n m l : ℕ) → r ≡ min (1 + (a + (b + (c + 0)))) 4294967295 → a ≡ min n 4294967295 → b ≡ min m 4294967295 → c ≡ min l 4294967295 → r ≡ min (1 + (n + (m + (l + 0)))) 4294967295
three_nodes r a b c n m l e ea eb ec = omega (arith, e, ea, eb, ec)

pub one_temps : (r a n : ℕ) → r ≡ max a 0 → a ≡ min n 4294967295 → r ≡ min (max n 0) 4294967295
one_temps r a n e ea = omega (arith, e, ea)

pub two_temps : (r a b n m : ℕ) → r ≡ max a (min (max (1 + b) 0) 4294967295) → a ≡ min n 4294967295 → b ≡ min m 4294967295 → r ≡ min (max n (max (1 + m) 0)) 4294967295
two_temps r a b n m e ea eb = omega (arith, e, ea, eb)

pub three_temps : (r a b c n m l : ℕ) → r ≡ max a (min (max (1 + b) (max (2 + c) 0)) 4294967295) → a ≡ min n 4294967295 → b ≡ min m 4294967295 → c ≡ min l 4294967295 → r ≡ min (max n (max (1 + m) (max (2 + l) 0))) 4294967295
three_temps r a b c n m l e ea eb ec = omega (arith, e, ea, eb, ec)

pub ruleset counted = (one_nodes, two_nodes, three_nodes, one_temps, two_temps, three_temps, typed_views)

-- ---- Over the arguments of a call

pub one_more : (args : List TypedExpr) (i : ℕ) (e : TypedExpr) → i < length args → e ≡ get_or args i e → exprs_of (drop i args) ≡ CExprs.more (expr_of e) (exprs_of (drop (i + 1) args))
one_more args i e lt is = at_drop_more exprs_of args i e lt ∙ ap (λ z. CExprs.more (expr_of z) (exprs_of (drop (i + 1) args))) (sym is)

pub no_more : (args : List TypedExpr) (i : ℕ) → length args ≤ i → exprs_of (drop i args) ≡ CExprs.none
no_more args i le = ap exprs_of (drop_all i args le)

pub more_nodes : (nodes after one n rest total : ℕ) → after ≡ min (nodes + one) 4294967295 → one ≡ min n 4294967295 → min (nodes + (n + rest)) 4294967295 ≡ min total 4294967295 → min (after + rest) 4294967295 ≡ min total 4294967295
more_nodes nodes after one n rest total ea eo h = omega (arith, ea, eo, h)

pub more_temps : (temps after one before i n rest total : ℕ) → after ≡ max temps (min (one + before) 4294967295) → one ≡ min n 4294967295 → before ≡ min i 4294967295 → min (max temps (max (i + n) rest)) 4294967295 ≡ min total 4294967295 → min (max after rest) 4294967295 ≡ min total 4294967295
more_temps temps after one before i n rest total ea eo eb h = omega (arith, ea, eo, eb, h)

pub more_built : (built after one rest total : Bool) → after ≡ (built && one) → (built && (one && rest)) ≡ total → (after && rest) ≡ total
more_built built after one rest total ea h = ap (λ b. b && rest) ea ∙ assoc built one ∙ h
  where
    assoc : (a b : Bool) → ((a && b) && rest) ≡ (a && (b && rest))
    assoc true b = refl
    assoc false b = refl

pub temps_with_is : TempsAtLeastFour → (es : CExprs) → temps_with (walked_all own_temps es) ≡ max 4 (greatest_from 0 (walked_all own_temps es))
temps_with_is four CExprs.none = refl
temps_with_is four (CExprs.more e es) = omega (arith, four e)

call_is : (e : TypedExpr) (f : Called) (es : Vec TypedExpr Global) → e.form ≡ form.Call f es → form_view e.form ≡ CForm.Call f (exprs_of es.items)
call_is e f es is = ap form_view is ∙ view-Call f es

pub call_nodes : (e : TypedExpr) (f : Called) (es : Vec TypedExpr Global) → e.form ≡ form.Call f es → nodes_of (expr_of e) ≡ 1 + sum (walked_all own_nodes (exprs_of es.items))
call_nodes e f es is = ap (λ z. own_nodes (viewed e.at e.ty z) (walked_operands own_nodes z)) (call_is e f es is)

pub call_temps : (e : TypedExpr) (f : Called) (es : Vec TypedExpr Global) → e.form ≡ form.Call f es → temps_of (expr_of e) ≡ temps_with (walked_all own_temps (exprs_of es.items))
call_temps e f es is = ap (λ z. own_temps (viewed e.at e.ty z) (walked_operands own_temps z)) (call_is e f es is)

pub call_built : (e : TypedExpr) (f : Called) (es : Vec TypedExpr Global) → e.form ≡ form.Call f es → every_expr is_built_expr (expr_of e) ≡ (is_built_expr (expr_of e) && all_of (walked_all (λ e bs. is_built_expr e && all_of bs) (exprs_of es.items)))
call_built e f es is = ap (λ z. is_built_expr (expr_of e) && all_of (walked_operands (λ e bs. is_built_expr e && all_of bs) z)) (call_is e f es is)

pub and_true : (b : Bool) → (b && true) ≡ b
and_true true = refl
and_true false = refl

-- ---- Over the parts of statements

pub joined_nodes : (r a b m n : ℕ) → r ≡ min (a + b) 4294967295 → a ≡ min m 4294967295 → b ≡ min n 4294967295 → r ≡ min (m + n) 4294967295
joined_nodes r a b m n e ea eb = omega (arith, e, ea, eb)

pub joined_temps : (r a b m n : ℕ) → r ≡ max a b → a ≡ min m 4294967295 → b ≡ min n 4294967295 → r ≡ min (max m n) 4294967295
joined_temps r a b m n e ea eb = omega (arith, e, ea, eb)

pub joined_built : (r a b x y : Bool) → r ≡ (a && b) → a ≡ x → b ≡ y → r ≡ (x && y)
joined_built r a b x y e ea eb = e ∙ ap (λ z. z && b) ea ∙ ap (λ z. x && z) eb

pub more_of_temps : (temps after one n rest total : ℕ) → after ≡ max temps one → one ≡ min n 4294967295 → min (max temps (max n rest)) 4294967295 ≡ min total 4294967295 → min (max after rest) 4294967295 ≡ min total 4294967295
more_of_temps temps after one n rest total ea eo h = omega (arith, ea, eo, h)

pub next_in : {X Y : Type 0} (G : List X → Y) (xs : List X) (i : ℕ) (x : X) → i < length xs → x ≡ get_or xs i x → G (drop i xs) ≡ G (x ∷ drop (i + 1) xs)
next_in G xs i x lt is = at_drop_more G xs i x lt ∙ ap (λ z. G (z ∷ drop (i + 1) xs)) (sym is)

pub end_in : {X Y : Type 0} (G : List X → Y) (xs : List X) (i : ℕ) → length xs ≤ i → G (drop i xs) ≡ G []
end_in G xs i le = ap G (drop_all i xs le)

pub ruleset parts = (joined_nodes, joined_temps, joined_built, typed_views)
