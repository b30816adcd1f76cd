-- Arguments that are given to their parameters one after the other.
use Rattle.std.proofs.Common.{◌≡◌, ℕ, suc, ◌+◌, ◌<◌, ◌≤◌, List, [], ◌∷◌, ◌++◌, length, drop, get_or, refl, sym, ◌∙◌, ap, arith, add-one, drop-cons, Vec, Global}
use Rattle.std.specs.Prelude.{Ok, Err, map}
use Rattle.std.proofs.lemmas.Grind.{common_steps}
use Rattle.std.proofs.lemmas.List.{map_push}
use Rattle.typed_tree.specs.declared.types.Ty.{Ty}
use Rattle.typed_tree.specs.declared.typed_expr.TypedExpr.{TypedExpr}
use Rattle.typed_tree.specs.Types.{CType}
use Rattle.typed_tree.specs.TypesViewed.{ty_of}
use Rattle.c_words.specs.declared.place.At.{At}
use Rattle.typed_tree.specs.declared.typed_expr.Called.{Called}
use Rattle.typed_tree.specs.declared.typed_expr.TypedForm.TheVariants as form
use Rattle.typed_tree.proofs.TypedViewed.{view-Call}
use Rattle.typed_tree.specs.TypedTree.{CExpr, CForm, CExprs}
use Rattle.typed_tree.specs.TypedViews.{exprs, expr_of, exprs_of, form_view}
use Rattle.typing_operators.specs.declared.error.TypeError.{TypeError}
use Rattle.typing_operators.specs.declared.error.TypeError.TheVariants.{BadType}
use Rattle.typing_operators.specs.Rule.{Rule, ◌>>=◌, Fails}
use Rattle.typing_operators.specs.Conversions.{given}
use Rattle.typing_operators.specs.Operators.{passed, call_rule}
use Rattle.typing_expressions.proofs.Refusals.{goes_up}

-- the expressions before others
abbrev pub before : List CExpr → CExprs → CExprs
before [] es = es
before (v ∷ vs) es = CExprs.more v (before vs es)

abbrev pub with_front : List CExpr → Rule CExprs → Rule CExprs
with_front front rule = rule >>= λ es. Ok (before front es)

before_more : (front : List CExpr) (v : CExpr) (es : CExprs) → before (front ++ v ∷ []) es ≡ before front (CExprs.more v es)
before_more [] v es = refl
before_more (x ∷ xs) v es = ap (CExprs.more x) (before_more xs v es)

before_none : (front : List CExpr) → before front CExprs.none ≡ exprs front
before_none [] = refl
before_none (x ∷ xs) = ap (CExprs.more x) (before_none xs)

-- one more in front is one less behind
regrouped : (front : List CExpr) (v : CExpr) (rule : Rule CExprs) → with_front (front ++ v ∷ []) rule ≡ with_front front (rule >>= λ es. Ok (CExprs.more v es))
regrouped front v (Ok es) = ap (λ (r : CExprs). let o : Rule CExprs = Ok r in o) (before_more front v es)
regrouped front v (Err e) = refl

pub none_left : {X : Type 0} (xs : List X) → length xs ≡ 0 → xs ≡ []
none_left [] h = refl
none_left (x ∷ xs) h = absurd (omega (arith, h))

next_param : (ts : List Ty) (i : ℕ) (t : Ty) → i < length ts → t ≡ get_or ts i t → map ty_of (drop i ts) ≡ ty_of t ∷ map ty_of (drop (i + 1) ts)
next_param ts i t less is = rw (add-one, drop-cons ts i t less) (ap (λ (u : Ty). ty_of u ∷ map ty_of (drop (suc i) ts)) (sym is))

no_param : (ts : List Ty) (i : ℕ) → length ts ≤ i → drop i ts ≡ []
no_param ts i past = grind (arith, common_steps)

-- a call of what its arguments were given to
pub call_is : (at : At) (called : Called) (t : Ty) (params : List CType) (es : CExprs) (vs : Vec TypedExpr Global) → passed at.line params es ≡ Ok (exprs_of vs.items)
    → call_rule at called (ty_of t) params es ≡ Ok (CExpr.expr at (ty_of t) (form_view (form.Call called vs)))
unfolding call_rule
call_is at called t params es vs h =
    ap (λ (r : Rule CExprs). r >>= λ us. Ok (CExpr.expr at (ty_of t) (CForm.Call called us))) h
    ∙ ap (λ (f : CForm). let o : Rule CExpr = Ok (CExpr.expr at (ty_of t) f) in o) (sym (view-Call called vs))

module _ (line : ℕ) (front : List TypedExpr) (ts : List Ty) (i : ℕ) (old : List TypedExpr) (total : Rule CExprs)
    (so_far : with_front (map expr_of front) (passed line (map ty_of (drop i ts)) (exprs_of old)) ≡ total) where
  one : (t : Ty) (e : TypedExpr) (rest : List TypedExpr) → i < length ts → t ≡ get_or ts i t → old ≡ e ∷ rest → (given_rule : Rule CExpr)
      → given line (ty_of t) (expr_of e) ≡ given_rule
      → with_front (map expr_of front) (given_rule >>= λ v. passed line (map ty_of (drop (i + 1) ts)) (exprs_of rest) >>= λ vs. Ok (CExprs.more v vs)) ≡ total
  one t e rest less is head g h =
      let k = map ty_of (drop (i + 1) ts) in
      sym (ap (λ (ps : List CType). with_front (map expr_of front) (passed line ps (exprs_of old))) (next_param ts i t less is)
      ∙ ap (λ (es : List TypedExpr). with_front (map expr_of front) (passed line (ty_of t ∷ k) (exprs_of es))) head
      ∙ ap (λ (r : Rule CExpr). with_front (map expr_of front) (r >>= λ v. passed line k (exprs_of rest) >>= λ vs. Ok (CExprs.more v vs))) h)
      ∙ so_far

  pub goes_on : (t : Ty) (e : TypedExpr) (rest : List TypedExpr) (v : TypedExpr) → i < length ts → t ≡ get_or ts i t → old ≡ e ∷ rest
      → given line (ty_of t) (expr_of e) ≡ Ok (expr_of v)
      → with_front (map expr_of (front ++ v ∷ [])) (passed line (map ty_of (drop (i + 1) ts)) (exprs_of rest)) ≡ total
  goes_on t e rest v less is head h =
      ap (λ (vs : List CExpr). with_front vs (passed line (map ty_of (drop (i + 1) ts)) (exprs_of rest))) (map_push expr_of front v)
      ∙ regrouped (map expr_of front) (expr_of v) (passed line (map ty_of (drop (i + 1) ts)) (exprs_of rest))
      ∙ one t e rest less is head (Ok (expr_of v)) h

  pub stops : (f : TypeError) (t : Ty) (e : TypedExpr) (rest : List TypedExpr) → i < length ts → t ≡ get_or ts i t → old ≡ e ∷ rest
      → Fails f (given line (ty_of t) (expr_of e)) → Fails f total
  stops f t e rest less is head = goes_up f (given line (ty_of t) (expr_of e)) total (λ g h. sym (one t e rest less is head (Err g) h))

  pub lacks_argument : (t : Ty) → i < length ts → t ≡ get_or ts i t → old ≡ [] → total ≡ Err (BadType line 16)
  lacks_argument t less is none =
      sym (sym (ap (λ (ps : List CType). with_front (map expr_of front) (passed line ps (exprs_of old))) (next_param ts i t less is)
      ∙ ap (λ (es : List TypedExpr). with_front (map expr_of front) (passed line (ty_of t ∷ map ty_of (drop (i + 1) ts)) (exprs_of es))) none)
      ∙ so_far)

  pub is_passed : length ts ≤ i → old ≡ [] → total ≡ Ok (exprs_of front)
  is_passed past none =
      sym (sym (ap (λ (us : List Ty). with_front (map expr_of front) (passed line (map ty_of us) (exprs_of old))) (no_param ts i past)
      ∙ ap (λ (es : List TypedExpr). with_front (map expr_of front) (passed line [] (exprs_of es))) none
      ∙ ap (λ (r : CExprs). let o : Rule CExprs = Ok r in o) (before_none (map expr_of front)))
      ∙ so_far)

  pub too_many : (e : TypedExpr) (rest : List TypedExpr) → length ts ≤ i → old ≡ e ∷ rest → total ≡ Err (BadType line 16)
  too_many e rest past head =
      sym (sym (ap (λ (us : List Ty). with_front (map expr_of front) (passed line (map ty_of us) (exprs_of old))) (no_param ts i past)
      ∙ ap (λ (es : List TypedExpr). with_front (map expr_of front) (passed line [] (exprs_of es))) head)
      ∙ so_far)
