-- What names stand for, and calls.
use Rattle.std.proofs.Common.{◌≡◌, ℕ, true, List, [], ◌∷◌, refl, sym, ap, ◌∙◌, subst}
use Rattle.std.specs.Prelude.{Option, Some, None, Ok, slice_get, slice_set}
use Rattle.c_words.specs.declared.place.At.{At}
use Rattle.syntax_tree.specs.Syntax.{ExpressionTree, ExpressionTrees}
use Rattle.typed_tree.specs.declared.typed_expr.LibCall.{LibCall}
use Rattle.typed_tree.specs.declared.typed_expr.Called.TheVariants.{Defined, Library}
use Rattle.typed_tree.specs.Types.{CType}
use Rattle.typed_tree.specs.TypedTree.{CExpr, CForm, CExprs}
use Rattle.typed_tree.specs.TypedViews.{exprs}
use Rattle.typed_tree.specs.TypedRules.{prototype_in_library, AreGiven}
use Rattle.typing_operators.specs.Operators.{call_rule}
use Rattle.typing_expressions.specs.declared.calls.Callee.{Callee}
use Rattle.typing_expressions.specs.declared.calls.Callee.TheVariants as callee
use Rattle.typing_expressions.specs.Names.{found}
use Rattle.typing_expressions.specs.Scene.{CScene, CLocalName, CEntry, CDeclared, local_in}
use Rattle.typing_expressions.specs.Expressions.{in_library, object_by, object, callee_by, callee_named, callee_of, function_called, library_called, called}
use Rattle.typing_accepted.specs.AcceptanceOperands.{BecomeAll}
use Rattle.typing_accepted.specs.AcceptanceExpressions.{Accepts, AcceptsAll, IsNoLocal}
use Rattle.typing_accepted.proofs.Steps.{bound, onward, same_ok}
use Rattle.typing_accepted.proofs.FromRest.{AreWritten, call_from}
use Rattle.typing_accepted.proofs.ToRest.{AreRead, call_to}

-- names of objects

pub object_local : (s : CScene) (at : At) (x : List ℕ) (l : CLocalName) → local_in s.scopes x ≡ Some l → object s at x ≡ Ok (CExpr.expr at l.ty (CForm.Local l.number))
unfolding object
object_local s at x l is = ap (λ o. object_by at x o (found x s.names) (in_library x)) is

pub object_global : (s : CScene) (at : At) (x : List ℕ) (n : ℕ) (t : CType) → IsNoLocal s x → found x s.names ≡ Some (CEntry.Object n t) → object s at x ≡ Ok (CExpr.expr at t (CForm.Global n))
unfolding object
object_global s at x n t none is = rw (none, is) refl

object_of : (s : CScene) (at : At) (x : List ℕ) (v : CExpr) (l : Option CLocalName) (e : Option CEntry) (f : Option LibCall)
    → local_in s.scopes x ≡ l → found x s.names ≡ e → object_by at x l e f ≡ Ok v → Accepts s (ExpressionTree.Name at x) v s
object_of s at x v (Some l) e f l_is e_is is = subst (λ w. Accepts s (ExpressionTree.Name at x) w s) (same_ok (CExpr.expr at l.ty (CForm.Local l.number)) v is) (Accepts.local l_is)
object_of s at x v None (Some (CEntry.Object n t)) f l_is e_is is = subst (λ w. Accepts s (ExpressionTree.Name at x) w s) (same_ok (CExpr.expr at t (CForm.Global n)) v is) (Accepts.global l_is e_is)
object_of s at x v None (Some (CEntry.Function k)) f l_is e_is is = absurd cc
object_of s at x v None None (Some f) l_is e_is is = absurd cc
object_of s at x v None None None l_is e_is is = absurd cc

pub object_from : (s : CScene) (at : At) (x : List ℕ) (v : CExpr) → object s at x ≡ Ok v → Accepts s (ExpressionTree.Name at x) v s
unfolding object
object_from s at x v is = object_of s at x v _ _ _ refl refl is

-- names that are called

pub callee_function : (s : CScene) (at : At) (x : List ℕ) (k : ℕ) → IsNoLocal s x → found x s.names ≡ Some (CEntry.Function k) → callee_of s (ExpressionTree.Name at x) ≡ Ok (Some (callee.Function k))
unfolding callee_named
callee_function s at x k none is = rw (none, is) refl

pub callee_library : (s : CScene) (at : At) (x : List ℕ) (f : LibCall) → IsNoLocal s x → found x s.names ≡ None → in_library x ≡ Some f → callee_of s (ExpressionTree.Name at x) ≡ Ok (Some (callee.Library f))
unfolding callee_named
callee_library s at x f no_local no_name is = rw (no_local, no_name, is) refl

-- what a name that is called stands for
abbrev Names : CScene → List ℕ → Callee → Type 0
Names s x (callee.Function k) = IsNoLocal s x × (found x s.names ≡ Some (CEntry.Function k))
Names s x (callee.Library f) = IsNoLocal s x × (found x s.names ≡ None) × (in_library x ≡ Some f)
Names s x callee.Object = Unit {0}

callee_is : (s : CScene) (at : At) (x : List ℕ) (c : Callee) (l : Option CLocalName) (e : Option CEntry) (f : Option LibCall)
    → local_in s.scopes x ≡ l → found x s.names ≡ e → in_library x ≡ f → callee_by at x l e f ≡ Ok c → Names s x c
callee_is s at x c (Some l) e f l_is e_is f_is is = subst (Names s x) (same_ok callee.Object c is) tt
callee_is s at x c None (Some (CEntry.Object n t)) f l_is e_is f_is is = subst (Names s x) (same_ok callee.Object c is) tt
callee_is s at x c None (Some (CEntry.Function k)) f l_is e_is f_is is = subst (Names s x) (same_ok (callee.Function k) c is) (l_is, e_is)
callee_is s at x c None None (Some f) l_is e_is f_is is = subst (Names s x) (same_ok (callee.Library f) c is) (l_is, e_is, f_is)
callee_is s at x c None None None l_is e_is f_is is = absurd cc

callee_from : (s : CScene) (at : At) (x : List ℕ) (c : Callee) → callee_named s at x ≡ Ok c → Names s x c
unfolding callee_named
callee_from s at x c is = callee_is s at x c _ _ _ refl refl refl is

-- what is called is a name
record IsName (s : CScene) (f : ExpressionTree) (c : Callee) : Type 0 where
  at : At
  name : List ℕ
  is : f ≡ ExpressionTree.Name at name
  names : Names s name c

name_of : (s : CScene) (f : ExpressionTree) (c : Callee) → callee_of s f ≡ Ok (Some c) → IsName s f c
name_of s (ExpressionTree.Name at x) c is =
    let h = bound (callee_named s at x) _ (Some c) is in
    let same : h.0 ≡ c = let i : Some h.0 ≡ Some c = same_ok (Some h.0) (Some c) h.2 in cc in
    record { at = at; name = x; is = refl; names = subst (Names s x) same (callee_from s at x h.0 h.1) }
name_of s _ c is = absurd cc

module _ (s u : CScene) (at : At) (f : ExpressionTree) (es : ExpressionTrees) (xs : List CExpr) (read : AreRead xs) (args : AcceptsAll s es xs u) where
  to_written : (ys : List CExpr) → AreRead ys → AreWritten ys
  to_written [] r = tt
  to_written (y ∷ ys) r = (r.0.written, to_written ys r.1)

  by_function : (name_at : At) (x : List ℕ) (k : ℕ) (r : CExpr × CScene) → IsNoLocal s x → found x s.names ≡ Some (CEntry.Function k) → (o : Option CDeclared) → slice_get u.functions k ≡ o
      → function_called u at k xs o ≡ Ok r → Accepts s (ExpressionTree.Call at (ExpressionTree.Name name_at x) es) r.0 r.1
  by_function name_at x k r none is None found is_r = absurd cc
  by_function name_at x k r none is (Some g) found is_r =
      let v = bound (call_rule at (Defined g.number) g.result g.params (exprs xs)) _ r is_r in
      let call = call_from at (Defined g.number) g.result g.params xs v.0 (to_written xs read) v.1 in
      subst (λ q. Accepts s (ExpressionTree.Call at (ExpressionTree.Name name_at x) es) q.0 q.1) (same_ok (v.0, record u { called = slice_set u.called k true }) r v.2)
      (subst (λ w. Accepts s (ExpressionTree.Call at (ExpressionTree.Name name_at x) es) w (record u { called = slice_set u.called k true })) (sym call.is)
      (Accepts.call none is args found call.passed.become call.passed.given))

  by_library : (name_at : At) (x : List ℕ) (g : LibCall) (r : CExpr × CScene) → IsNoLocal s x → found x s.names ≡ None → in_library x ≡ Some g
      → library_called u at g xs (prototype_in_library g) ≡ Ok r → Accepts s (ExpressionTree.Call at (ExpressionTree.Name name_at x) es) r.0 r.1
  by_library name_at x g r no_local no_name is is_r =
      let p = prototype_in_library g in
      let v = bound (call_rule at (Library g) p.result p.params (exprs xs)) _ r is_r in
      let call = call_from at (Library g) p.result p.params xs v.0 (to_written xs read) v.1 in
      subst (λ q. Accepts s (ExpressionTree.Call at (ExpressionTree.Name name_at x) es) q.0 q.1) (same_ok (v.0, u) r v.2)
      (subst (λ w. Accepts s (ExpressionTree.Call at (ExpressionTree.Name name_at x) es) w u) (sym call.is)
      (Accepts.library_call no_local no_name is args call.passed.become call.passed.given))

  by_callee : (c : Callee) (r : CExpr × CScene) → (name_at : At) (x : List ℕ) → Names s x c → called u at c xs ≡ Ok r → Accepts s (ExpressionTree.Call at (ExpressionTree.Name name_at x) es) r.0 r.1
  by_callee (callee.Function k) r name_at x names is = by_function name_at x k r names.0 names.1 _ refl is
  by_callee (callee.Library g) r name_at x names is = by_library name_at x g r names.0 names.1 names.2 is
  by_callee callee.Object r name_at x names is = absurd cc

  pub call_accepts : (c : Callee) (r : CExpr × CScene) → callee_of s f ≡ Ok (Some c) → called u at c xs ≡ Ok r → Accepts s (ExpressionTree.Call at f es) r.0 r.1
  call_accepts c r named is =
      let n = name_of s f c named in
      subst (λ g. Accepts s (ExpressionTree.Call at g es) r.0 r.1) (sym n.is) (by_callee c r n.at n.name n.names is)

-- the other way

pub function_to : (u : CScene) (at : At) (k : ℕ) (f : CDeclared) (xs : List CExpr) (vs : CExprs) → slice_get u.functions k ≡ Some f → AreRead xs → BecomeAll xs vs → AreGiven f.params vs
    → called u at (callee.Function k) xs ≡ Ok (CExpr.expr at f.result (CForm.Call (Defined f.number) vs), record u { called = slice_set u.called k true })
function_to u at k f xs vs found read become given =
    ap (function_called u at k xs) found ∙ onward (call_rule at (Defined f.number) f.result f.params (exprs xs)) _ _ _ (call_to at (Defined f.number) f.result f.params xs vs read become given) refl

pub library_to : (u : CScene) (at : At) (f : LibCall) (xs : List CExpr) (vs : CExprs) → AreRead xs → BecomeAll xs vs → AreGiven (prototype_in_library f).params vs
    → called u at (callee.Library f) xs ≡ Ok (CExpr.expr at (prototype_in_library f).result (CForm.Call (Library f) vs), u)
library_to u at f xs vs read become given = onward _ _ _ _ (call_to at (Library f) (prototype_in_library f).result (prototype_in_library f).params xs vs read become given) refl
