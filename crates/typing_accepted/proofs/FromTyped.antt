-- What typing gives is accepted.
use Rattle.std.proofs.Common.{◌≡◌, ℕ, ◌+◌, false, List, [], ◌∷◌, ◌++◌, length, refl, sym, ap, ◌∙◌, subst}
use Rattle.std.specs.Prelude.{Option, Some, None, Ok, nat_lt, if◌then◌else◌}
use Rattle.std.proofs.lemmas.List.{append-nil}
use Rattle.c_words.specs.declared.place.At.{At}
use Rattle.c_words.specs.declared.operators.BinaryOperator.{BinaryOperator}
use Rattle.syntax_tree.specs.Syntax.{ExpressionTree, ExpressionTrees, TypeNameTree, TypeDeclaratorTree}
use Rattle.typed_tree.specs.Types.{CType}
use Rattle.typed_tree.specs.TypedTree.{CExpr, CForm}
use Rattle.typed_tree.specs.Sizes.{largest}
use Rattle.typed_tree.specs.TypedRules.{IsElement, AreInTurn}
use Rattle.typing_operators.specs.Rule.{Rule}
use Rattle.typing_operators.specs.Operators.{unary_rule, binary_rule, step_before_rule, step_after_rule, conditional_rule, comma_rule, cast_rule, index_rule, member_rule, arrow_rule, measured_rule, measured_type, assign_rule}
use Rattle.typing_expressions.specs.declared.calls.Callee.{Callee}
use Rattle.typing_expressions.specs.Scene.{CScene}
use Rattle.typing_expressions.specs.Parts.{CPart, count_of, formed}
use Rattle.typing_expressions.specs.Expressions.{object, callee_of, called_first, called_if_named, text, joined, based, aside, back, counted_by, pointed, typed, typed_all, type_named, steps_of, sized}
use Rattle.typing_accepted.specs.AcceptanceExpressions.{Accepts, AcceptsAll, NamesType, HasSteps, HasSizes}
use Rattle.typing_accepted.proofs.Steps.{passes, bound, same_ok, not_less}
use Rattle.typing_accepted.proofs.FromBinary.{OfTwo, OfBinary, binary_from}
use Rattle.typing_accepted.proofs.FromUnary.{OfArrow, unary_from, step_before_from, step_after_from, measured_from, measured_type_from, index_from, member_from, arrow_from}
use Rattle.typing_accepted.proofs.FromRest.{OfChoice, cast_from, conditional_from, comma_from, assign_from}
use Rattle.typing_accepted.proofs.MadeTypes.{formed_from}
use Rattle.typing_accepted.proofs.Calls.{object_from, call_accepts}
use Rattle.typing_accepted.proofs.ToTyped.{reads, reads_all, past_one, past_pointers, past_both}

-- an expression is accepted as what is typed
abbrev pub IsAccepted : CScene → ExpressionTree → CExpr × CScene → Type 0
IsAccepted s e r = Accepts s e r.0 r.1

given : (s : CScene) (e : ExpressionTree) (v : CExpr) (u : CScene) (r : CExpr × CScene) → (let o : Rule (CExpr × CScene) = Ok (v, u) in o) ≡ Ok r → Accepts s e v u → IsAccepted s e r
given s e v u r is a = subst (IsAccepted s e) (same_ok (v, u) r is) a

ends : (s : CScene) (e : ExpressionTree) (v w : CExpr) (u : CScene) (r : CExpr × CScene) → (let o : Rule (CExpr × CScene) = Ok (v, u) in o) ≡ Ok r → v ≡ w → Accepts s e w u → IsAccepted s e r
ends s e v w u r is same a = subst (IsAccepted s e) (same_ok (v, u) r is) (subst (λ x. Accepts s e x u) (sym same) a)

text_from : (s : CScene) (at : At) (pieces : List (List ℕ)) (r : CExpr × CScene) → text s at (joined pieces) ≡ Ok r → IsAccepted s (ExpressionTree.Text at pieces) r
unfolding text
text_from s at pieces r is =
    let h = passes (nat_lt largest (length (joined pieces) + 1)) _ _ r is in
    subst (IsAccepted s (ExpressionTree.Text at pieces)) (same_ok _ r h.1) (Accepts.text (not_less _ _ h.0))

-- expressions that are typed behind others
pub record AreAccepted (s : CScene) (es : ExpressionTrees) (vs : List CExpr) (r : List CExpr × CScene) : Type 0 where
  pub these : List CExpr
  pub is : r.0 ≡ vs ++ these
  pub accepts : AcceptsAll s es these r.1

record StepsAre (s : CScene) (d : TypeDeclaratorTree) (ps : List CPart) (r : List CPart × CScene) : Type 0 where
  these : List CPart
  is : r.0 ≡ ps ++ these
  has : HasSteps s d these r.1

record SizesAre (s : CScene) (es : ExpressionTrees) (ps : List CPart) (r : List CPart × CScene) : Type 0 where
  these : List CPart
  is : r.0 ≡ ps ++ these
  has : HasSizes s es these r.1

call_from_typed : (s : CScene) (at : At) (f : ExpressionTree) (es : ExpressionTrees) (c : Option Callee) (u : CScene) (vs : List CExpr × CScene) (r : CExpr × CScene)
    → callee_of s f ≡ Ok c → called_first s c (typed s f) ≡ Ok u → AreAccepted u es [] vs → called_if_named vs.1 at c vs.0 ≡ Ok r → IsAccepted s (ExpressionTree.Call at f es) r
call_from_typed s at f es None u vs r named first args is = absurd cc
call_from_typed s at f es (Some c) u vs r named first args is =
    let before : s ≡ u = same_ok s u first in
    let accepts : AcceptsAll s es args.these vs.1 = subst (λ w. AcceptsAll w es args.these vs.1) (sym before) args.accepts in
    call_accepts s vs.1 at f es args.these (reads_all _ _ _ _ accepts) accepts c r named (subst (λ l. called_if_named vs.1 at (Some c) l ≡ Ok r) args.is is)

-- operators whose operands are accepted

index_accepts : (s m u : CScene) (at : At) (a b : ExpressionTree) (x y v : CExpr) → Accepts s a x m → Accepts m b y u → OfTwo (IsElement u.structs) at CForm.Index x y v → Accepts s (ExpressionTree.Index at a b) v u
index_accepts s m u at a b x y v first second o = subst (λ w. Accepts s (ExpressionTree.Index at a b) w u) (sym o.is) (Accepts.index first second o.left o.right o.keeps)

arrow_accepts : (s u : CScene) (at : At) (a : ExpressionTree) (m : List ℕ) (x v : CExpr) → Accepts s a x u → OfArrow u.structs at x m v → Accepts s (ExpressionTree.Arrow at a m) v u
arrow_accepts s u at a m x v first o = subst (λ w. Accepts s (ExpressionTree.Arrow at a m) w u) (sym o.is) (Accepts.arrow first o.becomes o.keeps o.named)

binary_accepts : (s m u : CScene) (at : At) (op : BinaryOperator) (a b : ExpressionTree) (x y v : CExpr) → Accepts s a x m → Accepts m b y u → OfBinary u.structs at op x y v → Accepts s (ExpressionTree.Binary at a op b) v u
binary_accepts s m u at op a b x y v first second o = subst (λ w. Accepts s (ExpressionTree.Binary at a op b) w u) (sym o.is) (Accepts.binary first second o.left o.right o.keeps)

conditional_accepts : (s l m u : CScene) (at : At) (c a b : ExpressionTree) (x y z v : CExpr) → Accepts s c x l → Accepts l a y m → Accepts m b z u → OfChoice at x y z v → Accepts s (ExpressionTree.Conditional at c a b) v u
conditional_accepts s l m u at c a b x y z v first second third o =
    subst (λ w. Accepts s (ExpressionTree.Conditional at c a b) w u) (sym o.chosen.is)
    (Accepts.conditional first second third o.tested.becomes o.chosen.left o.chosen.right o.tested.condition o.chosen.keeps)

comma_accepts : (s m u : CScene) (at : At) (a b : ExpressionTree) (x y v : CExpr) → Accepts s a x m → Accepts m b y u → OfTwo AreInTurn at CForm.Comma x y v → Accepts s (ExpressionTree.Comma at a b) v u
comma_accepts s m u at a b x y v first second o = subst (λ w. Accepts s (ExpressionTree.Comma at a b) w u) (sym o.is) (Accepts.comma first second o.left o.right o.keeps)

mutual
  pub from_typed : (s : CScene) (e : ExpressionTree) (r : CExpr × CScene) → typed s e ≡ Ok r → IsAccepted s e r
  from_typed s (ExpressionTree.Name at x) r is =
      let v = bound (object s at x) _ r is in
      ends s (ExpressionTree.Name at x) _ _ s r v.2 refl (object_from s at x v.0 v.1)
  from_typed s (ExpressionTree.Number at n u) r is = subst (IsAccepted s (ExpressionTree.Number at n u)) (same_ok (CExpr.expr at (if u then CType.Unsigned else CType.Int) (CForm.Number n), s) r is) Accepts.number
  from_typed s (ExpressionTree.Character at n) r is = subst (IsAccepted s (ExpressionTree.Character at n)) (same_ok (CExpr.expr at CType.Int (CForm.Character n), s) r is) Accepts.character
  from_typed s (ExpressionTree.Text at pieces) r is = text_from s at pieces r is
  from_typed s (ExpressionTree.Null at) r is = subst (IsAccepted s (ExpressionTree.Null at)) (same_ok (CExpr.expr at (CType.Pointer CType.Void) CForm.Null, s) r is) Accepts.null
  from_typed s (ExpressionTree.Eof at) r is = subst (IsAccepted s (ExpressionTree.Eof at)) (same_ok (CExpr.expr at CType.Int CForm.Eof, s) r is) Accepts.eof
  from_typed s (ExpressionTree.Parenthesized at a) r is = Accepts.parenthesized (from_typed s a r is)
  from_typed s (ExpressionTree.Index at a i) r is =
      let x = bound (typed s a) _ r is in
      let y = bound (typed x.0.1 i) _ r x.2 in
      let v = bound (index_rule y.0.1.structs at x.0.0 y.0.0) _ r y.2 in
      let first = from_typed s a x.0 x.1 in
      let second = from_typed x.0.1 i y.0 y.1 in
      let o = index_from y.0.1.structs at x.0.0 y.0.0 v.0 (reads _ _ _ _ first).written (reads _ _ _ _ second).written v.1 in
      given s (ExpressionTree.Index at a i) v.0 y.0.1 r v.2 (index_accepts s x.0.1 y.0.1 at a i x.0.0 y.0.0 v.0 first second o)
  from_typed s (ExpressionTree.Call at f es) r is =
      let c = bound (callee_of s f) _ r is in
      let u = bound (called_first s c.0 (typed s f)) _ r c.2 in
      let vs = bound (typed_all [] u.0 es) _ r u.2 in
      call_from_typed s at f es c.0 u.0 vs.0 r c.1 u.1 (from_typed_all [] u.0 es vs.0 vs.1) vs.2
  from_typed s (ExpressionTree.Member at a m) r is =
      let x = bound (typed s a) _ r is in
      let v = bound (member_rule x.0.1.structs at x.0.0 m) _ r x.2 in
      let first = from_typed s a x.0 x.1 in
      let o = member_from x.0.1.structs at x.0.0 m v.0 v.1 in
      ends s (ExpressionTree.Member at a m) v.0 (CExpr.expr at o.type (CForm.Member x.0.0 o.member)) x.0.1 r v.2 o.is (Accepts.member first o.keeps o.named)
  from_typed s (ExpressionTree.Arrow at a m) r is =
      let x = bound (typed s a) _ r is in
      let v = bound (arrow_rule x.0.1.structs at x.0.0 m) _ r x.2 in
      let first = from_typed s a x.0 x.1 in
      let o = arrow_from x.0.1.structs at x.0.0 m v.0 (reads _ _ _ _ first).written v.1 in
      given s (ExpressionTree.Arrow at a m) v.0 x.0.1 r v.2 (arrow_accepts s x.0.1 at a m x.0.0 v.0 first o)
  from_typed s (ExpressionTree.StepAfter at a op) r is =
      let x = bound (typed s a) _ r is in
      let v = bound (step_after_rule x.0.1.structs at op x.0.0) _ r x.2 in
      let first = from_typed s a x.0 x.1 in
      let o = step_after_from x.0.1.structs at op x.0.0 v.0 v.1 in
      ends s (ExpressionTree.StepAfter at a op) v.0 (CExpr.expr at o.type (CForm.StepAfter op x.0.0)) x.0.1 r v.2 o.is (Accepts.step_after first o.keeps)
  from_typed s (ExpressionTree.StepBefore at op a) r is =
      let x = bound (typed s a) _ r is in
      let v = bound (step_before_rule x.0.1.structs at op x.0.0) _ r x.2 in
      let first = from_typed s a x.0 x.1 in
      let o = step_before_from x.0.1.structs at op x.0.0 v.0 v.1 in
      ends s (ExpressionTree.StepBefore at op a) v.0 (CExpr.expr at o.type (CForm.StepBefore op x.0.0)) x.0.1 r v.2 o.is (Accepts.step_before first o.keeps)
  from_typed s (ExpressionTree.Unary at op a) r is =
      let x = bound (typed s a) _ r is in
      let v = bound (unary_rule x.0.1.structs at op x.0.0) _ r x.2 in
      let first = from_typed s a x.0 x.1 in
      let o = unary_from x.0.1.structs at op x.0.0 v.0 (reads _ _ _ _ first).written v.1 in
      ends s (ExpressionTree.Unary at op a) v.0 (CExpr.expr at o.type (CForm.Unary op o.operand)) x.0.1 r v.2 o.is (Accepts.unary first o.becomes o.keeps)
  from_typed s (ExpressionTree.SizeofType at t) r is =
      let u = bound (type_named s t) _ r is in
      let v = bound (measured_type u.0.1.structs at u.0.0) _ r u.2 in
      let o = measured_type_from u.0.1.structs at u.0.0 v.0 v.1 in
      ends s (ExpressionTree.SizeofType at t) v.0 (CExpr.expr at CType.Unsigned (CForm.SizeofType u.0.0)) u.0.1 r v.2 o.1 (Accepts.sizeof_type (from_type_named s t u.0 u.1) o.0)
  from_typed s (ExpressionTree.SizeofExpression at a) r is =
      let x = bound (typed s a) _ r is in
      let v = bound (measured_rule x.0.1.structs at x.0.0) _ r x.2 in
      let first = from_typed s a x.0 x.1 in
      let o = measured_from x.0.1.structs at x.0.0 v.0 (reads _ _ _ _ first).written v.1 in
      ends s (ExpressionTree.SizeofExpression at a) v.0 (CExpr.expr at o.type (CForm.SizeofExpression x.0.0)) x.0.1 r v.2 o.is (Accepts.sizeof_expression first o.keeps)
  from_typed s (ExpressionTree.Cast at t a) r is =
      let u = bound (type_named s t) _ r is in
      let x = bound (typed u.0.1 a) _ r u.2 in
      let v = bound (cast_rule at u.0.0 x.0.0) _ r x.2 in
      let first = from_typed u.0.1 a x.0 x.1 in
      let o = cast_from at u.0.0 x.0.0 v.0 (reads _ _ _ _ first).written v.1 in
      ends s (ExpressionTree.Cast at t a) v.0 (CExpr.expr at u.0.0 (CForm.Cast o.operand)) x.0.1 r v.2 o.is (Accepts.cast (from_type_named s t u.0 u.1) first o.becomes o.keeps)
  from_typed s (ExpressionTree.Binary at a op b) r is =
      let x = bound (typed s a) _ r is in
      let y = bound (typed x.0.1 b) _ r x.2 in
      let v = bound (binary_rule y.0.1.structs at op x.0.0 y.0.0) _ r y.2 in
      let first = from_typed s a x.0 x.1 in
      let second = from_typed x.0.1 b y.0 y.1 in
      let o = binary_from y.0.1.structs at op x.0.0 y.0.0 v.0 (reads _ _ _ _ first).written (reads _ _ _ _ second).written v.1 in
      given s (ExpressionTree.Binary at a op b) v.0 y.0.1 r v.2 (binary_accepts s x.0.1 y.0.1 at op a b x.0.0 y.0.0 v.0 first second o)
  from_typed s (ExpressionTree.Conditional at c a b) r is =
      let x = bound (typed s c) _ r is in
      let y = bound (typed x.0.1 a) _ r x.2 in
      let z = bound (typed y.0.1 b) _ r y.2 in
      let v = bound (conditional_rule at x.0.0 y.0.0 z.0.0) _ r z.2 in
      let first = from_typed s c x.0 x.1 in
      let second = from_typed x.0.1 a y.0 y.1 in
      let third = from_typed y.0.1 b z.0 z.1 in
      let o = conditional_from at x.0.0 y.0.0 z.0.0 v.0 (reads _ _ _ _ first).written (reads _ _ _ _ second).written (reads _ _ _ _ third).written v.1 in
      given s (ExpressionTree.Conditional at c a b) v.0 z.0.1 r v.2 (conditional_accepts s x.0.1 y.0.1 z.0.1 at c a b x.0.0 y.0.0 z.0.0 v.0 first second third o)
  from_typed s (ExpressionTree.Assign at a op b) r is =
      let x = bound (typed s a) _ r is in
      let y = bound (typed x.0.1 b) _ r x.2 in
      let v = bound (assign_rule y.0.1.structs at op x.0.0 y.0.0) _ r y.2 in
      let first = from_typed s a x.0 x.1 in
      let second = from_typed x.0.1 b y.0 y.1 in
      let o = assign_from y.0.1.structs at op x.0.0 y.0.0 v.0 (reads _ _ _ _ first).written (reads _ _ _ _ second).written v.1 in
      ends s (ExpressionTree.Assign at a op b) v.0 (CExpr.expr at o.type (CForm.Assign op x.0.0 o.operand)) y.0.1 r v.2 o.is (Accepts.assign first second o.becomes o.keeps)
  from_typed s (ExpressionTree.Comma at a b) r is =
      let x = bound (typed s a) _ r is in
      let y = bound (typed x.0.1 b) _ r x.2 in
      let first = from_typed s a x.0 x.1 in
      let second = from_typed x.0.1 b y.0 y.1 in
      let o = comma_from at x.0.0 y.0.0 (reads _ _ _ _ first).written (reads _ _ _ _ second).written in
      given s (ExpressionTree.Comma at a b) (comma_rule at x.0.0 y.0.0) y.0.1 r y.2 (comma_accepts s x.0.1 y.0.1 at a b x.0.0 y.0.0 (comma_rule at x.0.0 y.0.0) first second o)

  pub from_typed_all : (vs : List CExpr) (s : CScene) (es : ExpressionTrees) (r : List CExpr × CScene) → typed_all vs s es ≡ Ok r → AreAccepted s es vs r
  from_typed_all vs s ExpressionTrees.none r is = subst (AreAccepted s ExpressionTrees.none vs) (same_ok (vs, s) r is) (record { these = []; is = sym (append-nil vs); accepts = AcceptsAll.nothing })
  from_typed_all vs s (ExpressionTrees.more e es) r is =
      let x = bound (typed s e) _ r is in
      let first = from_typed s e x.0 x.1 in
      let rest = from_typed_all (vs ++ x.0.0 ∷ []) x.0.1 es r x.2 in
      record { these = x.0.0 ∷ rest.these; is = rest.is ∙ past_one vs x.0.0 rest.these; accepts = AcceptsAll.next first rest.accepts }

  pub from_type_named : (s : CScene) (n : TypeNameTree) (r : CType × CScene) → type_named s n ≡ Ok r → NamesType s n r.0 r.1
  from_type_named s (TypeNameTree.type_name at specifier declarator) r is =
      let ps = bound (steps_of [] (based s specifier).1 declarator) _ r is in
      let t = bound (formed ps.0.1.structs at.line false (based s specifier).0 ps.0.0) _ r ps.2 in
      let steps = from_steps [] (based s specifier).1 declarator ps.0 ps.1 in
      let makes = formed_from ps.0.1.structs at.line false (based s specifier).0 t.0 steps.these (subst (λ l. formed ps.0.1.structs at.line false (based s specifier).0 l ≡ Ok t.0) steps.is t.1) in
      subst (λ q. NamesType s (TypeNameTree.type_name at specifier declarator) q.0 q.1) (same_ok (t.0, ps.0.1) r t.2) (NamesType.type_name steps.has makes.made)

  from_steps : (ps : List CPart) (s : CScene) (d : TypeDeclaratorTree) (r : List CPart × CScene) → steps_of ps s d ≡ Ok r → StepsAre s d ps r
  from_steps ps s (TypeDeclaratorTree.Direct at n es) r is =
      let x = bound (sized ps s es) _ r is in
      let sizes = from_sized ps s es x.0 x.1 in
      subst (StepsAre s (TypeDeclaratorTree.Direct at n es) ps) (same_ok (pointed x.0.0 n, x.0.1) r x.2)
      (record { these = pointed sizes.these n; is = ap (λ l. pointed l n) sizes.is ∙ past_pointers ps sizes.these n; has = HasSteps.direct sizes.has })
  from_steps ps s (TypeDeclaratorTree.Nested at n inner es) r is =
      let x = bound (steps_of ps s inner) _ r is in
      let y = bound (sized x.0.0 x.0.1 es) _ r x.2 in
      let steps = from_steps ps s inner x.0 x.1 in
      let sizes = from_sized x.0.0 x.0.1 es y.0 y.1 in
      let all : y.0.0 ≡ (ps ++ steps.these) ++ sizes.these = sizes.is ∙ ap (λ l. l ++ sizes.these) steps.is in
      subst (StepsAre s (TypeDeclaratorTree.Nested at n inner es) ps) (same_ok (pointed y.0.0 n, y.0.1) r y.2)
      (record { these = pointed (steps.these ++ sizes.these) n; is = ap (λ l. pointed l n) all ∙ past_both ps steps.these sizes.these n; has = HasSteps.nested steps.has sizes.has })

  from_sized : (ps : List CPart) (s : CScene) (es : ExpressionTrees) (r : List CPart × CScene) → sized ps s es ≡ Ok r → SizesAre s es ps r
  from_sized ps s ExpressionTrees.none r is = subst (SizesAre s ExpressionTrees.none ps) (same_ok (ps, s) r is) (record { these = []; is = sym (append-nil ps); has = HasSizes.no_size })
  from_sized ps s (ExpressionTrees.more e es) r is =
      let x = bound (counted_by s (typed (aside s) e)) _ r is in
      let y = bound (typed (aside s) e) _ x.0 x.1 in
      let one : (count_of y.0.1.structs y.0.0, back s y.0.1) ≡ x.0 = same_ok _ x.0 y.2 in
      let first = from_typed (aside s) e y.0 y.1 in
      let next = subst (λ q. sized (ps ++ CPart.Array q.0 ∷ []) q.1 es ≡ Ok r) (sym one) x.2 in
      let rest = from_sized (ps ++ CPart.Array (count_of y.0.1.structs y.0.0) ∷ []) (back s y.0.1) es r next in
      record { these = CPart.Array (count_of y.0.1.structs y.0.0) ∷ rest.these; is = rest.is ∙ past_one ps _ rest.these; has = HasSizes.size first rest.has }
