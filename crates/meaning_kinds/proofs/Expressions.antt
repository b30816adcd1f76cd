-- Expressions of a typed function give values of their types' kinds.
use Rattle.std.proofs.Common.{◌≡◌, ℕ, ◌+◌, true, false, List, [], ◌∷◌, refl, sym, ap, ◌∙◌, subst}
use Rattle.std.specs.Prelude.{◌||◌, IsTrue}
use Rattle.std.proofs.lemmas.Bool.{true≢false}
use Rattle.bb_words.specs.Answers.{and_then}
use Rattle.c_words.specs.declared.operators.UnaryOperator.TheVariants as unary
use Rattle.c_words.specs.declared.operators.AssignOperator.{AssignOperator}
use Rattle.c_words.specs.declared.operators.AssignOperator.TheVariants as assign
use Rattle.typed_tree.specs.declared.typed_expr.Conversion.TheVariants as conversion
use Rattle.typed_tree.specs.declared.typed_expr.Called.{Called}
use Rattle.typed_tree.specs.declared.typed_expr.Called.TheVariants.{Defined, Library}
use Rattle.typed_tree.specs.declared.typed.GlobalObject.TheVariants as global
use Rattle.typed_tree.specs.Types.{CType, is_struct, is_array, IsNumber, IsPointer}
use Rattle.typed_tree.specs.TypedTree.{CExpr, CForm, CExprs, CStruct, CLocal, CFunction, CProgram, type_of}
use Rattle.typed_tree.specs.TypedOperands.{is_place, has_object, is_null}
use Rattle.typed_tree.specs.TypedRules.{prototype_of, prototype_in_library, CanStep, IsAssignable, IsAssignment, AreAlternatives, MayCast, IsCall, AreGiven}
use Rattle.typed_tree.specs.TypedRules.AreAlternatives.{numbers as two_numbers, pointers as two_pointers, voids as two_voids}
use Rattle.typed_tree.specs.TypedRules.MayCast.{to_void, numbers as cast_numbers, pointers as cast_pointers, null as cast_nulls}
use Rattle.typed_tree.specs.TypedRules.IsSet.{scalar as set_scalar, struct as set_struct}
use Rattle.typed_tree.specs.TypedRules.IsChanged.{numbers as changed_numbers, pointer_and_number as changed_pointer}
use Rattle.typed_tree.specs.TypedBody.{Environment, IsLiteral, IsExpr, AreExprs}
use Rattle.typed_tree.specs.TypedBody.IsLiteral.{int as literal_int, unsigned as literal_unsigned}
use Rattle.typed_tree.specs.Typed.{environment_of, is_local}
use Rattle.source_meaning.specs.declared.values.Value.{Value}
use Rattle.source_meaning.specs.declared.values.Place.TheVariants.{Variable, Memory}
use Rattle.source_meaning.specs.declared.values.Held.{Held}
use Rattle.source_meaning.specs.declared.values.Held.TheVariants.{Of, At}
use Rattle.source_meaning.specs.declared.values.Want.{Want}
use Rattle.source_meaning.specs.declared.values.Want.TheVariants.{ItsValue, ItsPlace}
use Rattle.source_meaning.specs.Sites.{sites_of}
use Rattle.source_meaning.specs.States.{State, tick, giving, using_value, local_place}
use Rattle.source_meaning.specs.Operators.{cast}
use Rattle.source_meaning.specs.Meaning.{Calls, called, global_place, run, run_all}
use Rattle.meaning_kinds.specs.Kinds.{HasKind, HaveKinds, Sound, PlaceFits, HeldFits, MayWant, KeepsKinds, CallsKeepKinds, Never}
use Rattle.meaning_kinds.proofs.ValueKinds.{as_number, as_pointer, as_void, keeps_value, keeps_then, keeps_weaker, keeps_if}
use Rattle.meaning_kinds.proofs.Places.{same_thing, use_value, use_number, use_pointer, use_place, use_address, finish_kind, slot_named, local_fits, only_value}
use Rattle.meaning_kinds.proofs.Operators.{gives_by, number_by, pointer_by, kind_by, is_promoted_number, cast_to_number, cast_to_pointer, cast_to_void, cast_null, IsNullValue, library_kind}
use Rattle.meaning_kinds.proofs.Finding.{found_image, left, right, mentions, mentions_any, one, first, second, place_has_object, self_equal}
use Rattle.meaning_kinds.proofs.Settings.{Setting, no_array, no_struct, struct_has_object, array_has_object}
use Rattle.meaning_kinds.proofs.Changes.{value_fits, gives_held, giving_kind, truth_kind, reach_kind, member_kind, stepped_kind, run_binary_kind, run_assign_kind}

literal_number : (t : CType) → IsLiteral t → IsNumber t
literal_number t (literal_int e) = number_by e refl
literal_number t (literal_unsigned e) = number_by e refl

ticked : {ls : List CLocal} (c : State) → Sound ls c → Sound ls (tick c)
ticked c s = record { slots = s.slots }

-- the value of a null constant
abbrev IsNullHeld : Held → Type 0
IsNullHeld (Of v) = IsNullValue v
IsNullHeld (At q) = ⊥

alternative_fits : (ls : List CLocal) (e d : CExpr) (x : Held) → ((v : Value) → HasKind (type_of e) v → HasKind (type_of d) v) → HeldFits ls ItsValue e x → HeldFits ls ItsValue d x
alternative_fits ls e d (Of v) k h = value_fits ls d v (k v h.is)
alternative_fits ls e d (At q) k h = absurd h.is

left_alternative : (a b : CExpr) (t : CType) → AreAlternatives a b t → (v : Value) → HasKind (type_of a) v → HasKind t v
left_alternative a b t (two_numbers is) v h = kind_by v (sym is.left) h
left_alternative a b t (two_pointers is) v h = kind_by v (sym is.left) h
left_alternative a b t (two_voids va vb vt) v h = as_void t v vt

right_alternative : (a b : CExpr) (t : CType) → AreAlternatives a b t → (v : Value) → HasKind (type_of b) v → HasKind t v
right_alternative a b t (two_numbers is) v h = kind_by v (sym is.right) h
right_alternative a b t (two_pointers is) v h = kind_by v (sym is.right) h
right_alternative a b t (two_voids va vb vt) v h = as_void t v vt

-- the right operand of a comma gives what the comma gives
comma_fits : (ls : List CLocal) (want : Want) (a b d : CExpr) (x : Held) → type_of d ≡ type_of b → is_place d ≡ false → HeldFits ls want b x → HeldFits ls want d x
comma_fits ls ItsValue a b d (Of v) e never h = record { is = kind_by v e h.is }
comma_fits ls ItsValue a b d (At q) e never h = absurd h.is
comma_fits ls ItsPlace a b d (Of v) e never h = absurd h.is
comma_fits ls ItsPlace a b d (At (Memory q)) e never h = record { is = (tt, tt) }
comma_fits ls ItsPlace a b d (At (Variable k)) e never h =
    record { is = ((h.is.0.0, h.is.0.1, h.is.0.2, h.is.0.3 ∙ sym e), λ place. absurd (true≢false (sym place ∙ never))) }

comma_wants : (want : Want) (b d : CExpr) → has_object d ≡ has_object b → MayWant want d → MayWant want b
comma_wants ItsValue b d e h = tt
comma_wants ItsPlace b d e h = sym e ∙ h

assignable_of : (structs : List CStruct) (o : AssignOperator) (a b : CExpr) (t : CType) → IsAssignment structs o a b t → IsAssignable a
assignable_of structs assign.Assign a b t (set_scalar x y z) = x
assignable_of structs assign.Assign a b t (set_struct x y z) = x
assignable_of structs assign.Multiply a b t h = h.assignable
assignable_of structs assign.Divide a b t h = h.assignable
assignable_of structs assign.Remainder a b t h = h.assignable
assignable_of structs assign.Add a b t (changed_numbers h) = h.assignable
assignable_of structs assign.Add a b t (changed_pointer x y) = x
assignable_of structs assign.Subtract a b t (changed_numbers h) = h.assignable
assignable_of structs assign.Subtract a b t (changed_pointer x y) = x
assignable_of structs assign.ShiftLeft a b t h = h.assignable
assignable_of structs assign.ShiftRight a b t h = h.assignable
assignable_of structs assign.BitAnd a b t h = h.assignable
assignable_of structs assign.BitXor a b t h = h.assignable
assignable_of structs assign.BitOr a b t h = h.assignable

module _ (g : ℕ) (p : CProgram) (f : CFunction) (given : Setting p f) (call : Calls) (all : CallsKeepKinds p call) where
  abbrev ls : List CLocal
  ls = f.locals

  abbrev names : Environment
  names = environment_of p f

  -- a null constant as it is written
  null_kind : (e : CExpr) → IsTrue (is_null e) → (n : ℕ) (c : State) → Sound ls c → KeepsKinds ls IsNullHeld (run g p call e n ItsValue c)
  null_kind (CExpr.expr at t (CForm.Number x)) h n c s = keeps_value _ _ h (ticked c s)
  null_kind (CExpr.expr at t CForm.Null) h n c s = keeps_value _ _ tt (ticked c s)
  null_kind (CExpr.expr at t form) h n c s = absurd (true≢false (sym h))

  cast_null_kind : (e : CExpr) (x : Held) (c : State) → IsPointer (type_of e) → IsNullHeld x → Sound ls c → KeepsKinds ls (HeldFits ls ItsValue e) (using_value x (λ v. giving (cast (type_of e) v)) c)
  cast_null_kind e (Of v) c is h s = giving_kind ls e _ c s (λ w. cast_null (type_of e) v w is h)
  cast_null_kind e (At q) c is h s = absurd h

  cast_kind : (d e : CExpr) (n : ℕ) (c : State) → KeepsKinds ls (HeldFits ls ItsValue e) (run g p call e n ItsValue (tick c)) → Sound ls c → MayCast e (type_of d) → KeepsKinds ls (HeldFits ls ItsValue d) (and_then (run g p call e n ItsValue (tick c)) (λ x. using_value x (λ v. giving (cast (type_of d) v))))
  cast_kind d e n c k s (to_void void) =
      keeps_then k (λ x b h r. use_value ls e x _ b h (λ v hv. giving_kind ls d _ b r (λ w. cast_to_void (type_of d) v w void)))
  cast_kind d e n c k s (cast_numbers from to) =
      keeps_then k (λ x b h r. use_value ls e x _ b h (λ v hv. giving_kind ls d _ b r (λ w. cast_to_number (type_of d) v w to (hv.number from))))
  cast_kind d e n c k s (cast_pointers from to) =
      keeps_then k (λ x b h r. use_value ls e x _ b h (λ v hv. giving_kind ls d _ b r (λ w. cast_to_pointer (type_of d) v w to (hv.pointer from))))
  cast_kind d e n c k s (cast_nulls null to) = keeps_then (null_kind e null n (tick c) (ticked c s)) (λ x b h r. cast_null_kind d x b to h r)

  -- a call, once its arguments are evaluated
  called_kind : (e : CExpr) (site line : ℕ) (which : Called) (es : CExprs) (is : IsCall names.functions which es (type_of e)) (vs : List Value) (c : State) → HaveKinds is.prototype.params vs → Sound ls c → KeepsKinds ls (HeldFits ls ItsValue e) (called g p call site line which vs c)
  called_kind e site line (Defined i) es is vs c of_kind s =
      let image = found_image prototype_of p.functions i is.prototype is.found in
      keeps_then (all i image.0 image.1 vs (subst (λ q. HaveKinds q.params vs) (sym image.2) of_kind) ls c s) (λ v d h r.
      gives_held ls e v d (kind_by v (is.result ∙ ap (λ q. q.result) (sym image.2)) h) r)
  called_kind e site line (Library which) es is vs c of_kind s =
      let same : prototype_in_library which ≡ is.prototype = same_thing is.found in
      giving_kind ls e _ c s (λ w. gives_by (is.result ∙ ap (λ q. q.result) (sym same)) (library_kind g which site (site + 1) line vs w (subst (λ q. HaveKinds q.params vs) (sym same) of_kind)))

  mutual
    pub run_kind : (e : CExpr) → IsExpr names e → Never ls (mentions e) → (n : ℕ) (want : Want) → MayWant want e → (c : State) → Sound ls c → KeepsKinds ls (HeldFits ls want e) (run g p call e n want c)
    run_kind (CExpr.expr at t (CForm.Local k)) ie never n want may c s =
        let image = found_image (λ l. l.ty) f.locals k t ie.1 in
        finish_kind ls (CExpr.expr at t (CForm.Local k)) want (local_place k c) (tick c)
        (subst (λ u. PlaceFits ls u (local_place k c)) image.2 (local_fits ls k image.0 c image.1 s))
        (slot_named k image.0 (c.locals k) (CExpr.expr at t (CForm.Local k)) (self_equal k) (s.slots k image.0 image.1)) (ticked c s)
    run_kind (CExpr.expr at t (CForm.Global k)) ie never n want may c s =
        finish_kind ls (CExpr.expr at t (CForm.Global k)) want (Memory (global_place g p (global.Named k))) (tick c) tt tt (ticked c s)
    run_kind (CExpr.expr at t (CForm.Text k)) ie never n want may c s =
        finish_kind ls (CExpr.expr at t (CForm.Text k)) want (Memory (global_place g p (global.Text k))) (tick c) tt tt (ticked c s)
    run_kind (CExpr.expr at t (CForm.Number x)) ie never n want may c s =
        only_value want may refl (gives_held ls (CExpr.expr at t (CForm.Number x)) _ _ (as_number t _ (literal_number t ie.1.0) tt) (ticked c s))
    run_kind (CExpr.expr at t (CForm.Character x)) ie never n want may c s =
        only_value want may refl (gives_held ls (CExpr.expr at t (CForm.Character x)) _ _ (as_number t _ (number_by ie.1.0 refl) tt) (ticked c s))
    run_kind (CExpr.expr at t CForm.Null) ie never n want may c s =
        only_value want may refl (gives_held ls (CExpr.expr at t CForm.Null) _ _ (as_pointer t _ (pointer_by ie.1 refl) tt) (ticked c s))
    run_kind (CExpr.expr at t CForm.Eof) ie never n want may c s =
        only_value want may refl (gives_held ls (CExpr.expr at t CForm.Eof) _ _ (as_number t _ (number_by ie.1 refl) tt) (ticked c s))
    run_kind (CExpr.expr at t (CForm.SizeofExpression e)) ie never n want may c s =
        only_value want may refl (gives_held ls (CExpr.expr at t (CForm.SizeofExpression e)) _ _ (as_number t _ (number_by ie.1.1.result refl) tt) (ticked c s))
    run_kind (CExpr.expr at t (CForm.SizeofType u)) ie never n want may c s =
        only_value want may refl (gives_held ls (CExpr.expr at t (CForm.SizeofType u)) _ _ (as_number t _ (number_by ie.1.2 refl) tt) (ticked c s))
    run_kind (CExpr.expr at t (CForm.Convert conversion.ArrayToPointer e)) ie never n want may c s =
        let is : is_array (type_of e) ≡ true = ap is_array ie.1.1.3 in
        only_value want may refl (keeps_then (run_kind e ie.1.0 (one e never) n ItsPlace (array_has_object p f given e ie.1.0 is) c s) (λ x d h r.
        use_address ls e x _ d (λ k l found kept type named. no_array p f given (type_of e) is k l found kept type) h (λ q.
        gives_held ls (CExpr.expr at t (CForm.Convert conversion.ArrayToPointer e)) _ _ (as_pointer t _ (pointer_by ie.1.1.4 refl) tt) r)))
    run_kind (CExpr.expr at t (CForm.Convert conversion.NumberToNumber e)) ie never n want may c s =
        only_value want may refl (keeps_then (run_kind e ie.1.0 (one e never) n ItsValue tt c s) (λ x d h r.
        use_number ls e x _ d ie.1.1.1 h (λ m. gives_held ls (CExpr.expr at t (CForm.Convert conversion.NumberToNumber e)) _ _ (as_number t _ ie.1.1.2 tt) r)))
    run_kind (CExpr.expr at t (CForm.Convert conversion.NullToPointer e)) ie never n want may c s =
        only_value want may refl (keeps_then (run_kind e ie.1.0 (one e never) n ItsValue tt c s) (λ x d h r.
        use_value ls e x _ d h (λ v hv. gives_held ls (CExpr.expr at t (CForm.Convert conversion.NullToPointer e)) _ _ (as_pointer t _ ie.1.1.1 tt) r)))
    run_kind (CExpr.expr at t (CForm.Convert conversion.PointerToPointer e)) ie never n want may c s =
        only_value want may refl (keeps_then (run_kind e ie.1.0 (one e never) n ItsValue tt c s) (λ x d h r.
        use_pointer ls e x _ d ie.1.1.2 h (λ q. gives_held ls (CExpr.expr at t (CForm.Convert conversion.PointerToPointer e)) _ _ (as_pointer t _ ie.1.1.3 tt) r)))
    run_kind (CExpr.expr at t (CForm.Cast e)) ie never n want may c s =
        only_value want may refl (cast_kind (CExpr.expr at t (CForm.Cast e)) e n c (run_kind e ie.1.0 (one e never) n ItsValue tt (tick c) (ticked c s)) s ie.1.1.allowed)
    run_kind (CExpr.expr at t (CForm.Index a b)) ie never n want may c s =
        keeps_then (run_kind a ie.1.0 (first a b never) n ItsValue tt (tick c) (ticked c s)) (λ x d hx r.
        keeps_then (run_kind b ie.1.1 (second a b never) (n + sites_of p.structs a) ItsValue tt d r) (λ y d1 hy r1.
        use_pointer ls a x _ d1 (pointer_by ie.1.2.element.to refl) hx (λ q. use_number ls b y _ d1 (is_promoted_number b ie.1.2.distance) hy (λ i.
        reach_kind ls g _ at.line (CExpr.expr at t (CForm.Index a b)) want _ q d1 r1))))
    run_kind (CExpr.expr at t (CForm.Call which es)) ie never n want may c s =
        only_value want may refl (keeps_then (all_kind es ie.1.1.prototype.params ie.1.0 ie.1.1.given never n (tick c) (ticked c s)) (λ vs d h r.
        called_kind (CExpr.expr at t (CForm.Call which es)) _ at.line which es ie.1.1 vs d h r))
    run_kind (CExpr.expr at t (CForm.Member e m)) ie never n want may c s =
        let is : is_struct (type_of e) ≡ true = ap is_struct ie.1.1.of in
        keeps_then (run_kind e ie.1.0 (one e never) n ItsPlace (struct_has_object p f given e ie.1.0 is) (tick c) (ticked c s)) (λ x d h r.
        use_address ls e x _ d (λ k l found kept type named. no_struct p f given (type_of e) is k l found kept type) h (λ q.
        member_kind ls g _ at.line _ (CExpr.expr at t (CForm.Member e m)) want q d r))
    run_kind (CExpr.expr at t (CForm.Arrow e m)) ie never n want may c s =
        keeps_then (run_kind e ie.1.0 (one e never) n ItsValue tt (tick c) (ticked c s)) (λ x d h r.
        use_pointer ls e x _ d (pointer_by ie.1.1.to refl) h (λ q. member_kind ls g _ at.line _ (CExpr.expr at t (CForm.Arrow e m)) want q d r))
    run_kind (CExpr.expr at t (CForm.StepBefore o e)) ie never n want may c s =
        only_value want may refl (keeps_then (run_kind e ie.1.0 (one e never) n ItsPlace (place_has_object e ie.1.1.assignable.place) (tick c) (ticked c s)) (λ x d h r.
        use_place ls e x _ d h (λ q fits. stepped_kind ls p.structs g _ at.line true o (CExpr.expr at t (CForm.StepBefore o e)) q d
        (subst (λ u. PlaceFits ls u q) (sym ie.1.1.result) fits) (subst (CanStep p.structs) (sym ie.1.1.result) ie.1.1.steps) r)))
    run_kind (CExpr.expr at t (CForm.StepAfter o e)) ie never n want may c s =
        only_value want may refl (keeps_then (run_kind e ie.1.0 (one e never) n ItsPlace (place_has_object e ie.1.1.assignable.place) (tick c) (ticked c s)) (λ x d h r.
        use_place ls e x _ d h (λ q fits. stepped_kind ls p.structs g _ at.line false o (CExpr.expr at t (CForm.StepAfter o e)) q d
        (subst (λ u. PlaceFits ls u q) (sym ie.1.1.result) fits) (subst (CanStep p.structs) (sym ie.1.1.result) ie.1.1.steps) r)))
    run_kind (CExpr.expr at t (CForm.Unary unary.Address e)) ie never n want may c s =
        only_value want may refl (keeps_then (run_kind e ie.1.0 (one e (right (λ k. is_local k e) (λ k. mentions e k || false) never)) n ItsPlace (place_has_object e ie.1.1.place) (tick c) (ticked c s)) (λ x d h r.
        use_address ls e x _ d (λ k l found kept type named.
        true≢false (sym (named ie.1.1.place) ∙ (left (λ k. is_local k e) (λ k. mentions e k || false) never).none k l found kept)) h (λ q.
        gives_held ls (CExpr.expr at t (CForm.Unary unary.Address e)) _ _ (as_pointer t _ (pointer_by ie.1.1.result refl) tt) r)))
    run_kind (CExpr.expr at t (CForm.Unary unary.Dereference e)) ie never n want may c s =
        keeps_then (run_kind e ie.1.0 (one e never) n ItsValue tt (tick c) (ticked c s)) (λ x d h r.
        use_pointer ls e x _ d (pointer_by ie.1.1.to refl) h (λ q. finish_kind ls (CExpr.expr at t (CForm.Unary unary.Dereference e)) want (Memory q) d tt tt r))
    run_kind (CExpr.expr at t (CForm.Unary unary.Plus e)) ie never n want may c s =
        only_value want may refl (keeps_then (run_kind e ie.1.0 (one e never) n ItsValue tt (tick c) (ticked c s)) (λ x d h r.
        use_number ls e x _ d (is_promoted_number e ie.1.1.operand) h (λ m.
        gives_held ls (CExpr.expr at t (CForm.Unary unary.Plus e)) _ _ (as_number t _ (number_by ie.1.1.result (is_promoted_number e ie.1.1.operand)) tt) r)))
    run_kind (CExpr.expr at t (CForm.Unary unary.Minus e)) ie never n want may c s =
        only_value want may refl (keeps_then (run_kind e ie.1.0 (one e never) n ItsValue tt (tick c) (ticked c s)) (λ x d h r.
        use_number ls e x _ d (is_promoted_number e ie.1.1.operand) h (λ m.
        gives_held ls (CExpr.expr at t (CForm.Unary unary.Minus e)) _ _ (as_number t _ (number_by ie.1.1.result (is_promoted_number e ie.1.1.operand)) tt) r)))
    run_kind (CExpr.expr at t (CForm.Unary unary.Complement e)) ie never n want may c s =
        only_value want may refl (keeps_then (run_kind e ie.1.0 (one e never) n ItsValue tt (tick c) (ticked c s)) (λ x d h r.
        use_number ls e x _ d (is_promoted_number e ie.1.1.operand) h (λ m.
        gives_held ls (CExpr.expr at t (CForm.Unary unary.Complement e)) _ _ (as_number t _ (number_by ie.1.1.result (is_promoted_number e ie.1.1.operand)) tt) r)))
    run_kind (CExpr.expr at t (CForm.Unary unary.Not e)) ie never n want may c s =
        only_value want may refl (keeps_then (run_kind e ie.1.0 (one e never) n ItsValue tt (tick c) (ticked c s)) (λ x d h r.
        use_value ls e x _ d h (λ v hv. truth_kind ls v d r (λ b d1 r1.
        gives_held ls (CExpr.expr at t (CForm.Unary unary.Not e)) _ _ (as_number t _ (number_by ie.1.1.1 refl) tt) r1))))
    run_kind (CExpr.expr at t (CForm.Binary o a b)) ie never n want may c s =
        only_value want may refl (run_binary_kind ls p.structs g _ at.line (CExpr.expr at t (CForm.Binary o a b)) a b _ _
        (λ d r. run_kind a ie.1.0 (first a b never) n ItsValue tt d r) (λ d r. run_kind b ie.1.1 (second a b never) (n + sites_of p.structs a) ItsValue tt d r) o ie.1.2 (tick c) (ticked c s))
    run_kind (CExpr.expr at t (CForm.Conditional q a b)) ie never n ItsPlace may c s = absurd (true≢false (sym may))
    run_kind (CExpr.expr at t (CForm.Conditional q a b)) ie never n ItsValue may c s =
        let rest = right (mentions q) (λ k. mentions a k || (mentions b k || false)) never in
        keeps_then (run_kind q ie.1.0 (left (mentions q) (λ k. mentions a k || (mentions b k || false)) never) n ItsValue tt (tick c) (ticked c s)) (λ x d h r.
        use_value ls q x _ d h (λ v hv. truth_kind ls v d r (λ z d1 r1. keeps_if z _ _ d1
        (λ holds. keeps_weaker (λ y hy. alternative_fits ls a (CExpr.expr at t (CForm.Conditional q a b)) y (left_alternative a b t ie.1.4) hy)
        (run_kind a ie.1.1 (first a b rest) (n + sites_of p.structs q) ItsValue tt d1 r1))
        (λ fails. keeps_weaker (λ y hy. alternative_fits ls b (CExpr.expr at t (CForm.Conditional q a b)) y (right_alternative a b t ie.1.4) hy)
        (run_kind b ie.1.2 (second a b rest) (n + sites_of p.structs q + sites_of p.structs a) ItsValue tt d1 r1)))))
    run_kind (CExpr.expr at t (CForm.Assign o a b)) ie never n want may c s =
        only_value want may refl (keeps_then (run_kind a ie.1.0 (first a b never) n ItsPlace (place_has_object a (assignable_of p.structs o a b t ie.1.2).place) (tick c) (ticked c s)) (λ x d h r.
        run_assign_kind ls p.structs g _ at.line (CExpr.expr at t (CForm.Assign o a b)) a b _ (λ w wants d1 r1. run_kind b ie.1.1 (second a b never) (n + sites_of p.structs a) w wants d1 r1)
        (no_struct p f given) o ie.1.2 x d h r))
    run_kind (CExpr.expr at t (CForm.Comma a b)) ie never n want may c s =
        keeps_then (run_kind a ie.1.0 (first a b never) n ItsValue tt (tick c) (ticked c s)) (λ x d h r.
        keeps_weaker (λ y hy. comma_fits ls want a b (CExpr.expr at t (CForm.Comma a b)) y ie.1.2.result refl hy)
        (run_kind b ie.1.1 (second a b never) (n + sites_of p.structs a) want (comma_wants want b (CExpr.expr at t (CForm.Comma a b)) refl may) d r))

    pub all_kind : (es : CExprs) (ts : List CType) → AreExprs names es → AreGiven ts es → Never ls (mentions_any es) → (n : ℕ) (c : State) → Sound ls c → KeepsKinds ls (HaveKinds ts) (run_all g p call es n c)
    all_kind CExprs.none [] ie is never n c s = keeps_value _ _ tt s
    all_kind CExprs.none (t ∷ ts) ie is never n c s = absurd is
    all_kind (CExprs.more e es) [] ie is never n c s = absurd is
    all_kind (CExprs.more e es) (t ∷ ts) ie is never n c s =
        keeps_then (run_kind e ie.0 (left (mentions e) (mentions_any es) never) n ItsValue tt c s) (λ x d h r. use_value ls e x _ d h (λ v hv.
        keeps_then (all_kind es ts ie.1 is.1 (right (mentions e) (mentions_any es) never) (n + sites_of p.structs e) d r) (λ vs d1 hvs r1. keeps_value _ _ (kind_by v (sym is.0.0) hv, hvs) r1)))
