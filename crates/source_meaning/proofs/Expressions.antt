-- Expressions and initializers in longer runs.
use Rattle.std.proofs.Common.{ℕ, suc, ◌+◌, Bool, true, false, List, [], ◌∷◌, Option, Some, None, refl, length}
use Rattle.std.specs.Prelude.{◌==◌, ℤ, pos}
use Rattle.bb_words.specs.Answers.{and_then}
use Rattle.bb_words.specs.declared.steps.Width.{Width}
use Rattle.bb_words.specs.declared.steps.Width.TheVariants as width
use Rattle.c_words.specs.declared.operators.UnaryOperator.{UnaryOperator}
use Rattle.c_words.specs.declared.operators.UnaryOperator.TheVariants as unary
use Rattle.c_words.specs.declared.operators.StepOperator.{StepOperator}
use Rattle.c_words.specs.declared.operators.BinaryOperator.{BinaryOperator}
use Rattle.c_words.specs.declared.operators.BinaryOperator.TheVariants as op
use Rattle.c_words.specs.declared.operators.AssignOperator.{AssignOperator}
use Rattle.c_words.specs.declared.operators.AssignOperator.TheVariants as assign
use Rattle.typed_tree.specs.declared.typed_expr.Conversion.{Conversion}
use Rattle.typed_tree.specs.declared.typed_expr.Conversion.TheVariants as conversion
use Rattle.typed_tree.specs.declared.typed_expr.Called.{Called}
use Rattle.typed_tree.specs.declared.typed_expr.Called.TheVariants.{Defined, Library}
use Rattle.typed_tree.specs.Types.{CType, is_struct, is_unsigned}
use Rattle.typed_tree.specs.Sizes.{size_of}
use Rattle.typed_tree.specs.TypedTree.{CExpr, CForm, CExprs, CInitial, CInitials, CProgram, CStruct, type_of}
use Rattle.source_meaning.specs.declared.values.Pointer.{Pointer}
use Rattle.source_meaning.specs.declared.values.Value.{Value}
use Rattle.source_meaning.specs.declared.values.Value.TheVariants.{Num}
use Rattle.source_meaning.specs.declared.values.Slot.{Slot}
use Rattle.source_meaning.specs.declared.values.Slot.TheVariants.{Kept, Lies}
use Rattle.source_meaning.specs.declared.values.Place.{Place}
use Rattle.source_meaning.specs.declared.values.Place.TheVariants.{Memory}
use Rattle.source_meaning.specs.declared.values.Held.{Held}
use Rattle.source_meaning.specs.declared.values.Held.TheVariants.{At as InPlace}
use Rattle.source_meaning.specs.declared.values.Want.{Want}
use Rattle.source_meaning.specs.declared.values.Want.TheVariants.{ItsValue, ItsPlace}
use Rattle.source_meaning.specs.declared.values.Signal.TheVariants.{Falls}
use Rattle.source_meaning.specs.Comparisons.{truth}
use Rattle.source_meaning.specs.Sites.{sites_of, sites_of_initial}
use Rattle.source_meaning.specs.States.{State, Runs, tick, count, doing, width_of, local_place}
use Rattle.source_meaning.specs.Operators.{reach, reach_member, convert, on_unary, decided_by, run_binary, on_step, on_compound, on_assign, on_copy, run_assign}
use Rattle.source_meaning.specs.Meaning.{Calls, called, run, run_form, run_all, run_unused, run_unused_if_any, decide, decide_if_any, fill_text, fill_scalar, fill_part, fill_parts, fill_object, start_scalar, initialized}
use Rattle.source_meaning.proofs.Later.{follows_same}
use Rattle.source_meaning.proofs.Operations.{move_leads, truth_leads, cast_leads, binary_leads, step_leads, copy_leads, library_leads, clear_leads, initialize_leads}
use Rattle.source_meaning.proofs.Longer.{Longer, goes_on, goes_same, ends_same, longer_at, longer_then, either_longer, doing_longer, giving_longer, value_longer, number_longer, pointer_longer, place_longer, address_longer, read_longer, write_longer, finish_longer}

-- ---- Operators

reach_longer : (g site line : ℕ) (t : CType) (want : Want) (d : ℤ) (q : Pointer) (c : State) → Longer c (reach g site line t want d q c) (reach g site line t want d q c)
reach_longer g site line t want d q c = longer_then (doing_longer _ c (move_leads g site line d q)) (λ r s. finish_longer t want (Memory r) s)

member_longer : (g site line offset : ℕ) (t : CType) (want : Want) (q : Pointer) (c : State) → Longer c (reach_member g site line offset t want q c) (reach_member g site line offset t want q c)
member_longer g site line offset t want q c =
    either_longer (offset == 0) _ _ _ _ (finish_longer t want (Memory q) c) (reach_longer g site line t want (pos offset) q c)

convert_longer : (k : Conversion) (t : CType) (x : Held) (c : State) → Longer c (convert k t x c) (convert k t x c)
convert_longer conversion.ArrayToPointer t x c = address_longer x _ _ c (λ q. goes_same _)
convert_longer conversion.NumberToNumber t x c = number_longer x _ _ c (λ n. goes_same _)
convert_longer conversion.NullToPointer t x c = value_longer x _ _ c (λ v. goes_same _)
convert_longer conversion.PointerToPointer t x c = pointer_longer x _ _ c (λ q. goes_same _)

truth_longer : {A : Type 0} (v : Value) (c : State) {f h : Bool → State → Runs A} → ((b : Bool) (s : State) → Longer s (f b s) (h b s)) → Longer c (and_then (doing (λ w. truth v w) c) f) (and_then (doing (λ w. truth v w) c) h)
truth_longer v c k = longer_then (doing_longer _ c (truth_leads v)) k

unary_longer : (o : UnaryOperator) (t : CType) (want : Want) (x : Held) (c : State) → Longer c (on_unary o t want x c) (on_unary o t want x c)
unary_longer unary.Address t want x c = address_longer x _ _ c (λ q. goes_same _)
unary_longer unary.Dereference t want x c = pointer_longer x _ _ c (λ q. finish_longer t want (Memory q) c)
unary_longer unary.Plus t want x c = number_longer x _ _ c (λ n. goes_same _)
unary_longer unary.Minus t want x c = number_longer x _ _ c (λ n. goes_same _)
unary_longer unary.Complement t want x c = number_longer x _ _ c (λ n. goes_same _)
unary_longer unary.Not t want x c = value_longer x _ _ c (λ v. truth_longer v c (λ b s. goes_same _))

-- two runs of an operand, from every state
abbrev pub AreLonger : {A : Type 0} → (f h : State → Runs A) → Type 0
AreLonger f h = (c : State) → Longer c (f c) (h c)

decided_longer : (b b' : State → Runs Held) → AreLonger b b' → AreLonger (decided_by b) (decided_by b')
decided_longer b b' k c = longer_then (k c) (λ y s. value_longer y _ _ s (λ v. truth_longer v s (λ r s1. goes_same _)))

binary_longer : (structs : List CStruct) (g site : ℕ) (o : BinaryOperator) (line : ℕ) (t u : CType) (a a' b b' : State → Runs Held) → AreLonger a a' → AreLonger b b' → AreLonger (run_binary structs g site o line t u a b) (run_binary structs g site o line t u a' b')
binary_longer structs g site op.LogicalAnd line t u a a' b b' j k c =
    longer_then (j c) (λ x s. value_longer x _ _ s (λ v. truth_longer v s (λ r s1. either_longer r _ _ _ _ (decided_longer b b' k s1) (goes_same _))))
binary_longer structs g site op.LogicalOr line t u a a' b b' j k c =
    longer_then (j c) (λ x s. value_longer x _ _ s (λ v. truth_longer v s (λ r s1. either_longer r _ _ _ _ (goes_same _) (decided_longer b b' k s1))))
binary_longer structs g site o line t u a a' b b' j k c =
    longer_then (j c) (λ x s. longer_then (k s) (λ y s1. value_longer x _ _ s1 (λ v. value_longer y _ _ s1 (λ z. giving_longer _ s1 (binary_leads structs g site o (is_unsigned t) line t u v z)))))

stepped_longer : (structs : List CStruct) (g site line : ℕ) (after : Bool) (o : StepOperator) (t : CType) (q : Place) (c : State) → Longer c (on_step structs g site line after o t q c) (on_step structs g site line after o t q c)
stepped_longer structs g site line after o t q c =
    longer_then (read_longer t q c) (λ v s. longer_then (doing_longer _ s (step_leads structs g site line o t v)) (λ x s1. longer_then (write_longer t q x s1) (λ y s2. goes_same _)))

compound_longer : (structs : List CStruct) (g site line : ℕ) (o : AssignOperator) (t u : CType) (q : Place) (x : Value) (c : State) → Longer c (on_compound structs g site line o t u q x c) (on_compound structs g site line o t u q x c)
compound_longer structs g site line o t u q x c =
    longer_then (read_longer t q c) (λ v s. longer_then (doing_longer _ s (binary_leads structs g site _ _ line t u v x)) (λ y s1.
    longer_then (doing_longer _ s1 (cast_leads t y)) (λ z s2. longer_then (write_longer t q z s2) (λ r s3. goes_same _))))

assigned_longer : (structs : List CStruct) (g site line : ℕ) (o : AssignOperator) (t u : CType) (q : Place) (x : Value) (c : State) → Longer c (on_assign structs g site line o t u q x c) (on_assign structs g site line o t u q x c)
assigned_longer structs g site line assign.Assign t u q x c = longer_then (write_longer t q x c) (λ r s. goes_same _)
assigned_longer structs g site line o t u q x c = compound_longer structs g site line o t u q x c

on_copy_longer : (g site line size : ℕ) (x y : Held) (c : State) → Longer c (on_copy g site line size x y c) (on_copy g site line size x y c)
on_copy_longer g site line size x y c =
    address_longer x _ _ c (λ q. address_longer y _ _ c (λ r. longer_then (doing_longer _ c (copy_leads g site (site + 1) line size q r)) (λ done s. goes_same _)))

run_assign_longer : (structs : List CStruct) (g site line : ℕ) (o : AssignOperator) (t u : CType) (x : Held) (b b' : Want → State → Runs Held) → ((want : Want) → AreLonger (b want) (b' want)) → AreLonger (run_assign structs g site line o t u x b) (run_assign structs g site line o t u x b')
run_assign_longer structs g site line o t u x b b' k c =
    either_longer (is_struct t) _ _ _ _
    (longer_then (k ItsPlace c) (λ y s. on_copy_longer g site line _ x y s))
    (longer_then (k ItsValue c) (λ y s. place_longer x _ _ s (λ q. value_longer y _ _ s (λ v. assigned_longer structs g site line o t u q v s))))

-- ---- Expressions

-- the calls of a program, and those of its longer run
abbrev pub CallsAreLonger : Calls → Calls → Type 0
CallsAreLonger call call' = (f : ℕ) (vs : List Value) (c : State) → Longer c (call f vs c) (call' f vs c)

module _ (g : ℕ) (p : CProgram) (call call' : Calls) (all : CallsAreLonger call call') where
  called_longer : (site line : ℕ) (f : Called) (vs : List Value) (c : State) → Longer c (called g p call site line f vs c) (called g p call' site line f vs c)
  called_longer site line (Defined f) vs c = longer_then (all f vs c) (λ v s. goes_same _)
  called_longer site line (Library f) vs c = giving_longer _ c (library_leads g f site (site + 1) line vs)

  mutual
    pub run_longer : (e : CExpr) (n : ℕ) (want : Want) (c : State) → Longer c (run g p call e n want c) (run g p call' e n want c)
    run_longer (CExpr.expr at t form) n want c = form_longer form n at.line t want c

    form_longer : (form : CForm) (n line : ℕ) (t : CType) (want : Want) (c : State) → Longer c (run_form g p call form n line t want c) (run_form g p call' form n line t want c)
    form_longer (CForm.Local k) n line t want c = longer_at refl (finish_longer t want _ (tick c))
    form_longer (CForm.Global k) n line t want c = longer_at refl (finish_longer t want _ (tick c))
    form_longer (CForm.Text k) n line t want c = longer_at refl (finish_longer t want _ (tick c))
    form_longer (CForm.Number x) n line t want c = goes_on _ _ follows_same
    form_longer (CForm.Character x) n line t want c = goes_on _ _ follows_same
    form_longer CForm.Null n line t want c = goes_on _ _ follows_same
    form_longer CForm.Eof n line t want c = goes_on _ _ follows_same
    form_longer (CForm.SizeofExpression e) n line t want c = goes_on _ _ follows_same
    form_longer (CForm.SizeofType u) n line t want c = goes_on _ _ follows_same
    form_longer (CForm.Convert k e) n line t want c = longer_then (run_longer e n _ c) (λ x s. convert_longer k t x s)
    form_longer (CForm.Cast e) n line t want c =
        longer_at refl (longer_then (run_longer e n ItsValue (tick c)) (λ x s. value_longer x _ _ s (λ v. giving_longer _ s (cast_leads t v))))
    form_longer (CForm.Index a b) n line t want c =
        longer_at refl (longer_then (run_longer a n ItsValue (tick c)) (λ x s. longer_then (run_longer b (n + sites_of p.structs a) ItsValue s) (λ y s1.
        pointer_longer x _ _ s1 (λ q. number_longer y _ _ s1 (λ i. reach_longer g _ line t want _ q s1)))))
    form_longer (CForm.Call f es) n line t want c =
        longer_at refl (longer_then (all_longer es n (tick c)) (λ vs s. called_longer _ line f vs s))
    form_longer (CForm.Member e m) n line t want c =
        longer_at refl (longer_then (run_longer e n ItsPlace (tick c)) (λ x s. address_longer x _ _ s (λ q. member_longer g _ line _ t want q s)))
    form_longer (CForm.Arrow e m) n line t want c =
        longer_at refl (longer_then (run_longer e n ItsValue (tick c)) (λ x s. pointer_longer x _ _ s (λ q. member_longer g _ line _ t want q s)))
    form_longer (CForm.StepBefore o e) n line t want c =
        longer_at refl (longer_then (run_longer e n ItsPlace (tick c)) (λ x s. place_longer x _ _ s (λ q. stepped_longer p.structs g _ line true o t q s)))
    form_longer (CForm.StepAfter o e) n line t want c =
        longer_at refl (longer_then (run_longer e n ItsPlace (tick c)) (λ x s. place_longer x _ _ s (λ q. stepped_longer p.structs g _ line false o t q s)))
    form_longer (CForm.Unary o e) n line t want c = longer_at refl (longer_then (run_longer e n _ (tick c)) (λ x s. unary_longer o t want x s))
    form_longer (CForm.Binary o a b) n line t want c =
        longer_at refl (binary_longer p.structs g _ o line (type_of a) (type_of b) _ _ _ _ (run_longer a n ItsValue) (run_longer b (n + sites_of p.structs a) ItsValue) (tick c))
    form_longer (CForm.Conditional q a b) n line t want c =
        longer_at refl (longer_then (run_longer q n ItsValue (tick c)) (λ x s. value_longer x _ _ s (λ v. truth_longer v s (λ r s1.
        either_longer r _ _ _ _ (run_longer a (n + sites_of p.structs q) want s1) (run_longer b (n + sites_of p.structs q + sites_of p.structs a) want s1)))))
    form_longer (CForm.Assign o a b) n line t want c =
        longer_at refl (longer_then (run_longer a n ItsPlace (tick c)) (λ x s.
        run_assign_longer p.structs g _ line o (type_of a) (type_of b) x _ _ (λ w. run_longer b (n + sites_of p.structs a) w) s))
    form_longer (CForm.Comma a b) n line t want c =
        longer_at refl (longer_then (run_longer a n ItsValue (tick c)) (λ x s. run_longer b (n + sites_of p.structs a) want s))

    all_longer : (es : CExprs) (n : ℕ) (c : State) → Longer c (run_all g p call es n c) (run_all g p call' es n c)
    all_longer CExprs.none n c = goes_same _
    all_longer (CExprs.more e es) n c =
        longer_then (run_longer e n ItsValue c) (λ x s. value_longer x _ _ s (λ v. longer_then (all_longer es (n + sites_of p.structs e) s) (λ vs s1. goes_same _)))

  pub unused_longer : (e : CExpr) (n : ℕ) (c : State) → Longer c (run_unused g p call e n c) (run_unused g p call' e n c)
  unused_longer e n c = longer_then (run_longer e n ItsValue c) (λ x s. goes_same _)

  pub unused_if_any_longer : (e : Option CExpr) (n : ℕ) (c : State) → Longer c (run_unused_if_any g p call e n c) (run_unused_if_any g p call' e n c)
  unused_if_any_longer None n c = goes_same _
  unused_if_any_longer (Some e) n c = unused_longer e n c

  pub decide_longer : (e : CExpr) (n : ℕ) (c : State) → Longer c (decide g p call e n c) (decide g p call' e n c)
  decide_longer e n c = longer_then (run_longer e n ItsValue c) (λ x s. value_longer x _ _ s (λ v. doing_longer _ s (truth_leads v)))

  pub decide_if_any_longer : (e : Option CExpr) (n : ℕ) (c : State) → Longer c (decide_if_any g p call e n c) (decide_if_any g p call' e n c)
  decide_if_any_longer None n c = goes_same _
  decide_if_any_longer (Some e) n c = decide_longer e n c

  -- ---- Initializers

  text_longer : (bytes : List ℕ) (k offset : ℕ) (c : State) → Longer c (fill_text g p call bytes k offset c) (fill_text g p call' bytes k offset c)
  text_longer [] k offset c = goes_same _
  text_longer (byte ∷ bytes) k offset c = longer_then (doing_longer _ c (initialize_leads k offset width.Byte (Num byte))) (λ done s. text_longer bytes k (offset + 1) s)

  scalar_longer : (x : Option Width) (k offset : ℕ) (v : Value) (c : State) → Longer c (fill_scalar g p call x k offset v c) (fill_scalar g p call' x k offset v c)
  scalar_longer None k offset v c = ends_same _
  scalar_longer (Some width) k offset v c = longer_then (doing_longer _ c (initialize_leads k offset width v)) (λ done s. goes_same _)

  mutual
    part_longer : (x : CInitial) (n : ℕ) (t : CType) (k offset : ℕ) (c : State) → Longer c (fill_part g p call x n t k offset c) (fill_part g p call' x n t k offset c)
    part_longer (CInitial.Value e) n t k offset c = longer_then (run_longer e n ItsValue c) (λ x s. value_longer x _ _ s (λ v. scalar_longer (width_of t) k offset v s))
    part_longer (CInitial.Text at bytes) n t k offset c = longer_at refl (text_longer bytes k offset (count (1 + length bytes) c))
    part_longer (CInitial.Braces at parts) n t k offset c = parts_longer parts n t 0 k offset c

    parts_longer : (xs : CInitials) (n : ℕ) (t : CType) (i k offset : ℕ) (c : State) → Longer c (fill_parts g p call xs n t i k offset c) (fill_parts g p call' xs n t i k offset c)
    parts_longer CInitials.none n t i k offset c = goes_same _
    parts_longer (CInitials.more x xs) n t i k offset c =
        longer_then (part_longer x n _ k _ c) (λ s s1. parts_longer xs (n + sites_of_initial p.structs x) t (suc i) k offset s1)

  object_longer : (x : CInitial) (n : ℕ) (t : CType) (o : Slot) (c : State) → Longer c (fill_object g p call x n t o c) (fill_object g p call' x n t o c)
  object_longer x n t (Kept v) c = ends_same _
  object_longer x n t (Lies k) c = longer_then (doing_longer _ c (clear_leads k)) (λ done s. part_longer x n t k 0 s)

  start_longer : (t : CType) (j : ℕ) (o : Slot) (v : Value) (c : State) → Longer c (start_scalar g p call t j o v c) (start_scalar g p call' t j o v c)
  start_longer t j (Kept old) v c = goes_on _ _ follows_same
  start_longer t j (Lies k) v c = scalar_longer (width_of t) k 0 v c

  pub initialized_longer : (line j : ℕ) (t : CType) (x : CInitial) (n : ℕ) (c : State) → Longer c (initialized g p call line j t x n c) (initialized g p call' line j t x n c)
  initialized_longer line j t (CInitial.Value e) n c =
      either_longer (is_struct (type_of e)) _ _ _ _
      (longer_then (run_longer e n ItsPlace c) (λ y s. longer_then (on_copy_longer g (n + sites_of p.structs e) line (size_of p.structs (type_of e)) (InPlace (local_place j s)) y s) (λ done s1. goes_same Falls)))
      (longer_then (run_longer e n ItsValue c) (λ x s. value_longer x _ _ s (λ v. start_longer (type_of e) j (s.locals j) v s)))
  initialized_longer line j t (CInitial.Text at bytes) n c = object_longer (CInitial.Text at bytes) n t (c.locals j) c
  initialized_longer line j t (CInitial.Braces at parts) n c = object_longer (CInitial.Braces at parts) n t (c.locals j) c
