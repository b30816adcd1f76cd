-- Steps, assignments, copies and binary operators, whose operands keep kinds.
use Rattle.std.proofs.Common.{◌≡◌, ℕ, ◌+◌, Bool, true, false, List, Some, refl, sym, ap, ◌∙◌}
use Rattle.std.specs.Prelude.{◌==◌, ℤ, pos, slice_get}
use Rattle.std.proofs.lemmas.Bool.{true≢false}
use Rattle.bb_words.specs.Answers.{Goes, and_then, either}
use Rattle.c_words.specs.declared.operators.StepOperator.{StepOperator}
use Rattle.c_words.specs.declared.operators.BinaryOperator.{BinaryOperator}
use Rattle.c_words.specs.declared.operators.BinaryOperator.TheVariants as op
use Rattle.c_words.specs.declared.operators.AssignOperator.{AssignOperator}
use Rattle.c_words.specs.declared.operators.AssignOperator.TheVariants as assign
use Rattle.typed_tree.specs.Types.{CType, is_struct, is_unsigned, IsScalar}
use Rattle.typed_tree.specs.Sizes.{size_of}
use Rattle.typed_tree.specs.TypedTree.{CExpr, CLocal, CStruct, type_of}
use Rattle.typed_tree.specs.TypedOperands.{own_type}
use Rattle.typed_tree.specs.TypedRules.{CanStep, IsReckoned, IsShiftedIn, IsAssignment, IsBinary}
use Rattle.typed_tree.specs.TypedRules.CanStep.{number as steps_number, pointer as steps_pointer}
use Rattle.typed_tree.specs.TypedRules.IsSet.{scalar as set_scalar, struct as set_struct}
use Rattle.typed_tree.specs.TypedRules.IsChanged.{numbers as changed_numbers, pointer_and_number as changed_pointer}
use Rattle.source_meaning.specs.declared.values.Pointer.{Pointer}
use Rattle.source_meaning.specs.declared.values.Value.{Value}
use Rattle.source_meaning.specs.declared.values.Place.{Place}
use Rattle.source_meaning.specs.declared.values.Place.TheVariants.{Variable, Memory}
use Rattle.source_meaning.specs.declared.values.Held.{Held}
use Rattle.source_meaning.specs.declared.values.Held.TheVariants.{Of, At}
use Rattle.source_meaning.specs.declared.values.Want.{Want}
use Rattle.source_meaning.specs.declared.values.Want.TheVariants.{ItsValue, ItsPlace}
use Rattle.source_meaning.specs.Worlds.{World, Does}
use Rattle.source_meaning.specs.Comparisons.{truth}
use Rattle.source_meaning.specs.States.{State, Runs, doing, giving, using_value, using_address}
use Rattle.source_meaning.specs.Operators.{reach, reach_member, on_binary, decided_by, run_binary, on_step, binary_of, is_shift, on_compound, on_assign, on_copy, run_assign}
use Rattle.meaning_kinds.specs.Kinds.{HasKind, Sound, PlaceFits, HeldFits, MayWant, KeepsKinds}
use Rattle.meaning_kinds.proofs.ValueKinds.{as_number, as_pointer, as_void, number_no_pointer, Gives, gives_weaker, keeps_value, keeps_then, keeps_weaker, keeps_if, keeps_first, keeps_second, keeps_doing}
use Rattle.meaning_kinds.proofs.Acts.{move_gives, copy_gives, truth_gives}
use Rattle.meaning_kinds.proofs.Places.{use_value, use_place, read_kind, write_kind, finish_kind}
use Rattle.meaning_kinds.proofs.Operators.{number_scalar, pointer_scalar, common_number, number_by, kind_by, is_promoted_number, complete_pointer, cast_same, numbers_give, added_gives, taken_gives, IsEager, binary_kind, step_kind}
use Rattle.meaning_kinds.proofs.Finding.{place_has_object}

pub value_fits : (ls : List CLocal) (e : CExpr) (v : Value) → HasKind (type_of e) v → HeldFits ls ItsValue e (Of v)
value_fits ls e v h = record { is = h }

pub gives_held : (ls : List CLocal) (e : CExpr) (v : Value) (c : State) → HasKind (type_of e) v → Sound ls c → KeepsKinds ls (HeldFits ls ItsValue e) (Goes (Of v) c)
gives_held ls e v c h s = keeps_value _ _ (value_fits ls e v h) s

pub giving_kind : (ls : List CLocal) (e : CExpr) (f : World → Does Value) (c : State) → Sound ls c → ((w : World) → Gives (HasKind (type_of e)) (f w)) → KeepsKinds ls (HeldFits ls ItsValue e) (giving f c)
giving_kind ls e f c s h = keeps_then (keeps_doing f c s h) (λ v d i r. gives_held ls e v d i r)

pub truth_kind : {A : Type 0} {P : A → Type 0} (ls : List CLocal) (v : Value) (c : State) {f : Bool → State → Runs A} → Sound ls c → ((b : Bool) (d : State) → Sound ls d → KeepsKinds ls P (f b d)) → KeepsKinds ls P (and_then (doing (λ w. truth v w) c) f)
truth_kind ls v c s k = keeps_then (keeps_doing (λ w. truth v w) c s (truth_gives v)) (λ b d h r. k b d r)

-- ---- Members and elements

pub reach_kind : (ls : List CLocal) (g site line : ℕ) (e : CExpr) (want : Want) (d : ℤ) (q : Pointer) (c : State) → Sound ls c → KeepsKinds ls (HeldFits ls want e) (reach g site line (type_of e) want d q c)
reach_kind ls g site line e want d q c s =
    keeps_then (keeps_doing _ c s (move_gives g site line d q)) (λ r b h t. finish_kind ls e want (Memory r) b tt tt t)

pub member_kind : (ls : List CLocal) (g site line offset : ℕ) (e : CExpr) (want : Want) (q : Pointer) (c : State) → Sound ls c → KeepsKinds ls (HeldFits ls want e) (reach_member g site line offset (type_of e) want q c)
member_kind ls g site line offset e want q c s =
    keeps_if (offset == 0) _ _ c (λ h. finish_kind ls e want (Memory q) c tt tt s) (λ h. reach_kind ls g site line e want (pos offset) q c s)

-- ---- Steps

either_kind : (b : Bool) (t : CType) (y v : Value) → HasKind t y → HasKind t v → HasKind t (either b y v)
either_kind true t y v hy hv = hy
either_kind false t y v hy hv = hv

can_step_scalar : (structs : List CStruct) (t : CType) → CanStep structs t → IsScalar t
can_step_scalar structs t (steps_number n) = number_scalar t n
can_step_scalar structs t (steps_pointer c) = pointer_scalar t (complete_pointer structs t c)

pub stepped_kind : (ls : List CLocal) (structs : List CStruct) (g site line : ℕ) (after : Bool) (o : StepOperator) (e : CExpr) (q : Place) (c : State) → PlaceFits ls (type_of e) q → CanStep structs (type_of e) → Sound ls c → KeepsKinds ls (HeldFits ls ItsValue e) (on_step structs g site line after o (type_of e) q c)
stepped_kind ls structs g site line after o e q c place steps s =
    keeps_then (read_kind ls (type_of e) q c place s) (λ v d hv r.
    keeps_then (keeps_doing _ d r (λ w. step_kind structs g site line o (type_of e) v w steps hv)) (λ x d1 hx r1.
    keeps_then (write_kind ls (type_of e) q x d1 (can_step_scalar structs (type_of e) steps) place hx r1) (λ y d2 hy r2.
    gives_held ls e _ d2 (either_kind after (type_of e) y v hy hv) r2)))

-- ---- Binary operators

module _ (ls : List CLocal) (structs : List CStruct) (g site line : ℕ) (e a b : CExpr) (ra rb : State → Runs Held) (ka : (c : State) → Sound ls c → KeepsKinds ls (HeldFits ls ItsValue a) (ra c)) (kb : (c : State) → Sound ls c → KeepsKinds ls (HeldFits ls ItsValue b) (rb c)) where
  decided_kind : type_of e ≡ CType.Int → (c : State) → Sound ls c → KeepsKinds ls (HeldFits ls ItsValue e) (decided_by rb c)
  decided_kind int c s =
      keeps_then (kb c s) (λ y d hy r. use_value ls b y _ d hy (λ v hv. truth_kind ls v d r (λ z d1 r1. gives_held ls e _ d1 (as_number (type_of e) _ (number_by int refl) tt) r1)))

  eager_kind : (o : BinaryOperator) → IsEager o → IsBinary structs o a b (type_of e) → (c : State) → Sound ls c → KeepsKinds ls (HeldFits ls ItsValue e) (and_then (ra c) (λ x c1. and_then (rb c1) (λ y. using_value x (λ v. using_value y (λ z. giving (on_binary structs g site o (is_unsigned (type_of a)) line (type_of a) (type_of b) v z))))))
  eager_kind o eager is c s =
      keeps_then (ka c s) (λ x d hx r. keeps_then (kb d r) (λ y d1 hy r1. use_value ls a x _ d1 hx (λ v hv. use_value ls b y _ d1 hy (λ z hz.
      giving_kind ls e _ d1 r1 (λ w. binary_kind structs g site (is_unsigned (type_of a)) line a b (type_of e) v z w hv hz o eager is)))))

  pub run_binary_kind : (o : BinaryOperator) → IsBinary structs o a b (type_of e) → (c : State) → Sound ls c → KeepsKinds ls (HeldFits ls ItsValue e) (run_binary structs g site o line (type_of a) (type_of b) ra rb c)
  run_binary_kind op.LogicalAnd is c s =
      keeps_then (ka c s) (λ x d hx r. use_value ls a x _ d hx (λ v hv. truth_kind ls v d r (λ z d1 r1.
      keeps_if z _ _ d1 (λ h. decided_kind is.2 d1 r1) (λ h. gives_held ls e _ d1 (as_number (type_of e) _ (number_by is.2 refl) tt) r1))))
  run_binary_kind op.LogicalOr is c s =
      keeps_then (ka c s) (λ x d hx r. use_value ls a x _ d hx (λ v hv. truth_kind ls v d r (λ z d1 r1.
      keeps_if z _ _ d1 (λ h. gives_held ls e _ d1 (as_number (type_of e) _ (number_by is.2 refl) tt) r1) (λ h. decided_kind is.2 d1 r1))))
  run_binary_kind op.Multiply is c s = eager_kind op.Multiply tt is c s
  run_binary_kind op.Divide is c s = eager_kind op.Divide tt is c s
  run_binary_kind op.Remainder is c s = eager_kind op.Remainder tt is c s
  run_binary_kind op.Add is c s = eager_kind op.Add tt is c s
  run_binary_kind op.Subtract is c s = eager_kind op.Subtract tt is c s
  run_binary_kind op.ShiftLeft is c s = eager_kind op.ShiftLeft tt is c s
  run_binary_kind op.ShiftRight is c s = eager_kind op.ShiftRight tt is c s
  run_binary_kind op.Less is c s = eager_kind op.Less tt is c s
  run_binary_kind op.Greater is c s = eager_kind op.Greater tt is c s
  run_binary_kind op.LessEqual is c s = eager_kind op.LessEqual tt is c s
  run_binary_kind op.GreaterEqual is c s = eager_kind op.GreaterEqual tt is c s
  run_binary_kind op.Equal is c s = eager_kind op.Equal tt is c s
  run_binary_kind op.NotEqual is c s = eager_kind op.NotEqual tt is c s
  run_binary_kind op.BitAnd is c s = eager_kind op.BitAnd tt is c s
  run_binary_kind op.BitXor is c s = eager_kind op.BitXor tt is c s
  run_binary_kind op.BitOr is c s = eager_kind op.BitOr tt is c s

-- ---- Copies of structs

abbrev pub IsAddress : Held → Type 0
IsAddress (Of v) = ⊥
IsAddress (At (Variable k)) = ⊥
IsAddress (At (Memory q)) = Unit {0}

abbrev pub IsValue : Held → Type 0
IsValue (Of v) = Unit {0}
IsValue (At q) = ⊥

pub held_address : (ls : List CLocal) (e : CExpr) (x : Held) → ((k : ℕ) (l : CLocal) → slice_get ls k ≡ Some l → l.is_block ≡ false → l.ty ≡ type_of e → ⊥) → HeldFits ls ItsPlace e x → IsAddress x
held_address ls e (Of v) none h = h.is
held_address ls e (At (Variable k)) none h = none k h.is.0.0 h.is.0.1 h.is.0.2 h.is.0.3
held_address ls e (At (Memory q)) none h = tt

address_kind : {A : Type 0} {P : A → Type 0} (ls : List CLocal) (x : Held) (f : Pointer → State → Runs A) (c : State) → IsAddress x → ((q : Pointer) → KeepsKinds ls P (f q c)) → KeepsKinds ls P (using_address x f c)
address_kind ls (Of v) f c h k = absurd h
address_kind ls (At (Variable j)) f c h k = absurd h
address_kind ls (At (Memory q)) f c h k = k q

pub copy_kind : (ls : List CLocal) (g site line size : ℕ) (x y : Held) (c : State) → IsAddress x → IsAddress y → Sound ls c → KeepsKinds ls IsValue (on_copy g site line size x y c)
copy_kind ls g site line size x y c hx hy s =
    address_kind ls x _ c hx (λ q. address_kind ls y _ c hy (λ r.
    keeps_then (keeps_doing _ c s (copy_gives g site (site + 1) line size q r)) (λ done d h t. keeps_value _ _ tt t)))

pub void_fits : (ls : List CLocal) (e : CExpr) (x : Held) → type_of e ≡ CType.Void → IsValue x → HeldFits ls ItsValue e x
void_fits ls e (Of v) void h = value_fits ls e v (as_void (type_of e) v void)
void_fits ls e (At q) void h = absurd h

-- ---- Assignments

abbrev IsCompound : AssignOperator → Type 0
IsCompound assign.Assign = ⊥
IsCompound o = Unit {0}

pub scalar_no_struct : (t : CType) → IsScalar t → is_struct t ≡ false
scalar_no_struct CType.Char h = refl
scalar_no_struct CType.Int h = refl
scalar_no_struct CType.Unsigned h = refl
scalar_no_struct CType.Void h = refl
scalar_no_struct (CType.Struct k) h = absurd (true≢false (sym h))
scalar_no_struct (CType.Pointer t) h = refl
scalar_no_struct (CType.Array t n) h = refl

module _ (ls : List CLocal) (structs : List CStruct) (g site line : ℕ) (e a b : CExpr) where
  -- an operator that changes a scalar place of this type keeps its kind
  record Changing (o : AssignOperator) : Type 0 where
    scalar : IsScalar (type_of a)
    result : type_of e ≡ type_of a
    gives : (s : Bool) (v x : Value) (w : World) → HasKind (type_of a) v → HasKind (type_of b) x → Gives (HasKind (type_of a)) (on_binary structs g site (binary_of o) s line (type_of a) (type_of b) v x w)

  reckoned : (o : AssignOperator) → IsReckoned a b (type_of e) → Changing o
  reckoned o is =
      let nb = number_by is.right (common_number (type_of a) (own_type b)) in
      record {
        scalar = number_scalar (type_of a) is.left_number;
        result = is.result;
        gives = λ s v x w hv hx. gives_weaker (λ y h. as_number (type_of a) y is.left_number h)
            (numbers_give structs g site (binary_of o) s line (type_of a) (type_of b) v x w (number_no_pointer (type_of a) is.left_number) (number_no_pointer (type_of b) nb) (hv.number is.left_number) (hx.number nb));
      }

  shifted_in : (o : AssignOperator) → IsShiftedIn a b (type_of e) → Changing o
  shifted_in o is =
      let nb = is_promoted_number b is.right in
      record {
        scalar = number_scalar (type_of a) is.left_number;
        result = is.result;
        gives = λ s v x w hv hx. gives_weaker (λ y h. as_number (type_of a) y is.left_number h)
            (numbers_give structs g site (binary_of o) s line (type_of a) (type_of b) v x w (number_no_pointer (type_of a) is.left_number) (number_no_pointer (type_of b) nb) (hv.number is.left_number) (hx.number nb));
      }

  changing : (o : AssignOperator) → IsCompound o → IsAssignment structs o a b (type_of e) → Changing o
  changing assign.Assign compound is = absurd compound
  changing assign.Multiply compound is = reckoned assign.Multiply is
  changing assign.Divide compound is = reckoned assign.Divide is
  changing assign.Remainder compound is = reckoned assign.Remainder is
  changing assign.BitAnd compound is = reckoned assign.BitAnd is
  changing assign.BitXor compound is = reckoned assign.BitXor is
  changing assign.BitOr compound is = reckoned assign.BitOr is
  changing assign.ShiftLeft compound is = shifted_in assign.ShiftLeft is
  changing assign.ShiftRight compound is = shifted_in assign.ShiftRight is
  changing assign.Add compound (changed_numbers is) = reckoned assign.Add is
  changing assign.Subtract compound (changed_numbers is) = reckoned assign.Subtract is
  changing assign.Add compound (changed_pointer place is) =
      let pa = complete_pointer structs (type_of a) is.complete in
      record {
        scalar = pointer_scalar (type_of a) pa;
        result = is.result;
        gives = λ s v x w hv hx. gives_weaker (λ y h. as_pointer (type_of a) y pa h)
            (added_gives structs g site s line (type_of a) (type_of b) v x w pa (hv.pointer pa) (hx.number (is_promoted_number b is.distance)));
      }
  changing assign.Subtract compound (changed_pointer place is) =
      let pa = complete_pointer structs (type_of a) is.complete in
      let nb = is_promoted_number b is.distance in
      record {
        scalar = pointer_scalar (type_of a) pa;
        result = is.result;
        gives = λ s v x w hv hx. gives_weaker (λ y h. as_pointer (type_of a) y pa h)
            (taken_gives structs g site s line (type_of a) (type_of b) v x w pa (number_no_pointer (type_of b) nb) (hv.pointer pa) (hx.number nb));
      }

  compound_kind : (o : AssignOperator) → Changing o → (q : Place) (x : Value) (c : State) → PlaceFits ls (type_of a) q → HasKind (type_of b) x → Sound ls c → KeepsKinds ls (HeldFits ls ItsValue e) (on_compound structs g site line o (type_of a) (type_of b) q x c)
  compound_kind o k q x c place hx s =
      keeps_then (read_kind ls (type_of a) q c place s) (λ v d hv r.
      keeps_then (keeps_doing _ d r (λ w. k.gives (is_unsigned (either (is_shift o) (type_of a) (type_of b))) v x w hv hx)) (λ y d1 hy r1.
      keeps_then (keeps_doing _ d1 r1 (λ w. cast_same (type_of a) y w k.scalar hy)) (λ z d2 hz r2.
      keeps_then (write_kind ls (type_of a) q z d2 k.scalar place hz r2) (λ u d3 hu r3.
      gives_held ls e u d3 (kind_by u k.result hu) r3))))

  assigned_kind : (o : AssignOperator) → IsCompound o → Changing o → (q : Place) (x : Value) (c : State) → PlaceFits ls (type_of a) q → HasKind (type_of b) x → Sound ls c → KeepsKinds ls (HeldFits ls ItsValue e) (on_assign structs g site line o (type_of a) (type_of b) q x c)
  assigned_kind assign.Assign compound k q x c place hx s = absurd compound
  assigned_kind o compound k q x c place hx s = compound_kind o k q x c place hx s

  module _ (rb : Want → State → Runs Held) (kb : (want : Want) → MayWant want b → (c : State) → Sound ls c → KeepsKinds ls (HeldFits ls want b) (rb want c)) (no_struct : (t : CType) → is_struct t ≡ true → (k : ℕ) (l : CLocal) → slice_get ls k ≡ Some l → l.is_block ≡ false → l.ty ≡ t → ⊥) where
    compounded_kind : (o : AssignOperator) → IsCompound o → Changing o → (x : Held) (c : State) → HeldFits ls ItsPlace a x → Sound ls c → KeepsKinds ls (HeldFits ls ItsValue e) (run_assign structs g site line o (type_of a) (type_of b) x rb c)
    compounded_kind o compound k x c hx s =
        keeps_second (is_struct (type_of a)) _ _ c (scalar_no_struct (type_of a) k.scalar)
        (keeps_then (kb ItsValue tt c s) (λ y d hy r. use_place ls a x _ d hx (λ q place. use_value ls b y _ d hy (λ v hv. assigned_kind o compound k q v d place hv r))))

    pub run_assign_kind : (o : AssignOperator) → IsAssignment structs o a b (type_of e) → (x : Held) (c : State) → HeldFits ls ItsPlace a x → Sound ls c → KeepsKinds ls (HeldFits ls ItsValue e) (run_assign structs g site line o (type_of a) (type_of b) x rb c)
    run_assign_kind assign.Assign (set_scalar place is result) x c hx s =
        keeps_second (is_struct (type_of a)) _ _ c (scalar_no_struct (type_of a) is.1)
        (keeps_then (kb ItsValue tt c s) (λ y d hy r. use_place ls a x _ d hx (λ q fits. use_value ls b y _ d hy (λ v hv.
        keeps_then (write_kind ls (type_of a) q v d is.1 fits (kind_by v (sym is.0) hv) r) (λ z d1 hz r1. gives_held ls e z d1 (kind_by z result hz) r1)))))
    run_assign_kind assign.Assign (set_struct place is result) x c hx s =
        keeps_first (is_struct (type_of a)) _ _ c is.struct
        (keeps_then (kb ItsPlace (place_has_object b is.place) c s) (λ y d hy r.
        keeps_weaker (λ z h. void_fits ls e z result h)
        (copy_kind ls g site line (size_of structs (type_of a)) x y d (held_address ls a x (no_struct (type_of a) is.struct) hx) (held_address ls b y (no_struct (type_of b) (ap is_struct is.same_struct ∙ is.struct)) hy) r)))
    run_assign_kind assign.Multiply is x c hx s = compounded_kind assign.Multiply tt (changing assign.Multiply tt is) x c hx s
    run_assign_kind assign.Divide is x c hx s = compounded_kind assign.Divide tt (changing assign.Divide tt is) x c hx s
    run_assign_kind assign.Remainder is x c hx s = compounded_kind assign.Remainder tt (changing assign.Remainder tt is) x c hx s
    run_assign_kind assign.Add is x c hx s = compounded_kind assign.Add tt (changing assign.Add tt is) x c hx s
    run_assign_kind assign.Subtract is x c hx s = compounded_kind assign.Subtract tt (changing assign.Subtract tt is) x c hx s
    run_assign_kind assign.ShiftLeft is x c hx s = compounded_kind assign.ShiftLeft tt (changing assign.ShiftLeft tt is) x c hx s
    run_assign_kind assign.ShiftRight is x c hx s = compounded_kind assign.ShiftRight tt (changing assign.ShiftRight tt is) x c hx s
    run_assign_kind assign.BitAnd is x c hx s = compounded_kind assign.BitAnd tt (changing assign.BitAnd tt is) x c hx s
    run_assign_kind assign.BitXor is x c hx s = compounded_kind assign.BitXor tt (changing assign.BitXor tt is) x c hx s
    run_assign_kind assign.BitOr is x c hx s = compounded_kind assign.BitOr tt (changing assign.BitOr tt is) x c hx s
