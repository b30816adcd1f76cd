-- What the rules of the operators with one operand give, and of `[]`, `.`, `->`, `?:` and `,`, is what the operators
-- make of what the operands become.
use Rattle.std.proofs.Common.{◌≡◌, ℕ, suc, ◌+◌, Bool, true, false, ◌||◌, nat_eq, List, [], ◌∷◌, refl, sym, ap, subst, arith}
use Rattle.std.specs.Prelude.{Option, Some, None, Ok, slice_get, if◌then◌else◌}
use Rattle.std.specs.Cmp.Lexicographic.{pointwise}
use Rattle.c_words.specs.declared.place.At.{At}
use Rattle.c_words.specs.declared.operators.UnaryOperator.{UnaryOperator}
use Rattle.c_words.specs.declared.operators.UnaryOperator.TheVariants as unary
use Rattle.c_words.specs.declared.operators.StepOperator.{StepOperator}
use Rattle.typed_tree.specs.Types.{CType, is_number, is_pointer, is_array}
use Rattle.typed_tree.specs.TypedTree.{CExpr, CForm, CStruct, CMember, type_of}
use Rattle.typed_tree.specs.Sizes.{is_complete, IsComplete, members_of, member_type, member_at}
use Rattle.typed_tree.specs.TypedOperands.{is_place, IsWritten}
use Rattle.typed_tree.specs.TypedRules.{IsCondition, IsSigned, IsUnary, IsElement, IsMember, IsMemberBehind, CanStep, IsStepped, IsMeasured}
use Rattle.typing_operators.specs.Rule.{Rule}
use Rattle.typing_operators.specs.Conversions.{decayed, as_promoted, points_to_complete}
use Rattle.typing_operators.specs.Operators.{referred, element_of, followed_to, followed, signed, tested, unary_rule, is_assignable, step_rule, kept_unless, steps, step_before_rule, step_after_rule, indexed_at, index_rule, member_named, member_in, member_at_place, member_rule, arrow_at, arrow_to, arrow_rule, measured_rule, measured_type}
use Rattle.typing_accepted.specs.AcceptanceOperands.{Becomes}
use Rattle.typing_accepted.specs.AcceptanceExpressions.{IsNamed}
use Rattle.typing_accepted.proofs.Steps.{passes, bound, same_ok, some_is, not_false, not_true, and_left, and_right}
use Rattle.typing_accepted.proofs.Operands.{number_flat, IsValue, flat_value, decayed_value}
use Rattle.typing_accepted.proofs.Values.{promotes, promoted_type, points}
use Rattle.typing_accepted.proofs.FromBinary.{OfTwo}

-- what a rule of one operand gives
pub record OfOne (Keeps : CExpr → CType → Type 0) (at : At) (form : CExpr → CForm) (x v : CExpr) : Type 0 where
  pub operand : CExpr
  pub type : CType
  pub becomes : Becomes x operand
  pub keeps : Keeps operand type
  pub is : v ≡ CExpr.expr at type (form operand)

one : (Keeps : CExpr → CType → Type 0) (at : At) (form : CExpr → CForm) (x a : CExpr) (t : CType) (v : CExpr)
    → (let r : Rule CExpr = Ok (CExpr.expr at t (form a)) in r) ≡ Ok v → Becomes x a → Keeps a t → OfOne Keeps at form x v
one Keeps at form x a t v is becomes keeps = record { operand = a; type = t; becomes = becomes; keeps = keeps; is = sym (same_ok (CExpr.expr at t (form a)) v is) }

-- what a rule gives whose operand stays as it is
pub record OfSame (Keeps : CType → Type 0) (at : At) (form : CForm) (v : CExpr) : Type 0 where
  pub type : CType
  pub keeps : Keeps type
  pub is : v ≡ CExpr.expr at type form

stays : (Keeps : CType → Type 0) (at : At) (form : CForm) (t : CType) (v : CExpr)
    → (let r : Rule CExpr = Ok (CExpr.expr at t form) in r) ≡ Ok v → Keeps t → OfSame Keeps at form v
stays Keeps at form t v is keeps = record { type = t; keeps = keeps; is = sym (same_ok (CExpr.expr at t form) v is) }

-- what a pointer to a complete type points to
pub element_is : (structs : List CStruct) (t u : CType) → element_of structs t ≡ Some u → (t ≡ CType.Pointer u) × IsComplete structs u
unfolding element_of
element_is structs (CType.Pointer w) u is = by (is_complete structs w) refl is
  where
    by : (b : Bool) → is_complete structs w ≡ b → (if b then Some w else None) ≡ Some u → (CType.Pointer w ≡ CType.Pointer u) × IsComplete structs u
    by true complete is = let same : w ≡ u = cc in (ap CType.Pointer same, subst (λ x. IsComplete structs x) same complete)
    by false complete is = absurd cc
element_is structs CType.Void u is = absurd cc
element_is structs CType.Char u is = absurd cc
element_is structs CType.Int u is = absurd cc
element_is structs CType.Unsigned u is = absurd cc
element_is structs (CType.Struct k) u is = absurd cc
element_is structs (CType.Array t n) u is = absurd cc

-- one operand

abbrev OfUnary : List CStruct → At → UnaryOperator → CExpr → CExpr → Type 0
OfUnary structs at op x v = OfOne (IsUnary structs op) at (CForm.Unary op) x v

referred_from : (structs : List CStruct) (at : At) (x v : CExpr) → referred at x ≡ Ok v → OfUnary structs at unary.Address x v
unfolding referred
referred_from structs at x v is =
    let passed = passes _ _ _ v is in
    one _ at (CForm.Unary unary.Address) x x _ v passed.1 Becomes.itself (record { place = not_false _ passed.0; result = refl })

followed_by : (structs : List CStruct) (at : At) (x d v : CExpr) → IsValue x d → (o : Option CType) → element_of structs (type_of d) ≡ o → followed_to at d o ≡ Ok v → OfUnary structs at unary.Dereference x v
followed_by structs at x d v value None found is = absurd cc
followed_by structs at x d v value (Some t) found is =
    let element = element_is structs (type_of d) t found in
    one _ at (CForm.Unary unary.Dereference) x d t v is value.becomes (record { plain = value.plain; to = element.0; complete = element.1 })

followed_from : (structs : List CStruct) (at : At) (x v : CExpr) → IsWritten x → followed structs at x ≡ Ok v → OfUnary structs at unary.Dereference x v
unfolding followed
followed_from structs at x v written is = followed_by structs at x (decayed x) v (decayed_value x written) _ refl is

-- a condition that was tested
pub record OfTested (x v : CExpr) : Type 0 where
  pub becomes : Becomes x v
  pub condition : IsCondition v

pub tested_from : (line : ℕ) (x v : CExpr) → IsWritten x → tested line x ≡ Ok v → OfTested x v
unfolding tested
tested_from line x v written is =
    let passed = passes _ _ _ v is in
    let value = decayed_value x written in
    subst (λ e. OfTested x e) (same_ok (decayed x) v passed.1)
    (record { becomes = value.becomes; condition = record { plain = value.plain; scalar = not_false _ passed.0 } })

module _ (structs : List CStruct) (at : At) where
  signed_from : (op : UnaryOperator) → ((e : CExpr) (t : CType) → IsSigned e t → IsUnary structs op e t) → (x v : CExpr) → IsWritten x → signed at op x ≡ Ok v → OfUnary structs at op x v
  unfolding signed
  signed_from op fits x v written is =
      let passed = passes _ _ _ v is in
      let number = not_false (is_number (type_of x)) passed.0 in
      let p = promotes x x (flat_value x written (number_flat (type_of x) number)) number in
      one _ at (CForm.Unary op) x _ _ v passed.1 p.0 (fits _ _ (record { operand = p.1; result = sym (promoted_type x) }))

  pub unary_from : (op : UnaryOperator) (x v : CExpr) → IsWritten x → unary_rule structs at op x ≡ Ok v → OfUnary structs at op x v
  unary_from unary.Address x v written is = referred_from structs at x v is
  unary_from unary.Dereference x v written is = followed_from structs at x v written is
  unary_from unary.Plus x v written is = signed_from unary.Plus (λ e t h. h) x v written is
  unary_from unary.Minus x v written is = signed_from unary.Minus (λ e t h. h) x v written is
  unary_from unary.Complement x v written is = signed_from unary.Complement (λ e t h. h) x v written is
  unary_from unary.Not x v written is =
      let c = bound (tested at.line x) _ v is in
      let tested = tested_from at.line x c.0 written c.1 in
      one _ at (CForm.Unary unary.Not) x c.0 CType.Int v c.2 tested.becomes (tested.condition, refl)

  -- where `++` and `--` may be applied
  can_step : (t : CType) (line : ℕ) → kept_unless line (step_rule structs t) ≡ Ok tt → CanStep structs t
  can_step t line is = by (is_number t) (points_to_complete structs t) refl refl is
    where
      fails : (c : Bool) → kept_unless line (if c then Some 8 else Some 7) ≡ Ok tt → ⊥
      fails true h = cc
      fails false h = cc

      by : (a b : Bool) → is_number t ≡ a → points_to_complete structs t ≡ b → kept_unless line (if a || b then None else if is_pointer t then Some 8 else Some 7) ≡ Ok tt → CanStep structs t
      by true b number pointer h = CanStep.number number
      by false true number pointer h = CanStep.pointer (points structs t pointer)
      by false false number pointer h = absurd (fails (is_pointer t) h)

  steps_is : (x : CExpr) (u : Unit {0}) → steps structs at x ≡ Ok u → IsStepped structs x (type_of x)
  steps_is x tt is =
      let passed = passes _ _ _ tt is in
      let assignable = not_false (is_assignable x) passed.0 in
      record {
        assignable = record { place = and_left _ _ assignable; no_array = not_true (is_array (type_of x)) (and_right (is_place x) _ assignable) };
        steps = can_step (type_of x) at.line passed.1;
        result = refl;
      }

  pub step_before_from : (op : StepOperator) (x v : CExpr) → step_before_rule structs at op x ≡ Ok v → OfSame (IsStepped structs x) at (CForm.StepBefore op x) v
  step_before_from op x v is =
      let c = bound (steps structs at x) _ v is in
      stays _ at _ (type_of x) v c.2 (steps_is x c.0 c.1)

  pub step_after_from : (op : StepOperator) (x v : CExpr) → step_after_rule structs at op x ≡ Ok v → OfSame (IsStepped structs x) at (CForm.StepAfter op x) v
  step_after_from op x v is =
      let c = bound (steps structs at x) _ v is in
      stays _ at _ (type_of x) v c.2 (steps_is x c.0 c.1)

  pub measured_from : (x v : CExpr) → IsWritten x → measured_rule structs at x ≡ Ok v → OfSame (IsMeasured structs x) at (CForm.SizeofExpression x) v
  unfolding measured_rule
  measured_from x v written is =
      let passed = passes _ _ _ v is in
      stays _ at _ CType.Unsigned v passed.1 (record { written = written; complete = not_false _ passed.0; result = refl })

  pub measured_type_from : (t : CType) (v : CExpr) → measured_type structs at t ≡ Ok v → IsComplete structs t × (v ≡ CExpr.expr at CType.Unsigned (CForm.SizeofType t))
  unfolding measured_type
  measured_type_from t v is =
      let passed = passes _ _ _ v is in
      (not_false _ passed.0, sym (same_ok (CExpr.expr at CType.Unsigned (CForm.SizeofType t)) v passed.1))

  -- places

  indexed_by : (x i d v : CExpr) → IsValue x d → IsWritten i → (o : Option CType) → element_of structs (type_of d) ≡ o → indexed_at at d i o ≡ Ok v → OfTwo (IsElement structs) at CForm.Index x i v
  indexed_by x i d v value written None found is = absurd cc
  indexed_by x i d v value written (Some t) found is =
      let element = element_is structs (type_of d) t found in
      let passed = passes _ _ _ v is in
      let number = not_false (is_number (type_of i)) passed.0 in
      let p = promotes i i (flat_value i written (number_flat (type_of i) number)) number in
      record {
        first = d;
        second = as_promoted i;
        type = t;
        left = value.becomes;
        right = p.0;
        keeps = record { element = record { plain = value.plain; to = element.0; complete = element.1 }; distance = p.1 };
        is = sym (same_ok (CExpr.expr at t (CForm.Index d (as_promoted i))) v passed.1);
      }

  pub index_from : (x i v : CExpr) → IsWritten x → IsWritten i → index_rule structs at x i ≡ Ok v → OfTwo (IsElement structs) at CForm.Index x i v
  unfolding index_rule
  index_from x i v left right is = indexed_by x i (decayed x) v (decayed_value x left) right _ refl is

-- members

at_first : (i k : ℕ) → i ≡ k → k ≡ i + 0
at_first i k h = omega arith

named_at : (name : List ℕ) (ms : List CMember) (i k : ℕ) (t : CType) → member_named name i ms ≡ Some (k, t) → (j : ℕ) × (k ≡ i + j) × (member_type (slice_get ms j) ≡ Some t)
named_at name [] i k t is = absurd cc
named_at name (m ∷ ms) i k t is = by (pointwise nat_eq m.name name) (λ h. named_at name ms (suc i) k t h) is
  where
    past : (j : ℕ) × (k ≡ suc i + j) × (member_type (slice_get ms j) ≡ Some t) → (j : ℕ) × (k ≡ i + j) × (member_type (slice_get (m ∷ ms) j) ≡ Some t)
    past h = let place : k ≡ i + suc h.0 = let e = h.1 in omega arith in (suc h.0, place, h.2)

    by : (b : Bool) → (member_named name (suc i) ms ≡ Some (k, t) → (j : ℕ) × (k ≡ suc i + j) × (member_type (slice_get ms j) ≡ Some t))
        → (if b then Some (i, m.ty) else member_named name (suc i) ms) ≡ Some (k, t) → (j : ℕ) × (k ≡ i + j) × (member_type (slice_get (m ∷ ms) j) ≡ Some t)
    by true rest h =
        let pair : (i, m.ty) ≡ (k, t) = some_is (i, m.ty) (k, t) h in
        let at : i ≡ k = ap (λ p. p.0) pair in
        let type : m.ty ≡ t = ap (λ p. p.1) pair in
        (0, at_first i k at, ap Some type)
    by false rest h = past (rest h)

pub member_is : (structs : List CStruct) (struct : ℕ) (name : List ℕ) (k : ℕ) (t : CType) → IsNamed structs struct name k t → member_at structs struct k ≡ Some t
member_is structs struct name k t is =
    let h = named_at name (members_of (slice_get structs struct)) 0 k t is in
    let place : k ≡ h.0 = let e = h.1 in omega arith in
    rw place h.2

-- the struct that has a member
in_struct : (structs : List CStruct) (t : CType) (name : List ℕ) (k : ℕ) (u : CType) → member_in structs t name ≡ Some (k, u) → (struct : ℕ) × (t ≡ CType.Struct struct) × IsNamed structs struct name k u
in_struct structs (CType.Struct j) name k u is = (j, refl, is)
in_struct structs CType.Void name k u is = absurd cc
in_struct structs CType.Char name k u is = absurd cc
in_struct structs CType.Int name k u is = absurd cc
in_struct structs CType.Unsigned name k u is = absurd cc
in_struct structs (CType.Pointer t) name k u is = absurd cc
in_struct structs (CType.Array t n) name k u is = absurd cc

-- what `.` gives
pub record OfMember (structs : List CStruct) (at : At) (x : CExpr) (name : List ℕ) (v : CExpr) : Type 0 where
  pub member : ℕ
  pub type : CType
  pub keeps : IsMember structs x member type
  pub named : IsNamed structs keeps.struct name member type
  pub is : v ≡ CExpr.expr at type (CForm.Member x member)

member_by : (structs : List CStruct) (at : At) (x : CExpr) (name : List ℕ) (v : CExpr) (o : Option (ℕ × CType)) → member_in structs (type_of x) name ≡ o → member_at_place at x o ≡ Ok v → OfMember structs at x name v
member_by structs at x name v None found is = absurd cc
member_by structs at x name v (Some m) found is =
    let h = in_struct structs (type_of x) name m.0 m.1 found in
    record {
      member = m.0;
      type = m.1;
      keeps = record { struct = h.0; of = h.1; found = member_is structs h.0 name m.0 m.1 h.2 };
      named = h.2;
      is = sym (same_ok (CExpr.expr at m.1 (CForm.Member x m.0)) v is);
    }

pub member_from : (structs : List CStruct) (at : At) (x : CExpr) (name : List ℕ) (v : CExpr) → member_rule structs at x name ≡ Ok v → OfMember structs at x name v
unfolding member_rule
member_from structs at x name v is = member_by structs at x name v _ refl is

-- what `->` gives
pub record OfArrow (structs : List CStruct) (at : At) (x : CExpr) (name : List ℕ) (v : CExpr) : Type 0 where
  pub operand : CExpr
  pub member : ℕ
  pub type : CType
  pub becomes : Becomes x operand
  pub keeps : IsMemberBehind structs operand member type
  pub named : IsNamed structs keeps.struct name member type
  pub is : v ≡ CExpr.expr at type (CForm.Arrow operand member)

arrow_by : (structs : List CStruct) (at : At) (x d : CExpr) (name : List ℕ) (v : CExpr) (t : CType) (o : Option (ℕ × CType)) → IsValue x d → type_of d ≡ CType.Pointer t
    → member_in structs t name ≡ o → arrow_at at d o ≡ Ok v → OfArrow structs at x name v
arrow_by structs at x d name v t None value to found is = absurd cc
arrow_by structs at x d name v t (Some m) value to found is =
    let h = in_struct structs t name m.0 m.1 found in
    record {
      operand = d;
      member = m.0;
      type = m.1;
      becomes = value.becomes;
      keeps = record { plain = value.plain; struct = h.0; to = rw to (ap CType.Pointer h.1); found = member_is structs h.0 name m.0 m.1 h.2 };
      named = h.2;
      is = sym (same_ok (CExpr.expr at m.1 (CForm.Arrow d m.0)) v is);
    }

arrow_to_by : (structs : List CStruct) (at : At) (x d : CExpr) (name : List ℕ) (v : CExpr) (o : Option CType) → IsValue x d → element_of structs (type_of d) ≡ o → arrow_to structs at d name o ≡ Ok v → OfArrow structs at x name v
arrow_to_by structs at x d name v None value found is = absurd cc
arrow_to_by structs at x d name v (Some t) value found is = arrow_by structs at x d name v t _ value (element_is structs (type_of d) t found).0 refl is

pub arrow_from : (structs : List CStruct) (at : At) (x : CExpr) (name : List ℕ) (v : CExpr) → IsWritten x → arrow_rule structs at x name ≡ Ok v → OfArrow structs at x name v
unfolding arrow_rule
arrow_from structs at x name v written is = arrow_to_by structs at x (decayed x) name v _ (decayed_value x written) refl is
