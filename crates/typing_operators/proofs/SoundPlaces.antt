-- `[]`, `.`, `->` and assignments keep the rules of typing.
use Rattle.std.proofs.Common.{◌≡◌, ℕ, suc, ◌+◌, Bool, true, false, not, ◌&&◌, IsTrue, nat_eq, List, [], ◌∷◌, refl, sym, ap, ◌∙◌, subst, arith}
use Rattle.std.specs.Prelude.{All, Option, Some, None, Ok, Err, slice_get, if◌then◌else◌}
use Rattle.std.specs.Cmp.Lexicographic.{pointwise}
use Rattle.std.proofs.lemmas.Option.{slice_get_within, get_or_from_slice_get}
use Rattle.c_words.specs.declared.place.At.{At}
use Rattle.c_words.specs.declared.operators.AssignOperator.{AssignOperator}
use Rattle.c_words.specs.declared.operators.AssignOperator.TheVariants as assign
use Rattle.typing_operators.specs.declared.error.TypeError.TheVariants.{BadType}
use Rattle.typed_tree.specs.Types.{CType, same, is_number, is_struct, is_array, common, IsNumber}
use Rattle.typed_tree.specs.TypedTree.{CExpr, CForm, CMember, CStruct, type_of}
use Rattle.typed_tree.specs.Sizes.{IsType, member_type, members_of, member_at}
use Rattle.typed_tree.specs.TypedOperands.{is_place}
use Rattle.typed_tree.specs.TypedRules.{IsAssignable, IsSet, IsReckoned, IsChanged, IsShiftedIn, IsAssignment, IsCopied}
use Rattle.typed_tree.specs.TypedBody.{Environment, IsExpr}
use Rattle.typed_tree.specs.Typed.{IsStruct}
use Rattle.typing_operators.specs.Rule.{◌>>=◌}
use Rattle.typing_operators.specs.Conversions.{decayed, as_number, as_promoted, given, points_to_complete}
use Rattle.typing_operators.specs.Operators.{both_numbers, is_move, sum_rule, element_of, indexed_at, index_rule, member_named, member_in, member_at_place, member_rule, arrow_at, arrow_to, arrow_rule, is_assignable, copied_from, reckoned, shifted_in, changed, assigned_by, assign_rule}
use Rattle.typing_operators.specs.Sound.{IsOperand, Keeps, OperatorsAreSound}
use Rattle.typing_operators.proofs.Steps.{passes, bound, same_ok, not_false, and_left, and_right, some_is}
use Rattle.typing_operators.proofs.Converted.{same_is, IsValue, decayed_value, as_number_is, promotes, given_keeps}
use Rattle.typing_operators.proofs.SoundUnary.{formed_type, made, along, number_value, element_is, behind, points, unary_keeps, step_before_keeps, step_after_keeps, cast_keeps, measured_keeps, measured_type_keeps}
use Rattle.typing_operators.proofs.SoundBinary.{binary_keeps, conditional_keeps, comma_keeps}

indexed_by : (names : Environment) (at : At) (d i v : CExpr) → IsValue names d → IsOperand names i → (o : Option CType) → element_of names.structs (type_of d) ≡ o → indexed_at at d i o ≡ Ok v → IsOperand names v
indexed_by names at d i v value index None found is = absurd cc
indexed_by names at d i v value index (Some t) found is =
    let passed = passes _ _ _ v is in
    let number = not_false _ passed.0 in
    let element = element_is names.structs (type_of d) t found in
    let distance = promotes names i (number_value names i index number) number in
    along names _ v passed.1
    (made names at t (CForm.Index d (as_promoted i)) refl (behind names (type_of d) t element.0 (formed_type names d value.typed))
    (value.typed, distance.0, record { element = record { plain = value.plain; to = element.0; complete = element.1 }; distance = distance.1 }))

index_keeps : (names : Environment) (at : At) (x i : CExpr) → IsOperand names x → IsOperand names i → Keeps names (index_rule names.structs at x i)
unfolding index_rule
index_keeps names at x i operand index v is = indexed_by names at (decayed x) i v (decayed_value names x operand) index _ refl is

-- a member of the name stands in the list at its number
record StandsAt (ms : List CMember) (from : ℕ) (found : ℕ × CType) : Type 0 where
  place : ℕ
  number : found.0 ≡ from + place
  member : CMember
  stands : slice_get ms place ≡ Some member
  type : member.ty ≡ found.1

named : (name : List ℕ) (from : ℕ) (ms : List CMember) (found : ℕ × CType) → member_named name from ms ≡ Some found → StandsAt ms from found
named name from [] found is = absurd cc
named name from (m ∷ ms) found is = by (pointwise nat_eq m.name name) is (λ h. named name (suc from) ms found h)
  where
    here : (let f : ℕ × CType = (from, m.ty) in f) ≡ found → StandsAt (m ∷ ms) from found
    here same = record { place = 0; number = sym (ap (λ (f : ℕ × CType). f.0) same) ∙ from_zero; member = m; stands = refl; type = ap (λ (f : ℕ × CType). f.1) same }
      where
        from_zero : from ≡ from + 0
        from_zero = omega arith

    by : (b : Bool) → (if b then Some (from, m.ty) else member_named name (suc from) ms) ≡ Some found → (member_named name (suc from) ms ≡ Some found → StandsAt ms (suc from) found) → StandsAt (m ∷ ms) from found
    by true h later = here (some_is _ found h)
    by false h later =
        let there = later h in
        let number : found.0 ≡ suc from + there.place = there.number in
        record { place = suc there.place; number = omega arith; member = there.member; stands = there.stands; type = there.type }

-- a member of a type that has it
record HasMember (structs : List CStruct) (t : CType) (found : ℕ × CType) : Type 0 where
  struct : ℕ
  is : t ≡ CType.Struct struct
  at : member_at structs struct found.0 ≡ Some found.1
  formed : IsType structs found.1

module _ (structs : List CStruct) (all : All (IsStruct structs) structs) where
  in_struct : (k : ℕ) (o : Option CStruct) (name : List ℕ) (found : ℕ × CType) → slice_get structs k ≡ o → member_named name 0 (members_of o) ≡ Some found → HasMember structs (CType.Struct k) found
  in_struct k None name found o_is is = absurd cc
  in_struct k (Some s) name found o_is is =
      let there = named name 0 s.members found is in
      let place : found.0 ≡ there.place = there.number ∙ from_zero there.place in
      let is_struct : IsStruct structs s = subst (IsStruct structs) (get_or_from_slice_get structs k s s o_is) (all k s (slice_get_within structs k s o_is)) in
      let formed : IsType structs there.member.ty =
      subst (λ (m : CMember). IsType structs m.ty) (get_or_from_slice_get s.members there.place there.member there.member there.stands)
      (is_struct.types there.place there.member (slice_get_within s.members there.place there.member there.stands)) in
      record {
        struct = k;
        is = refl;
        at = ap (λ (o : Option CStruct). member_type (slice_get (members_of o) found.0)) o_is ∙ ap (λ i. member_type (slice_get s.members i)) place
            ∙ ap member_type there.stands ∙ ap Some there.type;
        formed = subst (λ t. IsType structs t) there.type formed;
      }
    where
      from_zero : (i : ℕ) → 0 + i ≡ i
      from_zero i = omega arith

  in_type : (t : CType) (name : List ℕ) (found : ℕ × CType) → member_in structs t name ≡ Some found → HasMember structs t found
  in_type (CType.Struct k) name found is = in_struct k (slice_get structs k) name found refl is
  in_type CType.Void name found is = absurd cc
  in_type CType.Char name found is = absurd cc
  in_type CType.Int name found is = absurd cc
  in_type CType.Unsigned name found is = absurd cc
  in_type (CType.Pointer t) name found is = absurd cc
  in_type (CType.Array t n) name found is = absurd cc

module _ (names : Environment) (all : All (IsStruct names.structs) names.structs) where
  member_by : (at : At) (x v : CExpr) (name : List ℕ) → IsOperand names x → (o : Option (ℕ × CType)) → member_in names.structs (type_of x) name ≡ o → member_at_place at x o ≡ Ok v → IsOperand names v
  member_by at x v name operand None found is = absurd cc
  member_by at x v name operand (Some m) found is =
      let has = in_type names.structs all (type_of x) name m found in
      along names _ v is
      (made names at m.1 (CForm.Member x m.0) refl has.formed (operand.typed, record { struct = has.struct; of = has.is; found = has.at }))

  member_keeps : (at : At) (x : CExpr) (name : List ℕ) → IsOperand names x → Keeps names (member_rule names.structs at x name)
  unfolding member_rule
  member_keeps at x name operand v is = member_by at x v name operand _ refl is

  arrow_found : (at : At) (d v : CExpr) (t : CType) (name : List ℕ) → IsValue names d → type_of d ≡ CType.Pointer t → (o : Option (ℕ × CType)) → member_in names.structs t name ≡ o → arrow_at at d o ≡ Ok v → IsOperand names v
  arrow_found at d v t name value to None found is = absurd cc
  arrow_found at d v t name value to (Some m) found is =
      let has = in_type names.structs all t name m found in
      along names _ v is
      (made names at m.1 (CForm.Arrow d m.0) refl has.formed
      (value.typed, record { plain = value.plain; struct = has.struct; to = to ∙ ap CType.Pointer has.is; found = has.at }))

  arrow_by : (at : At) (d v : CExpr) (name : List ℕ) → IsValue names d → (o : Option CType) → element_of names.structs (type_of d) ≡ o → arrow_to names.structs at d name o ≡ Ok v → IsOperand names v
  arrow_by at d v name value None found is = absurd cc
  arrow_by at d v name value (Some t) found is = arrow_found at d v t name value (element_is names.structs (type_of d) t found).0 _ refl is

  arrow_keeps : (at : At) (x : CExpr) (name : List ℕ) → IsOperand names x → Keeps names (arrow_rule names.structs at x name)
  unfolding arrow_rule
  arrow_keeps at x name operand v is = arrow_by at (decayed x) v name (decayed_value names x operand) _ refl is

not_true : (b : Bool) → not b ≡ true → b ≡ false
not_true true h = cc
not_true false h = refl

assignable : (x : CExpr) → is_assignable x ≡ true → IsAssignable x
assignable x is = record { place = and_left _ _ is; no_array = not_true (is_array (type_of x)) (and_right (is_place x) _ is) }

copied_is : (line : ℕ) (t : CType) (y v : CExpr) → copied_from line t y ≡ Ok v → (y ≡ v) × IsTrue (is_place y) × (type_of y ≡ t)
unfolding copied_from
copied_is line t y v is =
    let used = passes _ _ _ v is in
    let passed = passes _ _ _ v used.1 in
    let both : is_place y && same (type_of y) t ≡ true = not_false _ passed.0 in
    (same_ok y v passed.1, and_left _ _ both, same_is (type_of y) t (and_right (is_place y) _ both))

undecayed : (x : CExpr) → is_array (type_of x) ≡ false → decayed x ≡ x
unfolding decayed
undecayed (CExpr.expr at CType.Void form) h = refl
undecayed (CExpr.expr at CType.Char form) h = refl
undecayed (CExpr.expr at CType.Int form) h = refl
undecayed (CExpr.expr at CType.Unsigned form) h = refl
undecayed (CExpr.expr at (CType.Struct k) form) h = refl
undecayed (CExpr.expr at (CType.Pointer t) form) h = refl
undecayed (CExpr.expr at (CType.Array t n) form) h = absurd cc

module _ (names : Environment) where
  set_by : (at : At) (x y v : CExpr) → IsOperand names x → IsOperand names y → is_assignable x ≡ true → (b : Bool) → is_struct (type_of x) ≡ b
      → (if b then (copied_from at.line (type_of x) y >>= λ v. Ok (CExpr.expr at CType.Void (CForm.Assign assign.Assign x v)))
      else (given at.line (type_of x) y >>= λ v. Ok (CExpr.expr at (type_of x) (CForm.Assign assign.Assign x v)))) ≡ Ok v → IsOperand names v
  set_by at x y v left right place true struct is =
      let c = bound (copied_from at.line (type_of x) y) _ v is in
      let copied = copied_is at.line (type_of x) y c.0 c.1 in
      let right_typed : IsExpr names c.0 = subst (λ e. IsExpr names e) copied.0 right.typed in
      along names _ v c.2
      (made names at CType.Void (CForm.Assign assign.Assign x c.0) refl tt (
        left.typed,
        right_typed,
        IsSet.struct (assignable x place) (subst (λ e. IsCopied (type_of x) e) copied.0 (record { struct = struct; place = copied.1; same_struct = copied.2 })) refl,
      ))
  set_by at x y v left right place false struct is =
      let c = bound (given at.line (type_of x) y) _ v is in
      let gave = given_keeps names at.line (type_of x) y (formed_type names x left.typed) right c.0 c.1 in
      along names _ v c.2
      (made names at (type_of x) (CForm.Assign assign.Assign x c.0) refl (formed_type names x left.typed)
      (left.typed, gave.0, IsSet.scalar (assignable x place) gave.1 refl))

  -- the right side of an assignment of numbers, in their common type
  reckons : (x y : CExpr) → IsOperand names x → IsValue names y → is_assignable x ≡ true → both_numbers x y ≡ true
      → IsExpr names (as_number (common (type_of x) (type_of y)) y) × IsReckoned x (as_number (common (type_of x) (type_of y)) y) (type_of x)
  reckons x y left right place both =
      let right_number : IsNumber (type_of y) = and_right (is_number (type_of x)) _ both in
      let b = as_number_is names (common (type_of x) (type_of y)) y right right_number (common_is (type_of x) (type_of y)) in (
        b.typed,
        record {
          assignable = assignable x place;
          left_number = and_left _ _ both;
          right_number = rw b.own right_number;
          right = b.has ∙ ap (common (type_of x)) (sym b.own);
          result = refl;
        },
      )
    where
      common_is : (t u : CType) → IsNumber (common t u)
      common_is t u = by _
        where
          by : (b : Bool) → IsNumber (if b then CType.Unsigned else CType.Int)
          by true = refl
          by false = refl

  reckoned_keeps : (at : At) (op : AssignOperator) (x y v : CExpr) → IsOperand names x → IsValue names y → is_assignable x ≡ true
      → ((b : CExpr) → IsReckoned x b (type_of x) → IsAssignment names.structs op x b (type_of x)) → reckoned at op x y ≡ Ok v → IsOperand names v
  unfolding reckoned
  reckoned_keeps at op x y v left right place fits is =
      let passed = passes _ _ _ v is in
      let b = reckons x y left right place (not_false (both_numbers x y) passed.0) in
      along names _ v passed.1 (made names at (type_of x) (CForm.Assign op x (as_number (common (type_of x) (type_of y)) y)) refl (formed_type names x left.typed) (left.typed, b.0, fits _ b.1))

  shifted_in_keeps : (at : At) (op : AssignOperator) (x y v : CExpr) → IsOperand names x → IsValue names y → is_assignable x ≡ true
      → ((b : CExpr) → IsShiftedIn x b (type_of x) → IsAssignment names.structs op x b (type_of x)) → shifted_in at op x y ≡ Ok v → IsOperand names v
  unfolding shifted_in
  shifted_in_keeps at op x y v left right place fits is =
      let passed = passes _ _ _ v is in
      let both : both_numbers x y ≡ true = not_false _ passed.0 in
      let b = promotes names y right (and_right (is_number (type_of x)) _ both) in
      along names _ v passed.1
      (made names at (type_of x) (CForm.Assign op x (as_promoted y)) refl (formed_type names x left.typed)
      (left.typed, b.0, fits _ (record { assignable = assignable x place; left_number = and_left _ _ both; right = b.1; result = refl })))

  changed_by : (at : At) (op : AssignOperator) (x y v : CExpr) → IsOperand names x → IsValue names x → IsValue names y → is_assignable x ≡ true
      → ((b : CExpr) → IsChanged names.structs x b (type_of x) → IsAssignment names.structs op x b (type_of x)) → (n m : Bool)
      → both_numbers x y ≡ n → is_move names.structs x y ≡ m
      → (if n then Ok (CExpr.expr at (type_of x) (CForm.Assign op x (as_number (common (type_of x) (type_of y)) y)))
      else if m then Ok (CExpr.expr at (type_of x) (CForm.Assign op x (as_promoted y)))
      else Err (BadType at.line (sum_rule x y))) ≡ Ok v → IsOperand names v
  changed_by at op x y v left value right place fits true m n_is m_is is =
      let b = reckons x y left right place n_is in
      along names _ v is (made names at _ _ refl (formed_type names x left.typed) (left.typed, b.0, fits _ (IsChanged.numbers b.1)))
  changed_by at op x y v left value right place fits false true n_is m_is is =
      let b = promotes names y right (and_right (points_to_complete names.structs (type_of x)) _ m_is) in
      along names _ v is
      (made names at _ _ refl (formed_type names x left.typed) (
        left.typed,
        b.0,
        fits _ (IsChanged.pointer_and_number (assignable x place)
            (record { plain = value.plain; complete = points names.structs (type_of x) (and_left _ _ m_is); distance = b.1; result = refl })),
      ))
  changed_by at op x y v left value right place fits false false n_is m_is is = absurd cc

  -- what can be assigned to is a value as it is
  place_value : (x : CExpr) → IsOperand names x → is_assignable x ≡ true → IsValue names x
  place_value x operand place = subst (λ e. IsValue names e) (undecayed x (assignable x place).no_array) (decayed_value names x operand)

  changed_keeps : (at : At) (op : AssignOperator) (x y v : CExpr) → IsOperand names x → IsValue names y → is_assignable x ≡ true
      → ((b : CExpr) → IsChanged names.structs x b (type_of x) → IsAssignment names.structs op x b (type_of x)) → changed names.structs at op x y ≡ Ok v → IsOperand names v
  unfolding changed
  changed_keeps at op x y v left right place fits is = changed_by at op x y v left (place_value x left place) right place fits _ _ refl refl is

  by_operator : (at : At) (op : AssignOperator) (x y v : CExpr) → IsOperand names x → IsOperand names y → is_assignable x ≡ true → assigned_by names.structs at op x y ≡ Ok v → IsOperand names v
  by_operator at assign.Assign x y v left right place is = set_by at x y v left right place _ refl is
  by_operator at assign.Multiply x y v left right place is = reckoned_keeps at _ x _ v left (decayed_value names y right) place (λ b h. h) is
  by_operator at assign.Divide x y v left right place is = reckoned_keeps at _ x _ v left (decayed_value names y right) place (λ b h. h) is
  by_operator at assign.Remainder x y v left right place is = reckoned_keeps at _ x _ v left (decayed_value names y right) place (λ b h. h) is
  by_operator at assign.BitAnd x y v left right place is = reckoned_keeps at _ x _ v left (decayed_value names y right) place (λ b h. h) is
  by_operator at assign.BitXor x y v left right place is = reckoned_keeps at _ x _ v left (decayed_value names y right) place (λ b h. h) is
  by_operator at assign.BitOr x y v left right place is = reckoned_keeps at _ x _ v left (decayed_value names y right) place (λ b h. h) is
  by_operator at assign.Add x y v left right place is = changed_keeps at _ x _ v left (decayed_value names y right) place (λ b h. h) is
  by_operator at assign.Subtract x y v left right place is = changed_keeps at _ x _ v left (decayed_value names y right) place (λ b h. h) is
  by_operator at assign.ShiftLeft x y v left right place is = shifted_in_keeps at _ x _ v left (decayed_value names y right) place (λ b h. h) is
  by_operator at assign.ShiftRight x y v left right place is = shifted_in_keeps at _ x _ v left (decayed_value names y right) place (λ b h. h) is

  assign_keeps : (at : At) (op : AssignOperator) (x y : CExpr) → IsOperand names x → IsOperand names y → Keeps names (assign_rule names.structs at op x y)
  unfolding assign_rule
  assign_keeps at op x y left right v is =
      let passed = passes _ _ _ v is in by_operator at op x y v left right (not_false (is_assignable x) passed.0) passed.1

pub operators_are_sound : OperatorsAreSound
operators_are_sound names all = record {
  unary = unary_keeps names;
  binary = binary_keeps names;
  step_before = step_before_keeps names;
  step_after = step_after_keeps names;
  conditional = conditional_keeps names;
  comma = comma_keeps names;
  cast = cast_keeps names;
  index = index_keeps names;
  member = member_keeps names all;
  arrow = arrow_keeps names all;
  measured = measured_keeps names;
  measured_type = measured_type_keeps names;
  assign = assign_keeps names;
  given = given_keeps names;
}
