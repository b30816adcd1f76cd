-- Initializers keep the rules of typing.
use Rattle.std.proofs.Common.{◌≡◌, ℕ, suc, ◌≤◌, Bool, true, false, ◌&&◌, ◌||◌, ◌==◌, ◌⊎◌, inl, inr, List, [], ◌∷◌, ◌++◌, length, refl, sym, ◌∙◌, ap, subst, arith}
use Rattle.std.specs.Prelude.{Ok, Err, Option, Some, None, slice_get, nat_lt, if◌then◌else◌}
use Rattle.std.proofs.lemmas.Bool.Decides.{nat_tests}
use Rattle.c_words.specs.declared.place.At.{At}
use Rattle.syntax_tree.specs.Syntax.{ExpressionTree, InitializerTree, InitializerTrees}
use Rattle.typed_tree.specs.Types.{CType, same, is_array, is_struct}
use Rattle.typed_tree.specs.TypedTree.{CExpr, CInitial, CMember, CStruct, type_of}
use Rattle.typed_tree.specs.TypedViews.{initials as listed}
use Rattle.typed_tree.specs.Sizes.{IsType, member_type, members_of}
use Rattle.typed_tree.specs.TypedOperands.{is_place}
use Rattle.typed_tree.specs.TypedRules.{part_type}
use Rattle.typed_tree.specs.TypedBody.{Environment, IsBytes, IsInitial, AreInitials, IsInitialized}
use Rattle.typed_tree.specs.Typed.{IsStruct}
use Rattle.typing_operators.specs.declared.error.TypeError.TheVariants.{BadType}
use Rattle.typing_operators.specs.Rule.{Rule, ◌>>=◌}
use Rattle.typing_operators.specs.Conversions.{decayed, given, is_void}
use Rattle.typing_operators.specs.Operators.{copied_from}
use Rattle.typing_operators.specs.Sound.{IsOperand, OperatorsAreSound}
use Rattle.typing_expressions.specs.Scene.{CScene}
use Rattle.typing_expressions.specs.Expressions.{typed, joined}
use Rattle.typing_expressions.specs.Initializers.{allowed, all_looked_at, string_of, room_of, aggregate_from, value_from, part_from, part_or_excess, initial, initials, copied, struct_copied, initialized}
use Rattle.syntax_in_range.specs.InRange.{ExpressionInRange, InitializerInRange, InitializersInRange}
use Rattle.typing_unit_keeps.proofs.Scenes.{at_structs, AreStructs, GrowsWithin, Formed, Fits}
use Rattle.typing_unit_keeps.proofs.Steps.{passes, bound, chosen, same_ok, not_false, not_less, All-slice_get}
use Rattle.typing_unit_keeps.proofs.Growth.{within_same, within_then, kept, joined_bytes}
use Rattle.typing_unit_keeps.proofs.TypedGrows.{typed_grows}
use Rattle.typing_unit_keeps.proofs.Later.{tags_extend, type_later, part_later}
use Rattle.typing_unit_keeps.proofs.LaterStructs.{formed_on, fits_back}
use Rattle.typing_unit_keeps.proofs.LaterStatements.{initials_later}
use Rattle.typing_unit_keeps.proofs.Operands.{keeps}
use Rattle.typing_unit_keeps.proofs.TypedSound.{typed_is}

and_left : (a b : Bool) → a && b ≡ true → a ≡ true
and_left true b h = refl
and_left false b h = h

and_right : (a b : Bool) → a && b ≡ true → b ≡ true
and_right true b h = h
and_right false b h = absurd cc

pub same_is : (t u : CType) → same t u ≡ true → t ≡ u
same_is CType.Void CType.Void h = refl
same_is CType.Char CType.Char h = refl
same_is CType.Int CType.Int h = refl
same_is CType.Unsigned CType.Unsigned h = refl
same_is (CType.Struct j) (CType.Struct k) h = let equal : j ≡ k = grind (arith, nat_tests, h) in ap CType.Struct equal
same_is (CType.Pointer a) (CType.Pointer b) h = ap CType.Pointer (same_is a b h)
same_is (CType.Array a m) (CType.Array b n) h =
    let element : a ≡ b = same_is a b (and_right (m == n) (same a b) h) in
    let left : m == n ≡ true = and_left (m == n) (same a b) h in
    let count : m ≡ n = grind (arith, nat_tests, left) in cc
same_is _ _ h = absurd cc

-- the type of a part

member_is : (structs : List CStruct) (o : Option CStruct) (k m : ℕ) (u : CType) → AreStructs structs → slice_get structs k ≡ o → member_type (slice_get (members_of o) m) ≡ Some u → IsType structs u
member_is structs None k m u are is h = absurd cc
member_is structs (Some s) k m u are is h = by (slice_get s.members m) refl h
  where
    by : (o : Option CMember) → slice_get s.members m ≡ o → member_type o ≡ Some u → IsType structs u
    by None found h = absurd cc
    by (Some x) found h =
        let equal : x.ty ≡ u = cc in
        subst (IsType structs) equal (All-slice_get (λ (m : CMember). IsType structs m.ty) s.members m x (All-slice_get (IsStruct structs) structs k s are is).types found)

element_is : (structs : List CStruct) (b : Bool) (t u : CType) → IsType structs t → (if b then Some t else None) ≡ Some u → IsType structs u
element_is structs true t u is h = let equal : t ≡ u = cc in subst (IsType structs) equal is
element_is structs false t u is h = absurd cc

pub part_is : (structs : List CStruct) (t : CType) (i : ℕ) (u : CType) → AreStructs structs → IsType structs t → part_type structs t i ≡ Some u → IsType structs u
part_is structs CType.Void i u are is h = absurd cc
part_is structs CType.Char i u are is h = absurd cc
part_is structs CType.Int i u are is h = absurd cc
part_is structs CType.Unsigned i u are is h = absurd cc
part_is structs (CType.Struct k) i u are is h = member_is structs (slice_get structs k) k i u are refl h
part_is structs (CType.Pointer t) i u are is h = absurd cc
part_is structs (CType.Array t n) i u are is h = element_is structs (nat_lt i n) t u is.0 h

-- what a part of a rule says that gave something

abbrev Typed : Type 0
Typed = CInitial × CScene

record IsPart (o : Option CType) (part : CType → Rule Typed) (rest : CInitial → CScene → Rule (List CInitial × CScene)) (r : List CInitial × CScene) : Type 0 where
  type : CType
  is : o ≡ Some type
  first : Typed
  first_is : part type ≡ Ok first
  rest_is : rest first.0 first.1 ≡ Ok r

by_part : (o : Option CType) (part : CType → Rule Typed) (rest : CInitial → CScene → Rule (List CInitial × CScene)) (excess : Rule CScene) (line : ℕ) (r : List CInitial × CScene)
    → part_or_excess o part rest excess line ≡ Ok r → IsPart o part rest r
by_part None part rest excess line r h = let x = bound excess _ r h in absurd (refused r x.2)
  where
    refused : (r : List CInitial × CScene) → (let q : Rule (List CInitial × CScene) = Err (BadType line 20) in q) ≡ Ok r → ⊥
    refused r h = cc
by_part (Some u) part rest excess line r h =
    let y = bound (part u) _ r h in
    record { type = u; is = refl; first = y.0; first_is = y.1; rest_is = y.2 }

no_aggregate : (line : ℕ) (x : CExpr × CScene) (r : Typed) → aggregate_from line x ≡ Ok r → ⊥
no_aggregate line x r h = refused (passes (is_void (type_of x.0)) (BadType line 19) (Err (BadType line 20)) r h).1
  where
    refused : (let q : Rule Typed = Err (BadType line 20) in q) ≡ Ok r → ⊥
    refused h = cc

no_parts : (rule : Rule CScene) (line : ℕ) (r : Typed) → (rule >>= λ u. let q : Rule Typed = Err (BadType line 20) in q) ≡ Ok r → ⊥
no_parts rule line r h = let x = bound rule _ r h in refused x.2
  where
    refused : (let q : Rule Typed = Err (BadType line 20) in q) ≡ Ok r → ⊥
    refused h = cc

-- a value, and the rule that gave it
record IsValue (t : CType) (line : ℕ) (x : CExpr × CScene) (r : Typed) : Type 0 where
  value : CExpr
  given_is : given line t x.0 ≡ Ok value
  is : (CInitial.Value value, x.1) ≡ r

value_is : (is_global : Bool) (line : ℕ) (t : CType) (x : CExpr × CScene) (r : Typed) → value_from is_global line t x ≡ Ok r → IsValue t line x r
value_is is_global line t x r h =
    let v = bound (given line t x.0) _ r h in
    let w = bound (allowed is_global x.1.structs line v.0) _ r v.2 in
    let same : v.0 ≡ w.0 = same_ok v.0 w.0 (passes _ _ _ w.0 w.1).1 in
    record { value = v.0; given_is = v.1; is = ap (λ (e : CExpr). (CInitial.Value e, x.1)) same ∙ same_ok (CInitial.Value w.0, x.1) r w.2 }

-- a string for an array of char
record IsTextOf (t : CType) (text : At × List ℕ) : Type 0 where
  count : ℕ
  array : t ≡ CType.Array CType.Char count
  bytes : IsBytes text.1

text_of : (t : CType) (e : ExpressionTree) (text : At × List ℕ) → ExpressionInRange e → string_of t e ≡ Some text → IsTextOf t text
text_of (CType.Array CType.Char n) (ExpressionTree.Text at pieces) text range h =
    let same : (at, joined pieces) ≡ text = some_is _ _ h in
    record { count = n; array = refl; bytes = subst (λ (x : At × List ℕ). IsBytes x.1) same (joined_bytes pieces range.1) }
  where
    some_is : (x y : At × List ℕ) → Some x ≡ Some y → x ≡ y
    some_is x y h = cc
text_of t e text range h = absurd cc

-- the scene

part_grows : (is_global : Bool) (s : CScene) (line : ℕ) (t : CType) (e : ExpressionTree) (o : Option (At × List ℕ)) → ExpressionInRange e → (r : Typed)
    → part_from is_global s line t e o ≡ Ok r → GrowsWithin s r.1
part_grows is_global s line t e (Some text) range r h = kept s s (CInitial.Text text.0 text.1) r (within_same s) (passes _ _ _ r h).1
part_grows is_global s line t e None range r h =
    let x = bound (typed s e) _ r h in
    by x.0 (typed_grows s e range x.0 x.1) (chosen _ _ _ r x.2)
  where
    by : (x : CExpr × CScene) → GrowsWithin s x.1 → ((is_array t || is_struct t ≡ true) × (aggregate_from line x ≡ Ok r)) ⊎ ((is_array t || is_struct t ≡ false) × (value_from is_global line t x ≡ Ok r)) → GrowsWithin s r.1
    by x grows (inl h) = absurd (no_aggregate line x r h.1)
    by x grows (inr h) = subst (λ (q : Typed). GrowsWithin s q.1) (value_is is_global line t x r h.1).is grows

mutual
  pub initial_grows : (is_global : Bool) (s : CScene) (line : ℕ) (t : CType) (i : InitializerTree) → InitializerInRange i → (r : Typed) → initial is_global s line t i ≡ Ok r → GrowsWithin s r.1
  initial_grows is_global s line t (InitializerTree.Expression e) range r h = part_grows is_global s line t e (string_of t e) range r h
  initial_grows is_global s line t (InitializerTree.Braced at parts) range r h = by (λ x. initials_grow is_global [] s line t 0 parts range.2 x) (chosen _ _ _ r h)
    where
      by : ((x : List CInitial × CScene) → initials is_global [] s line t 0 parts ≡ Ok x → GrowsWithin s x.1)
          → ((is_array t || is_struct t ≡ true) × ((initials is_global [] s line t 0 parts >>= λ x. Ok (CInitial.Braces at (listed x.0), x.1)) ≡ Ok r))
          ⊎ ((is_array t || is_struct t ≡ false) × ((all_looked_at s line parts >>= λ u. Err (BadType line 20)) ≡ Ok r))
          → GrowsWithin s r.1
      by grow (inl h) = let x = bound (initials is_global [] s line t 0 parts) _ r h.1 in kept s x.0.1 _ r (grow x.0 x.1) x.2
      by grow (inr h) = absurd (no_parts (all_looked_at s line parts) line r h.1)

  pub initials_grow : (is_global : Bool) (vs : List CInitial) (s : CScene) (line : ℕ) (t : CType) (i : ℕ) (xs : InitializerTrees) → InitializersInRange xs → (r : List CInitial × CScene)
      → initials is_global vs s line t i xs ≡ Ok r → GrowsWithin s r.1
  initials_grow is_global vs s line t i InitializerTrees.none range r h = kept s s vs r (within_same s) h
  initials_grow is_global vs s line t i (InitializerTrees.more x xs) range r h =
      let p = by_part (part_type s.structs t i) (λ u. initial is_global s line u x) (λ v u. initials is_global (vs ++ v ∷ []) u line t (suc i) xs) _ line r h in
      within_then s p.first.1 r.1 (initial_grows is_global s line p.type x range.0 p.first p.first_is) (initials_grow is_global (vs ++ p.first.0 ∷ []) p.first.1 line t (suc i) xs range.1 r p.rest_is)

-- the place behind these parts
abbrev place_after : ℕ → List CInitial → ℕ
place_after i [] = i
place_after i (v ∷ vs) = place_after (suc i) vs

one_after : (i : ℕ) (vs : List CInitial) (v : CInitial) → place_after i (vs ++ v ∷ []) ≡ suc (place_after i vs)
one_after i [] v = refl
one_after i (x ∷ vs) v = one_after (suc i) vs v

-- a part of its type
abbrev IsPartAt : Environment → CType → ℕ → CInitial → Type 0
IsPartAt names t i x = (u : CType) × (part_type names.structs t i ≡ Some u) × IsInitial names u x

one_behind : (names : Environment) (t : CType) (i : ℕ) (vs : List CInitial) (v : CInitial) → AreInitials names t i (listed vs) → IsPartAt names t (place_after i vs) v
    → AreInitials names t i (listed (vs ++ v ∷ []))
one_behind names t i [] v are is = (is, tt)
one_behind names t i (x ∷ vs) v are is = (are.0, one_behind names t (suc i) vs v are.1 is)

-- a copied struct

record IsCopyOf (t : CType) (x : CExpr × CScene) (r : Typed) : Type 0 where
  place : is_place x.0 ≡ true
  same_type : type_of x.0 ≡ t
  is : (CInitial.Value x.0, x.1) ≡ r

copied_from_is : (line : ℕ) (t : CType) (y v : CExpr) → copied_from line t y ≡ Ok v → (is_place y ≡ true) × (type_of y ≡ t) × (y ≡ v)
unfolding copied_from
copied_from_is line t y v h =
    let place = passes _ _ _ v (passes _ _ _ v h).1 in
    let both : is_place y && same (type_of y) t ≡ true = not_false _ place.0 in
    (and_left _ _ both, same_is (type_of y) t (and_right (is_place y) _ both), same_ok y v place.1)

copied_is : (is_global : Bool) (line : ℕ) (t : CType) (x : CExpr × CScene) (r : Typed) → copied is_global line t x ≡ Ok r → IsCopyOf t x r
copied_is is_global line t x r h =
    let v = bound (allowed is_global x.1.structs line (decayed x.0)) _ r (passes _ _ _ r h).1 in
    let w = bound (copied_from line t x.0) _ r v.2 in
    let from = copied_from_is line t x.0 w.0 w.1 in
    record { place = from.0; same_type = from.1; is = ap (λ (e : CExpr). (CInitial.Value e, x.1)) from.2 ∙ same_ok (CInitial.Value w.0, x.1) r w.2 }

struct_grows : (is_global : Bool) (s : CScene) (line : ℕ) (t : CType) (i : InitializerTree) → InitializerInRange i → (r : Typed) → struct_copied is_global s line t i ≡ Ok r → GrowsWithin s r.1
struct_grows is_global s line t (InitializerTree.Expression e) range r h =
    let x = bound (typed s e) _ r h in
    subst (λ (q : Typed). GrowsWithin s q.1) (copied_is is_global line t x.0 r x.2).is (typed_grows s e range x.0 x.1)
struct_grows is_global s line t (InitializerTree.Braced at parts) range r h = initial_grows is_global s line t (InitializerTree.Braced at parts) range r h

pub initialized_grows : (is_global : Bool) (s : CScene) (line : ℕ) (t : CType) (i : InitializerTree) → InitializerInRange i → (r : Typed) → initialized is_global s line t i ≡ Ok r → GrowsWithin s r.1
initialized_grows is_global s line t i range r h = by (chosen _ _ _ r h)
  where
    by : ((is_struct t ≡ true) × (struct_copied is_global s line t i ≡ Ok r)) ⊎ ((is_struct t ≡ false) × (initial is_global s line t i ≡ Ok r)) → GrowsWithin s r.1
    by (inl h) = struct_grows is_global s line t i range r h.1
    by (inr h) = initial_grows is_global s line t i range r h.1

module _ (sound : OperatorsAreSound) (names : Environment) where
  -- what was typed is an initializer of the type
  abbrev IsSoundFor : CType → Typed → Type 0
  IsSoundFor t r = Fits names r.1 → IsInitial (at_structs names r.1.structs) t r.0

  part_sound : (is_global : Bool) (s : CScene) (line : ℕ) (t : CType) (e : ExpressionTree) (o : Option (At × List ℕ)) → string_of t e ≡ o → ExpressionInRange e → Formed s → IsType s.structs t → (r : Typed)
      → part_from is_global s line t e o ≡ Ok r → IsSoundFor t r
  part_sound is_global s line t e (Some text) is range formed type r h =
      let text_is = text_of t e text range is in
      let passed = passes _ _ _ r h in
      let room : length text.1 ≤ room_of t = not_less _ _ passed.0 in
      subst (IsSoundFor t) (same_ok (CInitial.Text text.0 text.1, s) r passed.1)
      (λ fits. (text_is.bytes, record { count = text_is.count; array = text_is.array; room = subst (λ (u : CType). length text.1 ≤ room_of u) text_is.array room }))
  part_sound is_global s line t e None is range formed type r h =
      let x = bound (typed s e) _ r h in
      by x.0 (typed_grows s e range x.0 x.1) (typed_is sound names s e range formed x.0 x.1) (chosen _ _ _ r x.2)
    where
      by : (x : CExpr × CScene) → GrowsWithin s x.1 → (Fits names x.1 → IsOperand (at_structs names x.1.structs) x.0)
          → ((is_array t || is_struct t ≡ true) × (aggregate_from line x ≡ Ok r)) ⊎ ((is_array t || is_struct t ≡ false) × (value_from is_global line t x ≡ Ok r)) → IsSoundFor t r
      by x grows operand (inl h) = absurd (no_aggregate line x r h.1)
      by x grows operand (inr h) =
          let value = value_is is_global line t x r h.1 in
          let later = type_later s.structs x.1.structs (tags_extend s.structs x.1.structs grows.grows.structs) t type in
          subst (IsSoundFor t) value.is (λ fits. (keeps sound names x.1 (formed_on s x.1 grows formed)).given line t x.0 later (operand fits) value.value value.given_is)

  mutual
    pub initial_is : (is_global : Bool) (s : CScene) (line : ℕ) (t : CType) (i : InitializerTree) → InitializerInRange i → Formed s → IsType s.structs t → (r : Typed)
        → initial is_global s line t i ≡ Ok r → IsSoundFor t r
    initial_is is_global s line t (InitializerTree.Expression e) range formed type r h = part_sound is_global s line t e (string_of t e) refl range formed type r h
    initial_is is_global s line t (InitializerTree.Braced at parts) range formed type r h =
        by (λ x h. initials_are is_global [] s line t 0 parts range.2 formed type refl x h (λ fits. tt)) (chosen _ _ _ r h)
      where
        by : ((x : List CInitial × CScene) → initials is_global [] s line t 0 parts ≡ Ok x → Fits names x.1 → AreInitials (at_structs names x.1.structs) t 0 (listed x.0))
            → ((is_array t || is_struct t ≡ true) × ((initials is_global [] s line t 0 parts >>= λ x. Ok (CInitial.Braces at (listed x.0), x.1)) ≡ Ok r))
            ⊎ ((is_array t || is_struct t ≡ false) × ((all_looked_at s line parts >>= λ u. Err (BadType line 20)) ≡ Ok r))
            → IsSoundFor t r
        by are (inl h) =
            let x = bound (initials is_global [] s line t 0 parts) _ r h.1 in
            subst (IsSoundFor t) (same_ok _ r x.2) (λ fits. (h.0, are x.0 x.1 fits))
        by are (inr h) = absurd (no_parts (all_looked_at s line parts) line r h.1)

    pub initials_are : (is_global : Bool) (vs : List CInitial) (s : CScene) (line : ℕ) (t : CType) (i : ℕ) (xs : InitializerTrees) → InitializersInRange xs → Formed s → IsType s.structs t
        → place_after 0 vs ≡ i → (r : List CInitial × CScene) → initials is_global vs s line t i xs ≡ Ok r
        → (Fits names s → AreInitials (at_structs names s.structs) t 0 (listed vs)) → Fits names r.1 → AreInitials (at_structs names r.1.structs) t 0 (listed r.0)
    initials_are is_global vs s line t i InitializerTrees.none range formed type place r h before fits =
        subst (λ (q : List CInitial × CScene). Fits names q.1 → AreInitials (at_structs names q.1.structs) t 0 (listed q.0)) (same_ok (vs, s) r h) before fits
    initials_are is_global vs s line t i (InitializerTrees.more x xs) range formed type place r h before fits =
        let p = by_part (part_type s.structs t i) (λ u. initial is_global s line u x) (λ v u. initials is_global (vs ++ v ∷ []) u line t (suc i) xs) _ line r h in
        let u = p.first.1 in
        let grows = initial_grows is_global s line p.type x range.0 p.first p.first_is in
        let later = tags_extend s.structs u.structs grows.grows.structs in
        let part = part_is s.structs t i p.type formed.structs type p.is in
        initials_are is_global (vs ++ p.first.0 ∷ []) u line t (suc i) xs range.1 (formed_on s u grows formed) (type_later s.structs u.structs later t type) (one_after 0 vs p.first.0 ∙ ap suc place) r p.rest_is
        (λ now. one_behind (at_structs names u.structs) t 0 vs p.first.0
        (initials_later s.structs u.structs later names t 0 (listed vs) (before (fits_back names s u grows now))) (
          p.type,
          subst (λ n. part_type u.structs t n ≡ Some p.type) (sym place) (part_later s.structs u.structs later t i p.type p.is),
          initial_is is_global s line p.type x range.0 formed part p.first p.first_is now,
        ))
        fits

  struct_is : (is_global : Bool) (s : CScene) (line : ℕ) (t : CType) (i : InitializerTree) → is_struct t ≡ true → InitializerInRange i → Formed s → IsType s.structs t → (r : Typed)
      → struct_copied is_global s line t i ≡ Ok r → Fits names r.1 → IsInitialized (at_structs names r.1.structs) t r.0
  struct_is is_global s line t (InitializerTree.Expression e) struct range formed type r h =
      let x = bound (typed s e) _ r h in
      let copy = copied_is is_global line t x.0 r x.2 in
      subst (λ (q : Typed). Fits names q.1 → IsInitialized (at_structs names q.1.structs) t q.0) copy.is
      (λ fits. IsInitialized.copy (typed_is sound names s e range formed x.0 x.1 fits).typed (record { struct = struct; place = copy.place; same_struct = copy.same_type }))
  struct_is is_global s line t (InitializerTree.Braced at parts) struct range formed type r h =
      λ fits. IsInitialized.parts (initial_is is_global s line t (InitializerTree.Braced at parts) range formed type r h fits)

  pub initialized_is : (is_global : Bool) (s : CScene) (line : ℕ) (t : CType) (i : InitializerTree) → InitializerInRange i → Formed s → IsType s.structs t → (r : Typed)
      → initialized is_global s line t i ≡ Ok r → Fits names r.1 → IsInitialized (at_structs names r.1.structs) t r.0
  initialized_is is_global s line t i range formed type r h = by (chosen _ _ _ r h)
    where
      by : ((is_struct t ≡ true) × (struct_copied is_global s line t i ≡ Ok r)) ⊎ ((is_struct t ≡ false) × (initial is_global s line t i ≡ Ok r))
          → Fits names r.1 → IsInitialized (at_structs names r.1.structs) t r.0
      by (inl h) = struct_is is_global s line t i h.0 range formed type r h.1
      by (inr h) = λ fits. IsInitialized.parts (initial_is is_global s line t i range formed type r h.1 fits)
