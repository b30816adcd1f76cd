-- The bytes that an initializer gives a global fit it, and point to objects that are there.
use Rattle.std.proofs.Common.{◌≡◌, ℕ, suc, ◌+◌, ◌-◌, ◌*◌, ◌/◌, ◌%◌, ◌<◌, ◌≤◌, Bool, true, false, nat_lt, List, [], ◌∷◌, ◌++◌, length, refl, sym, ◌∙◌, ap, subst, arith}
use Rattle.std.specs.Prelude.{Option, Some, None, All, IsTrue, map, slice_get, replicate, if◌then◌else◌}
use Rattle.std.proofs.lemmas.Bool.{ltb-true}
use Rattle.std.proofs.lemmas.List.{length-append, length-map, length-replicate}
use Rattle.std.proofs.lemmas.List.Elements.{All-nil, All-cons, All-append, All-map, All-replicate}
use Rattle.std.proofs.lemmas.Option.{slice_get_within}
use Rattle.c_words.specs.declared.operators.UnaryOperator.TheVariants as unary
use Rattle.typed_tree.specs.declared.typed.GlobalObject.{GlobalObject}
use Rattle.typed_tree.specs.declared.typed.GlobalObject.TheVariants as objects
use Rattle.typed_tree.specs.declared.typed.InitialByte.{InitialByte}
use Rattle.typed_tree.specs.declared.typed.InitialByte.TheVariants.{Byte, PointerPart}
use Rattle.typed_tree.specs.declared.typed_expr.Conversion.TheVariants as conversion
use Rattle.typed_tree.specs.Types.{CType, IsPointer, IsScalar}
use Rattle.typed_tree.specs.TypedTree.{CExpr, CForm, CInitial, CInitials, CMember, CStruct, CProgram, type_of}
use Rattle.typed_tree.specs.Sizes.{size_of, struct_size, IsComplete, IsType, member_type, members_of}
use Rattle.typed_tree.specs.SizeLaws.{MembersLieWithin, MembersLieApart}
use Rattle.typed_tree.specs.TypedOperands.{is_place, IsGiven}
use Rattle.typed_tree.specs.TypedRules.{IsFilled, part_type}
use Rattle.typed_tree.specs.TypedBody.{Environment, IsBytes, IsExpr, IsInitial, AreInitials, IsInitialized}
use Rattle.typed_tree.specs.Typed.{IsStruct, AreRanked, IsObject, IsInitialByte}
use Rattle.typing_operators.specs.Constants.{constant, unary_value, of_one}
use Rattle.typing_expressions.specs.Initializers.{pointed_array, pointed_global, pointed_object, is_null_pointer, number_bytes, pointer_bytes, bytes_by, value_bytes, bytes_or_none, offset_or_zero, part_offset, type_or_void, padded, initial_bytes, parts_bytes}
use Rattle.typing_unit_keeps.proofs.Steps.{All-slice_get}
use Rattle.typing_unit_keeps.proofs.Scenes.{AreStructs}

-- a place is no constant
place_gives_none : (structs : List CStruct) (e : CExpr) → IsTrue (is_place e) → value_bytes structs e ≡ None
unfolding value_bytes
place_gives_none structs (CExpr.expr at t (CForm.Local n)) place = refl
place_gives_none structs (CExpr.expr at t (CForm.Global n)) place = refl
place_gives_none structs (CExpr.expr at t (CForm.Text n)) place = refl
place_gives_none structs (CExpr.expr at t (CForm.Index a b)) place = refl
place_gives_none structs (CExpr.expr at t (CForm.Arrow e m)) place = refl
place_gives_none structs (CExpr.expr at t (CForm.Member e m)) place = refl
place_gives_none structs (CExpr.expr at t (CForm.Unary unary.Dereference e)) place = by (constant structs e)
  where
    by : (o : Option ℕ) → bytes_by t (of_one o (λ n. unary_value unary.Dereference n)) false None ≡ None
    by None = refl
    by (Some n) = refl
place_gives_none structs (CExpr.expr at t (CForm.Unary op e)) place = absurd cc
place_gives_none structs (CExpr.expr at t form) place = absurd cc

number_size : (structs : List CStruct) (t : CType) (n : ℕ) → IsScalar t → length (number_bytes t n) ≤ size_of structs t
number_size structs CType.Void n scalar = absurd cc
number_size structs CType.Char n scalar = omega arith
number_size structs CType.Int n scalar = omega arith
number_size structs CType.Unsigned n scalar = omega arith
number_size structs (CType.Struct k) n scalar = absurd cc
number_size structs (CType.Pointer t) n scalar = omega arith
number_size structs (CType.Array t k) n scalar = absurd cc

pointer_size : (structs : List CStruct) (t : CType) (o : GlobalObject) → IsPointer t → length (pointer_bytes o) ≤ size_of structs t
pointer_size structs CType.Void o pointer = absurd cc
pointer_size structs CType.Char o pointer = absurd cc
pointer_size structs CType.Int o pointer = absurd cc
pointer_size structs CType.Unsigned o pointer = absurd cc
pointer_size structs (CType.Struct k) o pointer = absurd cc
pointer_size structs (CType.Pointer t) o pointer = omega arith
pointer_size structs (CType.Array t k) o pointer = absurd cc

module _ (p : CProgram) (names : Environment) (globals : length names.globals ≡ length p.globals) (texts : length names.texts ≡ length p.texts) where
  abbrev structs : List CStruct
  structs = names.structs

  -- bytes that a global of so many bytes may hold at first
  pub record AreHeld (size : ℕ) (bytes : List InitialByte) : Type 0 where
    pub fits : length bytes ≤ size
    pub all : All (IsInitialByte p) bytes

  byte_first : (n : ℕ) (rest : List InitialByte) → All (IsInitialByte p) rest → All (IsInitialByte p) (Byte (n % 256) ∷ rest)
  byte_first n rest h = All-cons (IsInitialByte p) (Byte (n % 256)) rest (omega arith) h

  no_bytes : All (IsInitialByte p) []
  no_bytes = All-nil (IsInitialByte p)

  four_bytes : (a b c d : ℕ) → All (IsInitialByte p) (Byte (a % 256) ∷ Byte (b % 256) ∷ Byte (c % 256) ∷ Byte (d % 256) ∷ [])
  four_bytes a b c d =
      byte_first a (Byte (b % 256) ∷ Byte (c % 256) ∷ Byte (d % 256) ∷ [])
      (byte_first b (Byte (c % 256) ∷ Byte (d % 256) ∷ []) (byte_first c (Byte (d % 256) ∷ []) (byte_first d [] no_bytes)))

  all_bytes : (t : CType) (n : ℕ) → All (IsInitialByte p) (number_bytes t n)
  all_bytes CType.Char n = byte_first n [] no_bytes
  all_bytes _ n = four_bytes n (n / 256) (n / 65536) (n / 16777216)

  all_parts : (o : GlobalObject) → IsObject p o → All (IsInitialByte p) (pointer_bytes o)
  all_parts o is =
      part 0 (PointerPart o 1 ∷ PointerPart o 2 ∷ PointerPart o 3 ∷ []) (omega arith)
      (part 1 (PointerPart o 2 ∷ PointerPart o 3 ∷ []) (omega arith) (part 2 (PointerPart o 3 ∷ []) (omega arith) (part 3 [] (omega arith) no_bytes)))
    where
      part : (n : ℕ) (rest : List InitialByte) → n < 4 → All (IsInitialByte p) rest → All (IsInitialByte p) (PointerPart o n ∷ rest)
      part n rest less h = All-cons (IsInitialByte p) (PointerPart o n) rest (is, less) h

  same_object : (x y : GlobalObject) → Some x ≡ Some y → x ≡ y
  same_object x y h = cc

  global_object : (k : ℕ) (t : CType) (o : GlobalObject) → slice_get names.globals k ≡ Some t → Some (objects.Named k) ≡ Some o → IsObject p o
  global_object k t o found h = subst (IsObject p) (same_object (objects.Named k) o h) (subst (λ n. k < n) globals (slice_get_within names.globals k t found))

  array_object : (e : CExpr) (o : GlobalObject) → IsExpr names e → pointed_array e ≡ Some o → IsObject p o
  array_object (CExpr.expr at t (CForm.Text k)) o is h =
      subst (IsObject p) (same_object (objects.Text k) o h) (subst (λ n. k < n) texts (slice_get_within names.texts k is.1.bytes is.1.found))
  array_object (CExpr.expr at t (CForm.Global k)) o is h = global_object k t o is.1 h
  array_object (CExpr.expr at t form) o is h = absurd cc

  named_object : (e : CExpr) (o : GlobalObject) → IsExpr names e → pointed_global e ≡ Some o → IsObject p o
  named_object (CExpr.expr at t (CForm.Global k)) o is h = global_object k t o is.1 h
  named_object (CExpr.expr at t form) o is h = absurd cc

  pointer_to : (t u : CType) → t ≡ CType.Pointer u → IsPointer t
  pointer_to t u is = subst IsPointer (sym is) refl

  -- what points to an object is a pointer, and the object is there
  points : (e : CExpr) (o : GlobalObject) → IsExpr names e → pointed_object e ≡ Some o → IsPointer (type_of e) × IsObject p o
  points (CExpr.expr at t (CForm.Convert conversion.PointerToPointer e)) o is h = (is.1.1.3, (points e o is.1.0 h).1)
  points (CExpr.expr at t (CForm.Convert conversion.ArrayToPointer e)) o is h = (pointer_to t is.1.1.1 is.1.1.4, array_object e o is.1.0 h)
  points (CExpr.expr at t (CForm.Unary unary.Address e)) o is h = (pointer_to t (type_of e) is.1.1.result, named_object e o is.1.0 h)
  points (CExpr.expr at t form) o is h = absurd cc

  -- a value that is given to a type
  value_held : (t : CType) (e : CExpr) → IsExpr names e → IsGiven t e → AreHeld (size_of structs t) (bytes_or_none (value_bytes structs e))
  unfolding value_bytes
  value_held t e is given = by (constant structs e) (is_null_pointer e) (pointed_object e) refl
    where
      scalar : IsScalar (type_of e)
      scalar = subst IsScalar (sym given.0) given.1

      size : (n : ℕ) → n ≤ size_of structs (type_of e) → n ≤ size_of structs t
      size n h = subst (λ u. n ≤ size_of structs u) given.0 h

      by : (n : Option ℕ) (is_null : Bool) (o : Option GlobalObject) → pointed_object e ≡ o → AreHeld (size_of structs t) (bytes_or_none (bytes_by (type_of e) n is_null o))
      by (Some n) is_null o h = record { fits = size _ (number_size structs (type_of e) n scalar); all = all_bytes (type_of e) n }
      by None true o h = record { fits = omega arith; all = no_bytes }
      by None false (Some o) h = let there = points e o is h in record { fits = size _ (pointer_size structs (type_of e) o there.0); all = all_parts o there.1 }
      by None false None h = record { fits = omega arith; all = no_bytes }

  text_held : (t : CType) (bytes : List ℕ) → IsBytes bytes → IsFilled t bytes → AreHeld (size_of structs t) (map Byte bytes)
  text_held t bytes are filled = record {
    fits =
        let room = filled.room in
        let same : length (map Byte bytes) ≡ length bytes = length-map bytes Byte in
        subst (λ u. length (map Byte bytes) ≤ size_of structs u) (sym filled.array) (omega arith);
    all = All-map (IsInitialByte p) Byte bytes are;
  }

  -- where a part lies in its object, and before the one behind it
  record PartLies (t : CType) (i : ℕ) (u : CType) : Type 0 where
    type : IsType structs u
    complete : IsComplete structs u
    end : part_offset structs t i + size_of structs u ≤ size_of structs t
    next : (w : CType) → part_type structs t (suc i) ≡ Some w → part_offset structs t i + size_of structs u ≤ part_offset structs t (suc i)

  module _ (within : MembersLieWithin) (apart : MembersLieApart) (all : AreStructs structs) (ranked : AreRanked structs) where
    element_lies : (t : CType) (n i : ℕ) (u : CType) → IsType structs (CType.Array t n) → (b : Bool) → nat_lt i n ≡ b → (if b then Some t else None) ≡ Some u → PartLies (CType.Array t n) i u
    element_lies t n i u formed true less h = subst (PartLies (CType.Array t n) i) (same_type t u h) (record {
      type = formed.0;
      complete = formed.1;
      end = fits (size_of structs t) i n (ltb-true i n less);
      next = λ w more. after (size_of structs t) i;
    })
      where
        same_type : (x y : CType) → Some x ≡ Some y → x ≡ y
        same_type x y h = cc

        after : (size i : ℕ) → size * i + size ≤ size * suc i
        after size i = omega arith

        fits : (size i n : ℕ) → i < n → size * i + size ≤ size * n
        fits size i n less = grind arith
    element_lies t n i u formed false less h = absurd cc

    -- the member of a number
    record MemberAt (k i : ℕ) (u : CType) : Type 0 where
      struct : CStruct
      found : slice_get structs k ≡ Some struct
      member : CMember
      there : slice_get struct.members i ≡ Some member
      type : member.ty ≡ u

    member_at_is : (k i : ℕ) (u : CType) (o : Option CStruct) → slice_get structs k ≡ o → member_type (slice_get (members_of o) i) ≡ Some u → MemberAt k i u
    member_at_is k i u None found h = absurd cc
    member_at_is k i u (Some s) found h = by (slice_get s.members i) refl h
      where
        by : (o : Option CMember) → slice_get s.members i ≡ o → member_type o ≡ Some u → MemberAt k i u
        by None there h = absurd cc
        by (Some m) there h = record { struct = s; found = found; member = m; there = there; type = same_type m.ty u h }
          where
            same_type : (x y : CType) → Some x ≡ Some y → x ≡ y
            same_type x y h = cc

    member_found : (k i : ℕ) (u : CType) → part_type structs (CType.Struct k) i ≡ Some u → MemberAt k i u
    member_found k i u h = member_at_is k i u (slice_get structs k) refl h

    offset_is : (k i : ℕ) (u : CType) (m : MemberAt k i u) → part_offset structs (CType.Struct k) i ≡ m.member.offset
    offset_is k i u m = ap (λ o. offset_or_zero (slice_get (members_of o) i)) m.found ∙ ap offset_or_zero m.there

    member_lies : (k i : ℕ) (u : CType) → part_type structs (CType.Struct k) i ≡ Some u → PartLies (CType.Struct k) i u
    member_lies k i u h =
        let m = member_found k i u h in
        let is_struct = All-slice_get (IsStruct structs) structs k m.struct all m.found in
        let inside = (within structs k i m.struct m.member all ranked m.found m.there).end in
        let size : size_of structs (CType.Struct k) ≡ m.struct.size = ap struct_size m.found in
        let offset = offset_is k i u m in
        let own : size_of structs m.member.ty ≡ size_of structs u = ap (size_of structs) m.type in
        record {
          type = subst (IsType structs) m.type (All-slice_get (λ (x : CMember). IsType structs x.ty) m.struct.members i m.member is_struct.types m.there);
          complete = subst (IsComplete structs) m.type (All-slice_get (λ (x : CMember). IsComplete structs x.ty) m.struct.members i m.member is_struct.complete m.there);
          end = omega arith;
          next = λ w more.
              let n = member_found k (suc i) w more in
              let same : n.struct ≡ m.struct = same_struct n.struct m.struct (sym n.found ∙ m.found) in
              let there : slice_get m.struct.members (suc i) ≡ Some n.member = subst (λ (s : CStruct). slice_get s.members (suc i) ≡ Some n.member) same n.there in
              let behind = apart structs k i (suc i) m.struct m.member n.member all ranked m.found m.there there (omega arith) in
              let later = offset_is k (suc i) w n in
              omega arith;
        }
      where
        same_struct : (x y : CStruct) → Some x ≡ Some y → x ≡ y
        same_struct x y h = cc

    part_lies : (t : CType) (i : ℕ) (u : CType) → IsType structs t → part_type structs t i ≡ Some u → PartLies t i u
    part_lies (CType.Array t n) i u formed h = element_lies t n i u formed (nat_lt i n) refl h
    part_lies (CType.Struct k) i u formed h = member_lies k i u h
    part_lies CType.Void i u formed h = absurd cc
    part_lies CType.Char i u formed h = absurd cc
    part_lies CType.Int i u formed h = absurd cc
    part_lies CType.Unsigned i u formed h = absurd cc
    part_lies (CType.Pointer t) i u formed h = absurd cc

    -- bytes that end before part i of an object, and in the object
    record EndBefore (t : CType) (i : ℕ) (bytes : List InitialByte) : Type 0 where
      held : AreHeld (size_of structs t) bytes
      before : (u : CType) → part_type structs t i ≡ Some u → length bytes ≤ part_offset structs t i

    -- a part behind zeros
    behind : (t : CType) (i : ℕ) (u : CType) (front bytes : List InitialByte) → PartLies t i u → length front ≤ part_offset structs t i → All (IsInitialByte p) front → AreHeld (size_of structs u) bytes
        → EndBefore t (suc i) (padded front (part_offset structs t i) ++ bytes)
    behind t i u front bytes lies before all_front is =
        let place = part_offset structs t i in
        let zeros : List InitialByte = replicate (place - length front) (Byte 0) in
        let first : length (front ++ zeros) ≡ length front + length zeros = length-append front zeros in
        let filled : length zeros ≡ place - length front = length-replicate (place - length front) (Byte 0) in
        let whole : length (padded front place ++ bytes) ≡ length (padded front place) + length bytes = length-append (padded front place) bytes in
        let fits = is.fits in
        let end = lies.end in
        let padding : length (padded front place) ≡ place = first ∙ omega arith in
        record {
          held = record {
            fits = omega arith;
            all = All-append (IsInitialByte p) (padded front place) bytes
                (All-append (IsInitialByte p) front zeros all_front (All-replicate (IsInitialByte p) (place - length front) (Byte 0) (omega arith)))
                is.all;
          };
          before = λ w more. let next = lies.next w more in omega arith;
        }

    mutual
      initial_held : (t : CType) (i : CInitial) → IsType structs t → IsInitial names t i → AreHeld (size_of structs t) (initial_bytes structs t i)
      initial_held t (CInitial.Value e) formed is = value_held t e is.0 is.1
      initial_held t (CInitial.Text at bytes) formed is = text_held t bytes is.0 is.1
      initial_held t (CInitial.Braces at parts) formed is =
          parts_held t [] 0 parts formed (record { held = record { fits = omega arith; all = no_bytes }; before = λ u h. omega arith }) is.1

      parts_held : (t : CType) (front : List InitialByte) (i : ℕ) (parts : CInitials) → IsType structs t → EndBefore t i front → AreInitials names t i parts
          → AreHeld (size_of structs t) (parts_bytes structs t front i parts)
      parts_held t front i CInitials.none formed ends is = ends.held
      parts_held t front i (CInitials.more x xs) formed ends is =
          let lies = part_lies t i is.0.0 formed is.0.1 in
          let bytes = initial_held is.0.0 x lies.type is.0.2 in
          let here : AreHeld (size_of structs is.0.0) (initial_bytes structs (type_or_void (part_type structs t i)) x) =
          subst (λ o. AreHeld (size_of structs is.0.0) (initial_bytes structs (type_or_void o) x)) (sym is.0.1) bytes in
          parts_held t (padded front (part_offset structs t i) ++ initial_bytes structs (type_or_void (part_type structs t i)) x) (suc i) xs formed
          (behind t i is.0.0 front (initial_bytes structs (type_or_void (part_type structs t i)) x) lies (ends.before is.0.0 is.0.1) ends.held.all here)
          is.1

    pub initialized_held : (t : CType) (i : CInitial) → IsType structs t → IsInitialized names t i → AreHeld (size_of structs t) (initial_bytes structs t i)
    initialized_held t i formed (IsInitialized.parts is) = initial_held t i formed is
    initialized_held t (CInitial.Value e) formed (IsInitialized.copy is copied) =
        subst (λ o. AreHeld (size_of structs t) (bytes_or_none o)) (sym (place_gives_none structs e copied.place)) (record { fits = omega arith; all = no_bytes })
