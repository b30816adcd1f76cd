-- How objects lie: sizes, alignments and offsets.
use Rattle.std.proofs.Common.{◌≡◌, ℕ, zero, suc, ◌+◌, ◌-◌, ◌*◌, ◌/◌, ◌<◌, ◌≤◌, ◌⊎◌, inl, inr, max, true, List, [], ◌∷◌, refl, sym, ap, subst, arith, ◌∙◌}
use Rattle.std.specs.Prelude.{All, Option, Some, None, slice_get}
use Rattle.typed_tree.specs.Types.{CType}
use Rattle.typed_tree.specs.TypedTree.{CMember, CStruct}
use Rattle.typed_tree.specs.Sizes.{size_of, align_of, struct_size, struct_align, has_members, IsType, IsComplete, rounded_up, AreInOrder, end_of, greatest_align}
use Rattle.typed_tree.specs.Typed.{IsIn, LiesIn, AreRanked, IsStruct}
use Rattle.typed_tree.specs.SizeLaws.{LiesAligned, CompleteLiesAligned, MembersLieWithin, MembersLieApart, ArrayIsElements, NoneInItself}
use Rattle.typed_tree.proofs.TypedLemmas.{All-slice_get}

-- an alignment
abbrev IsAlign : ℕ → Type 0
IsAlign n = (n ≡ 1) ⊎ (n ≡ 4)

-- a multiple of it
abbrev IsTimes : ℕ → ℕ → Type 0
IsTimes n unit = (k : ℕ) × (n ≡ k * unit)

up_by_one : (n : ℕ) → n ≤ (n + (1 - 1)) / 1 * 1
up_by_one n = omega arith

up_by_four : (n : ℕ) → n ≤ (n + (4 - 1)) / 4 * 4
up_by_four n = omega arith

up : (n unit : ℕ) → IsAlign unit → n ≤ rounded_up n unit
up n unit (inl one) = rw one (up_by_one n)
up n unit (inr four) = rw four (up_by_four n)

-- the greater of two alignments is one
greater_align : (a b : ℕ) → IsAlign a → IsAlign b → IsAlign (max a b)
greater_align a b (inl one) (inl one') = inl (omega arith)
greater_align a b (inl one) (inr four') = inr (omega arith)
greater_align a b (inr four) (inl one') = inr (omega arith)
greater_align a b (inr four) (inr four') = inr (omega arith)

module _ (structs : List CStruct) where
  -- each of these members has a type that lies aligned
  abbrev Aligned : List CMember → Type 0
  Aligned ms = (i : ℕ) (m : CMember) → slice_get ms i ≡ Some m → LiesAligned structs m.ty

  greatest_is_align : (ms : List CMember) → Aligned ms → IsAlign (greatest_align structs ms)
  greatest_is_align [] aligned = inl refl
  greatest_is_align (m ∷ ms) aligned =
      greater_align (align_of structs m.ty) (greatest_align structs ms) (aligned 0 m refl).align
      (greatest_is_align ms (λ i n found. aligned (suc i) n found))

  align_below : (ms : List CMember) (i : ℕ) (m : CMember) → slice_get ms i ≡ Some m → align_of structs m.ty ≤ greatest_align structs ms
  align_below [] i m found = absurd cc
  align_below (n ∷ ms) zero m found =
      let same : n ≡ m = cc in
      let equal : align_of structs n.ty ≡ align_of structs m.ty = ap (λ (x : CMember). align_of structs x.ty) same in omega arith
  align_below (n ∷ ms) (suc i) m found = let below = align_below ms i m found in omega arith

  -- the members end where they begin, or after
  end_after : (from : ℕ) (ms : List CMember) → Aligned ms → AreInOrder structs from ms → from ≤ end_of structs from ms
  end_after from [] aligned in_order = omega arith
  end_after from (m ∷ ms) aligned in_order =
      let rest = end_after (m.offset + size_of structs m.ty) ms (λ i n found. aligned (suc i) n found) in_order.1 in
      let rounded : from ≤ rounded_up from (align_of structs m.ty) = up from (align_of structs m.ty) (aligned 0 m refl).align in
      let offset : m.offset ≡ rounded_up from (align_of structs m.ty) = in_order.0 in
      let after : from ≤ m.offset = rw offset rounded in
      omega arith

  -- where a member lies among those from a place on
  record Lies (from end : ℕ) (m : CMember) : Type 0 where
    after : from ≤ m.offset
    before : m.offset + size_of structs m.ty ≤ end
    multiple : IsTimes m.offset (align_of structs m.ty)

  lies : (from : ℕ) (ms : List CMember) (i : ℕ) (m : CMember) → Aligned ms → AreInOrder structs from ms → slice_get ms i ≡ Some m → Lies from (end_of structs from ms) m
  lies from [] i m aligned in_order found = absurd cc
  lies from (n ∷ ms) zero m aligned in_order found =
      let same : n ≡ m = cc in
      let rest = end_after (n.offset + size_of structs n.ty) ms (λ i x found. aligned (suc i) x found) in_order.1 in
      let rounded : from ≤ rounded_up from (align_of structs n.ty) = up from (align_of structs n.ty) (aligned 0 n refl).align in
      let here : Lies from (end_of structs (n.offset + size_of structs n.ty) ms) n = record {
        after = rw in_order.0 rounded;
        before = rest;
        multiple = (_, in_order.0);
      } in
      subst (λ (x : CMember). Lies from (end_of structs (n.offset + size_of structs n.ty) ms) x) same here
  lies from (n ∷ ms) (suc i) m aligned in_order found =
      let there = lies (n.offset + size_of structs n.ty) ms i m (λ i x found. aligned (suc i) x found) in_order.1 found in
      let rounded : from ≤ rounded_up from (align_of structs n.ty) = up from (align_of structs n.ty) (aligned 0 n refl).align in
      let after : from ≤ n.offset = rw in_order.0 rounded in
      let later = there.after in
      record { after = omega arith; before = there.before; multiple = there.multiple }

  apart : (from : ℕ) (ms : List CMember) (i j : ℕ) (m n : CMember) → Aligned ms → AreInOrder structs from ms
      → slice_get ms i ≡ Some m → slice_get ms j ≡ Some n → i < j → m.offset + size_of structs m.ty ≤ n.offset
  apart from [] i j m n aligned in_order first second less = absurd cc
  apart from (x ∷ ms) zero zero m n aligned in_order first second less = absurd (omega arith)
  apart from (x ∷ ms) zero (suc j) m n aligned in_order first second less =
      let same : x ≡ m = cc in
      let there = (lies (x.offset + size_of structs x.ty) ms j n (λ i y found. aligned (suc i) y found) in_order.1 second).after in
      subst (λ (y : CMember). y.offset + size_of structs y.ty ≤ n.offset) same there
  apart from (x ∷ ms) (suc i) zero m n aligned in_order first second less = absurd (omega arith)
  apart from (x ∷ ms) (suc i) (suc j) m n aligned in_order first second less =
      apart (x.offset + size_of structs x.ty) ms i j m n (λ i y found. aligned (suc i) y found) in_order.1 first second (omega arith)

  -- a defined struct whose members lie aligned does so itself
  struct_aligned : (k : ℕ) (s : CStruct) (o : Option CStruct) → slice_get structs k ≡ o → o ≡ Some s → IsStruct structs s → has_members o ≡ true → Aligned s.members → LiesAligned structs (CType.Struct k)
  struct_aligned k s o found is is_struct complete aligned =
      let size : size_of structs (CType.Struct k) ≡ s.size = ap struct_size (found ∙ is) in
      let align : align_of structs (CType.Struct k) ≡ s.align = ap struct_align (found ∙ is) in
      let is_align : IsAlign s.align = rw is_struct.align (greatest_is_align s.members aligned) in
      let rounded : end_of structs 0 s.members ≤ rounded_up (end_of structs 0 s.members) s.align = up (end_of structs 0 s.members) s.align is_align in
      let whole : end_of structs 0 s.members ≤ s.size = rw is_struct.size rounded in
      let some : 1 ≤ end_of structs 0 s.members = ends s.members aligned is_struct.in_order (ap has_members (sym is) ∙ complete) in
      record {
        positive = rw size (omega arith);
        align = rw align is_align;
        times = _;
        multiple = size ∙ is_struct.size ∙ ap (λ a. (end_of structs 0 s.members + (s.align - 1)) / s.align * a) (sym align);
      }
    where
      ends : (ms : List CMember) → Aligned ms → AreInOrder structs 0 ms → has_members (Some (record s { members = ms })) ≡ true → 1 ≤ end_of structs 0 ms
      ends [] aligned in_order complete = absurd cc
      ends (m ∷ ms) aligned in_order complete =
          let first = lies 0 (m ∷ ms) 0 m aligned in_order refl in
          let before = first.before in
          let positive = (aligned 0 m refl).positive in omega arith

  rank_rises : (ranked : AreRanked structs) {k j : ℕ} → LiesIn structs k j → ranked.rank k < ranked.rank j
  rank_rises ranked {k} {j} (LiesIn.member s m i found is_member is_in) = ranked.rises k j s m i found is_member is_in
  rank_rises ranked (LiesIn.deeper first second) = let below = rank_rises ranked first in let above = rank_rises ranked second in omega arith

  module _ (all : All (IsStruct structs) structs) (ranked : AreRanked structs) where
    -- the structs of lower rank than n lie aligned
    abbrev LowerLie : ℕ → Type 0
    LowerLie n = (k : ℕ) → ranked.rank k < n → IsComplete structs (CType.Struct k) → LiesAligned structs (CType.Struct k)

    times_count : (size align times n : ℕ) → size ≡ times * align → size * n ≡ (times * n) * align
    times_count size align times n multiple = rw multiple (grind (arith, swapped))
      where
        swapped : (a b c : ℕ) → (a * b) * c ≡ (a * c) * b
        swapped a b c = omega arith

    at_least_one : (size n : ℕ) → 1 ≤ size → 1 ≤ n → 1 ≤ size * n
    at_least_one zero n some more = absurd (omega arith)
    at_least_one (suc size) zero some more = absurd (omega arith)
    at_least_one (suc size) (suc n) some more = omega arith

    by_type : (n : ℕ) (t : CType) → LowerLie n → ((k : ℕ) → IsIn k t → ranked.rank k < n) → IsType structs t → IsComplete structs t → LiesAligned structs t
    by_type n CType.Void lower below formed complete = absurd cc
    by_type n CType.Char lower below formed complete = record { positive = omega arith; align = inl refl; times = 1; multiple = refl }
    by_type n CType.Int lower below formed complete = record { positive = omega arith; align = inr refl; times = 1; multiple = refl }
    by_type n CType.Unsigned lower below formed complete = record { positive = omega arith; align = inr refl; times = 1; multiple = refl }
    by_type n (CType.Struct k) lower below formed complete = lower k (below k IsIn.itself) complete
    by_type n (CType.Pointer t) lower below formed complete = record { positive = omega arith; align = inr refl; times = 1; multiple = refl }
    by_type n (CType.Array t count) lower below formed complete =
        let element = by_type n t lower (λ k is_in. below k (IsIn.element is_in)) formed.0 complete in
        record {
          positive = at_least_one (size_of structs t) count element.positive formed.2;
          align = element.align;
          times = element.times * count;
          multiple = times_count (size_of structs t) (align_of structs t) element.times count element.multiple;
        }

    -- the members of a struct that is found
    members_aligned : (n k : ℕ) (s : CStruct) → LowerLie n → ranked.rank k ≤ n → slice_get structs k ≡ Some s → Aligned s.members
    members_aligned n k s lower rank found i m is_member =
        let is_struct = All-slice_get (IsStruct structs) structs k s all found in
        by_type n m.ty lower (λ j is_in. let rises = ranked.rises j k s m i found is_member is_in in omega arith)
        (All-slice_get (λ (x : CMember). IsType structs x.ty) s.members i m is_struct.types is_member)
        (All-slice_get (λ (x : CMember). IsComplete structs x.ty) s.members i m is_struct.complete is_member)

    struct_lies : (n k : ℕ) (o : Option CStruct) → LowerLie n → ranked.rank k ≤ n → slice_get structs k ≡ o → has_members o ≡ true → LiesAligned structs (CType.Struct k)
    struct_lies n k None lower rank found complete = absurd cc
    struct_lies n k (Some s) lower rank found complete =
        struct_aligned k s (Some s) found refl (All-slice_get (IsStruct structs) structs k s all found) complete (members_aligned n k s lower rank found)

    lower_lie : (n : ℕ) → LowerLie n
    lower_lie zero k less complete = absurd (omega arith)
    lower_lie (suc n) k less complete = struct_lies n k (slice_get structs k) (lower_lie n) (omega arith) refl complete

    all_lie : (k : ℕ) → IsComplete structs (CType.Struct k) → LiesAligned structs (CType.Struct k)
    all_lie k complete = lower_lie (suc (ranked.rank k)) k (omega arith) complete

    type_lies : (t : CType) → IsType structs t → IsComplete structs t → LiesAligned structs t
    type_lies CType.Void formed complete = absurd cc
    type_lies CType.Char formed complete = record { positive = omega arith; align = inl refl; times = 1; multiple = refl }
    type_lies CType.Int formed complete = record { positive = omega arith; align = inr refl; times = 1; multiple = refl }
    type_lies CType.Unsigned formed complete = record { positive = omega arith; align = inr refl; times = 1; multiple = refl }
    type_lies (CType.Struct k) formed complete = all_lie k complete
    type_lies (CType.Pointer t) formed complete = record { positive = omega arith; align = inr refl; times = 1; multiple = refl }
    type_lies (CType.Array t count) formed complete =
        let element = type_lies t formed.0 complete in
        record {
          positive = at_least_one (size_of structs t) count element.positive formed.2;
          align = element.align;
          times = element.times * count;
          multiple = times_count (size_of structs t) (align_of structs t) element.times count element.multiple;
        }

    struct_members : (k : ℕ) (s : CStruct) → slice_get structs k ≡ Some s → Aligned s.members
    struct_members k s found = members_aligned (ranked.rank k) k s (lower_lie (ranked.rank k)) (omega arith) found

pub complete_lies_aligned : CompleteLiesAligned
complete_lies_aligned structs t all ranked formed complete = type_lies structs all ranked t formed complete

pub members_lie_within : MembersLieWithin
members_lie_within structs k i s m all ranked found is_member =
    let is_struct = All-slice_get (IsStruct structs) structs k s all found in
    let aligned = struct_members structs all ranked k s found in
    let there = lies structs 0 s.members i m aligned is_struct.in_order is_member in
    let is_align : IsAlign s.align = rw is_struct.align (greatest_is_align structs s.members aligned) in
    let rounded : end_of structs 0 s.members ≤ rounded_up (end_of structs 0 s.members) s.align = up (end_of structs 0 s.members) s.align is_align in
    let whole : end_of structs 0 s.members ≤ s.size = rw is_struct.size rounded in
    let before = there.before in
    record { end = omega arith; times = there.multiple.0; multiple = there.multiple.1; align = rw is_struct.align (align_below structs s.members i m is_member) }

pub members_lie_apart : MembersLieApart
members_lie_apart structs k i j s m n all ranked found first second less =
    let is_struct = All-slice_get (IsStruct structs) structs k s all found in
    apart structs 0 s.members i j m n (struct_members structs all ranked k s found) is_struct.in_order first second less

pub array_is_elements : ArrayIsElements
array_is_elements structs t n = refl

pub none_in_itself : NoneInItself
none_in_itself structs k ranked lies_in = let rises : ranked.rank k < ranked.rank k = rank_rises structs ranked lies_in in omega arith
