-- What follows from the layout of structs: what memory needs to know of sizes and alignments (C11 6.2.8, 6.7.2.1).
use Rattle.std.specs.Prelude.{◌≡◌, ℕ, ◌+◌, ◌*◌, ◌<◌, ◌≤◌, ◌⊎◌, All, Some, List, slice_get}
use Rattle.typed_tree.specs.Types.{CType}
use Rattle.typed_tree.specs.TypedTree.{CMember, CStruct}
use Rattle.typed_tree.specs.Sizes.{size_of, align_of, IsType, IsComplete}
use Rattle.typed_tree.specs.Typed.{LiesIn, AreRanked, IsStruct}

-- How an object of a type lies: it has at least one byte, its addresses are multiples of 1 or of 4, and its size is a
-- multiple of the same, so that the elements of an array are aligned too.
pub record LiesAligned (structs : List CStruct) (t : CType) : Type 0 where
  pub positive : 1 ≤ size_of structs t
  pub align : (align_of structs t ≡ 1) ⊎ (align_of structs t ≡ 4)
  pub times : ℕ
  pub multiple : size_of structs t ≡ times * align_of structs t

-- Each complete type that may be formed lies so.
abbrev pub CompleteLiesAligned : Type 0
CompleteLiesAligned =
    (structs : List CStruct) (t : CType) → All (IsStruct structs) structs → AreRanked structs
    → IsType structs t → IsComplete structs t → LiesAligned structs t

-- A member lies in its struct, at a multiple of its alignment, and the struct's alignment is one for each member.
pub record LiesWithin (structs : List CStruct) (s : CStruct) (m : CMember) : Type 0 where
  pub end : m.offset + size_of structs m.ty ≤ s.size
  pub times : ℕ
  pub multiple : m.offset ≡ times * align_of structs m.ty
  pub align : align_of structs m.ty ≤ s.align

abbrev pub MembersLieWithin : Type 0
MembersLieWithin =
    (structs : List CStruct) (k i : ℕ) (s : CStruct) (m : CMember) → All (IsStruct structs) structs → AreRanked structs
    → slice_get structs k ≡ Some s → slice_get s.members i ≡ Some m → LiesWithin structs s m

-- A later member lies behind an earlier one.
abbrev pub MembersLieApart : Type 0
MembersLieApart =
    (structs : List CStruct) (k i j : ℕ) (s : CStruct) (m n : CMember) → All (IsStruct structs) structs → AreRanked structs
    → slice_get structs k ≡ Some s → slice_get s.members i ≡ Some m → slice_get s.members j ≡ Some n → i < j
    → m.offset + size_of structs m.ty ≤ n.offset

-- An array has the bytes of its elements and no more.
abbrev pub ArrayIsElements : Type 0
ArrayIsElements = (structs : List CStruct) (t : CType) (n : ℕ) → size_of structs (CType.Array t n) ≡ size_of structs t * n

-- No struct lies in itself.
abbrev pub NoneInItself : Type 0
NoneInItself = (structs : List CStruct) (k : ℕ) → AreRanked structs → ¬ LiesIn structs k k
