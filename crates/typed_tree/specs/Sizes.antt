-- The sizes and the alignments of types, and where the members of a struct lie (C11 6.2.6.1, 6.2.8, 6.7.2.1).
use Rattle.std.specs.Prelude.{◌≡◌, ℕ, ◌+◌, ◌-◌, ◌*◌, ◌/◌, ◌<◌, ◌≤◌, max, Bool}
use Rattle.std.specs.Prelude.{true, false, IsTrue, Option, Some, None, List, [], ◌∷◌, length, slice_get}
use Rattle.typed_tree.specs.Types.{CType}
use Rattle.typed_tree.specs.TypedTree.{CMember, CStruct}

-- the most bytes that an object may have
abbrev pub largest : ℕ
largest = 1048576

abbrev pub struct_size : Option CStruct → ℕ
struct_size None = 0
struct_size (Some s) = s.size

abbrev pub struct_align : Option CStruct → ℕ
struct_align None = 1
struct_align (Some s) = s.align

-- A char has 1 byte (6.5.3.4 p4), an int, an unsigned int and a pointer have 4, an array has its elements' (6.2.5 p20),
-- and a struct has what the list says. Void has no size.
abbrev pub size_of : List CStruct → CType → ℕ
size_of structs CType.Void = 0
size_of structs CType.Char = 1
size_of structs CType.Int = 4
size_of structs CType.Unsigned = 4
size_of structs (CType.Struct k) = struct_size (slice_get structs k)
size_of structs (CType.Pointer t) = 4
size_of structs (CType.Array t n) = size_of structs t * n

-- 6.2.8: the addresses of an object of the type are multiples of this
abbrev pub align_of : List CStruct → CType → ℕ
align_of structs CType.Void = 1
align_of structs CType.Char = 1
align_of structs CType.Int = 4
align_of structs CType.Unsigned = 4
align_of structs (CType.Struct k) = struct_align (slice_get structs k)
align_of structs (CType.Pointer t) = 4
align_of structs (CType.Array t n) = align_of structs t

abbrev pub has_members : Option CStruct → Bool
has_members None = false
has_members (Some s) = some_member s.members
  where
    some_member : List CMember → Bool
    some_member [] = false
    some_member (m ∷ ms) = true

-- 6.2.5 p1: void is incomplete, and a struct until its members are told; an array has a complete element
abbrev pub is_complete : List CStruct → CType → Bool
is_complete structs CType.Void = false
is_complete structs CType.Char = true
is_complete structs CType.Int = true
is_complete structs CType.Unsigned = true
is_complete structs (CType.Struct k) = has_members (slice_get structs k)
is_complete structs (CType.Pointer t) = true
is_complete structs (CType.Array t n) = is_complete structs t

abbrev pub IsComplete : List CStruct → CType → Type 0
IsComplete structs t = IsTrue (is_complete structs t)

-- A type that may be formed: its tags are in the list; an array has at least one element (6.7.6.2 p1), of a complete
-- type (6.2.5 p20), and not too many bytes.
abbrev pub IsType : List CStruct → CType → Type 0
IsType structs CType.Void = Unit {0}
IsType structs CType.Char = Unit {0}
IsType structs CType.Int = Unit {0}
IsType structs CType.Unsigned = Unit {0}
IsType structs (CType.Struct k) = k < length structs
IsType structs (CType.Pointer t) = IsType structs t
IsType structs (CType.Array t n) = IsType structs t × IsComplete structs t × (1 ≤ n) × (size_of structs t * n ≤ largest)

-- the least multiple of `unit` that is at least n
abbrev pub rounded_up : ℕ → ℕ → ℕ
rounded_up n unit = (n + (unit - 1)) / unit * unit

-- 6.7.2.1 p14, p15: Each of these members lies at the next multiple of its alignment from the end of the one before,
-- the first from the given place.
abbrev pub AreInOrder : List CStruct → ℕ → List CMember → Type 0
AreInOrder structs from [] = Unit {0}
AreInOrder structs from (m ∷ ms) =
    (m.offset ≡ rounded_up from (align_of structs m.ty)) × AreInOrder structs (m.offset + size_of structs m.ty) ms

-- where the last member ends
abbrev pub end_of : List CStruct → ℕ → List CMember → ℕ
end_of structs from [] = from
end_of structs from (m ∷ ms) = end_of structs (m.offset + size_of structs m.ty) ms

-- the greatest alignment of the members
abbrev pub greatest_align : List CStruct → List CMember → ℕ
greatest_align structs [] = 1
greatest_align structs (m ∷ ms) = max (align_of structs m.ty) (greatest_align structs ms)

-- the type of the member of a number, if there is one
abbrev pub member_type : Option CMember → Option CType
member_type None = None
member_type (Some m) = Some m.ty

abbrev pub members_of : Option CStruct → List CMember
members_of None = []
members_of (Some s) = s.members

-- the type of member m of struct k
abbrev pub member_at : List CStruct → ℕ → ℕ → Option CType
member_at structs k m = member_type (slice_get (members_of (slice_get structs k)) m)
