-- Types (C11 6.2.5), as contracts see them.
use Rattle.std.specs.Prelude.{ℕ, Bool, true, false, ◌==◌, ◌&&◌, ◌||◌, IsTrue, if◌then◌else◌}

pub data CType : Type 0 where
  Void : CType
  Char : CType
  Int : CType
  Unsigned : CType
  Struct : (number : ℕ) → CType
  Pointer : (to : CType) → CType
  Array : (element : CType) → (count : ℕ) → CType

-- 6.2.5 p17: the integer types
abbrev pub is_number : CType → Bool
is_number CType.Char = true
is_number CType.Int = true
is_number CType.Unsigned = true
is_number CType.Void = false
is_number (CType.Struct k) = false
is_number (CType.Pointer t) = false
is_number (CType.Array t n) = false

-- 6.2.5 p20
abbrev pub is_pointer : CType → Bool
is_pointer (CType.Pointer t) = true
is_pointer CType.Void = false
is_pointer CType.Char = false
is_pointer CType.Int = false
is_pointer CType.Unsigned = false
is_pointer (CType.Struct k) = false
is_pointer (CType.Array t n) = false

-- 6.2.5 p20
abbrev pub is_array : CType → Bool
is_array (CType.Array t n) = true
is_array CType.Void = false
is_array CType.Char = false
is_array CType.Int = false
is_array CType.Unsigned = false
is_array (CType.Struct k) = false
is_array (CType.Pointer t) = false

-- 6.2.5 p20
abbrev pub is_struct : CType → Bool
is_struct (CType.Struct k) = true
is_struct CType.Void = false
is_struct CType.Char = false
is_struct CType.Int = false
is_struct CType.Unsigned = false
is_struct (CType.Pointer t) = false
is_struct (CType.Array t n) = false

-- 6.2.5 p21: numbers and pointers
abbrev pub is_scalar : CType → Bool
is_scalar t = is_number t || is_pointer t

-- whether a type is that of pointers to void
abbrev pub is_void_pointer : CType → Bool
is_void_pointer (CType.Pointer CType.Void) = true
is_void_pointer _ = false

-- 6.2.7: whether two types are one
abbrev pub same : CType → CType → Bool
same CType.Void CType.Void = true
same CType.Char CType.Char = true
same CType.Int CType.Int = true
same CType.Unsigned CType.Unsigned = true
same (CType.Struct j) (CType.Struct k) = j == k
same (CType.Pointer a) (CType.Pointer b) = same a b
same (CType.Array a m) (CType.Array b n) = (m == n) && same a b
same _ _ = false

abbrev pub IsNumber : CType → Type 0
IsNumber t = IsTrue (is_number t)

abbrev pub IsPointer : CType → Type 0
IsPointer t = IsTrue (is_pointer t)

abbrev pub IsScalar : CType → Type 0
IsScalar t = IsTrue (is_scalar t)

-- 6.3.1.1 p2: the integer promotions make an int of a char
abbrev pub promoted : CType → CType
promoted CType.Char = CType.Int
promoted CType.Void = CType.Void
promoted CType.Int = CType.Int
promoted CType.Unsigned = CType.Unsigned
promoted (CType.Struct k) = CType.Struct k
promoted (CType.Pointer t) = CType.Pointer t
promoted (CType.Array t n) = CType.Array t n

-- whether a type is unsigned int
abbrev pub is_unsigned : CType → Bool
is_unsigned CType.Unsigned = true
is_unsigned CType.Void = false
is_unsigned CType.Char = false
is_unsigned CType.Int = false
is_unsigned (CType.Struct k) = false
is_unsigned (CType.Pointer t) = false
is_unsigned (CType.Array t n) = false

-- 6.3.1.8: the common type of two numbers is unsigned int if one of them, promoted, is that, else int
abbrev pub common : CType → CType → CType
common t u = if is_unsigned t || is_unsigned u then CType.Unsigned else CType.Int
