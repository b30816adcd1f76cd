-- A type that is none of the kinds before is another one.
use Rattle.std.proofs.Common.{◌≡◌, ℕ, Global, false, refl}
use Rattle.std.specs.Prelude.{Box}
use Rattle.typed_tree.specs.declared.types.Ty.{Ty, Void, Char, Int, Unsigned, Struct, Pointer', Array'}
use Rattle.typed_tree.specs.declared.types.Ty.TheVariants as v
use Rattle.typed_tree.specs.Types.{CType, same}
use Rattle.typed_tree.specs.TypesViewed.{ty_of}

pub same-struct_else : (t : Ty) (j : ℕ) → ((k : ℕ) → t ≡ v.Struct k → ⊥) → same (CType.Struct j) (ty_of t) ≡ false
same-struct_else Void j h = refl
same-struct_else Char j h = refl
same-struct_else Int j h = refl
same-struct_else Unsigned j h = refl
same-struct_else (Struct k) j h = absurd (h k refl)
same-struct_else (Pointer' p a) j h = refl
same-struct_else (Array' p a n) j h = refl

pub same-pointer_else : (t : Ty) (b : CType) → ((a : Box Ty Global) → t ≡ v.Pointer a → ⊥) → same (CType.Pointer b) (ty_of t) ≡ false
same-pointer_else Void j h = refl
same-pointer_else Char j h = refl
same-pointer_else Int j h = refl
same-pointer_else Unsigned j h = refl
same-pointer_else (Struct k) j h = refl
same-pointer_else (Pointer' p a) j h = absurd (h (record { ptr = p.ptr; alloc = p.alloc; value = a }) refl)
same-pointer_else (Array' p a n) j h = refl

pub same-array_else : (t : Ty) (b : CType) (m : ℕ) → ((a : Box Ty Global) (n : ℕ) → t ≡ v.Array a n → ⊥) → same (CType.Array b m) (ty_of t) ≡ false
same-array_else Void j m h = refl
same-array_else Char j m h = refl
same-array_else Int j m h = refl
same-array_else Unsigned j m h = refl
same-array_else (Struct k) j m h = refl
same-array_else (Pointer' p a) j m h = refl
same-array_else (Array' p a n) j m h = absurd (h (record { ptr = p.ptr; alloc = p.alloc; value = a }) n refl)

pub ruleset other_types = (same-struct_else, same-pointer_else, same-array_else)
