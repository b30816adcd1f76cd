-- Which values are numbers and which are pointers, on every path through a function. A path is one of the structure alone:
-- either branch of an If may be taken, and a Loop may make any number of turns.
use Rattle.std.specs.Prelude.{◌≡◌, ◌≢◌, ◌==◌, ◌⊎◌, ℕ, zero, suc, Bool, true, false}
use Rattle.std.specs.Prelude.{◌&&◌, ◌||◌, if◌then◌else◌, List, [], ◌∷◌, map, Some, slice_get}
use Rattle.bb_words.specs.declared.steps.Width.{Width}
use Rattle.bb_words.specs.declared.steps.Width.TheVariants as width
use Rattle.typed_tree.specs.declared.typed_expr.LibCall.{LibCall}
use Rattle.typed_tree.specs.declared.typed_expr.LibCall.TheVariants as lib
use Rattle.mid_code.specs.Code.{Step, Number, NullPtr, Same, Arith, Divide, Named, Move, MoveBy, Load, Store, Clear, Init, CopyBytes}
use Rattle.mid_code.specs.Code.{PtrSame, PtrOrder, PtrDiff, Call, Library, If, Block, Loop, Exit, Return, LineMark, Steps, stop, step}

-- what a value was last set as; Unknown where that differs from path to path
pub data Kind : Type 0 where
  IsNumber : Kind
  IsPointer : Kind
  Unknown : Kind

abbrev pub Kinds : Type 0
Kinds = (value : ℕ) → Kind

abbrev pub with_kind : ℕ → Kind → Kinds → Kinds
with_kind i k ks j = if j == i then k else ks j

-- Kinds say no more than others do.
abbrev pub Forgets : (less more : Kinds) → Type 0
Forgets less more = (value : ℕ) → (less value ≡ Unknown) ⊎ (less value ≡ more value)

-- the kinds of a function's parameters and of its result
pub record Signature : Type 0 where
  pub params : List Kind
  pub result : Kind

abbrev pub kind_of_width : Width → Kind
kind_of_width width.Pointer = IsPointer
kind_of_width width.Byte = IsNumber
kind_of_width width.Half = IsNumber
kind_of_width width.SignedHalf = IsNumber
kind_of_width width.Word = IsNumber

-- the functions of the library; those without a result give a number
abbrev pub signature_of : LibCall → Signature
signature_of lib.Putchar = record { params = IsNumber ∷ []; result = IsNumber }
signature_of lib.Getchar = record { params = []; result = IsNumber }
signature_of lib.Exit = record { params = IsNumber ∷ []; result = IsNumber }
signature_of lib.Malloc = record { params = IsNumber ∷ []; result = IsPointer }
signature_of lib.Calloc = record { params = IsNumber ∷ IsNumber ∷ []; result = IsPointer }
signature_of lib.Free = record { params = IsPointer ∷ []; result = IsNumber }
signature_of lib.Memcpy = record { params = IsPointer ∷ IsPointer ∷ IsNumber ∷ []; result = IsPointer }
signature_of lib.Memset = record { params = IsPointer ∷ IsNumber ∷ IsNumber ∷ []; result = IsPointer }

-- arguments of these kinds
abbrev pub ArePassed : Kinds → (args : List ℕ) → (params : List Kind) → Type 0
ArePassed ks args params = map ks args ≡ params

-- the signature of the function that a call names
abbrev pub IsCalled : List Signature → Kinds → (function : ℕ) → (args : List ℕ) → (result : Kind) → Type 0
IsCalled signatures ks f args result =
    (s : Signature) × (slice_get signatures f ≡ Some s) × ArePassed ks args s.params × (s.result ≡ result)

-- the kinds at an exit out of so many constructs, those around a step being listed from the innermost
abbrev pub IsExit : List Kinds → (levels : ℕ) → Kinds → Type 0
IsExit exits zero ks = ⊥
IsExit exits (suc n) ks = (target : Kinds) × (slice_get exits n ≡ Some target) × Forgets target ks

-- Where values have the kinds `before`, each value that a step reads is of the kind that it wants, and afterwards values
-- have the kinds `after`. The kinds at the exits from the constructs around it are listed, and a Return gives a value of the
-- kind of the result.
module _ (signatures : List Signature) (result : Kind) where
  abbrev mutual
    pub IsKind : Step → (before after : Kinds) → (exits : List Kinds) → Type 0
    IsKind (Number to n) k l es = l ≡ with_kind to IsNumber k
    IsKind (NullPtr to) k l es = l ≡ with_kind to IsPointer k
    IsKind (Same to from) k l es = l ≡ with_kind to (k from) k
    IsKind (Arith to o a b) k l es = (k a ≡ IsNumber) × (k b ≡ IsNumber) × (l ≡ with_kind to IsNumber k)
    IsKind (Divide to o a b line) k l es = (k a ≡ IsNumber) × (k b ≡ IsNumber) × (l ≡ with_kind to IsNumber k)
    IsKind (Named to o) k l es = l ≡ with_kind to IsPointer k
    IsKind (Move site to from by scale down line) k l es = (k from ≡ IsPointer) × (k by ≡ IsNumber) × (l ≡ with_kind to IsPointer k)
    IsKind (MoveBy site to from d line) k l es = (k from ≡ IsPointer) × (l ≡ with_kind to IsPointer k)
    IsKind (Load to at w line) k l es = (k at ≡ IsPointer) × (l ≡ with_kind to (kind_of_width w) k)
    IsKind (Store at from w) k l es = (k at ≡ IsPointer) × (k from ≡ kind_of_width w) × (l ≡ k)
    IsKind (Clear o) k l es = l ≡ k
    IsKind (Init o offset from w) k l es = (k from ≡ kind_of_width w) × (l ≡ k)
    IsKind (CopyBytes a b from to n line) k l es = (k from ≡ IsPointer) × (k to ≡ IsPointer) × (l ≡ k)
    IsKind (PtrSame to a b) k l es = (k a ≡ IsPointer) × (k b ≡ IsPointer) × (l ≡ with_kind to IsNumber k)
    IsKind (PtrOrder to o a b) k l es = (k a ≡ IsPointer) × (k b ≡ IsPointer) × (l ≡ with_kind to IsNumber k)
    IsKind (PtrDiff to a b size) k l es = (k a ≡ IsPointer) × (k b ≡ IsPointer) × (l ≡ with_kind to IsNumber k)
    IsKind (Call to f args) k l es = (r : Kind) × IsCalled signatures k f args r × (l ≡ with_kind to r k)
    IsKind (Library to which args line a b) k l es =
        ArePassed k args (signature_of which).params × (l ≡ with_kind to (signature_of which).result k)
    IsKind (If cond xs ys) k l es = (k cond ≢ Unknown) × AreKinds xs k l es × AreKinds ys k l es
    IsKind (Block body) k l es = AreKinds body k l (l ∷ es)
    IsKind (Loop body) k l es = (head : Kinds) × Forgets head k × AreKinds body head head (l ∷ es)
    IsKind (Exit n) k l es = IsExit es n k
    IsKind (Return from) k l es = k from ≡ result
    IsKind (LineMark line) k l es = l ≡ k

    pub AreKinds : Steps → (before after : Kinds) → (exits : List Kinds) → Type 0
    AreKinds stop k l es = Forgets l k
    AreKinds (step x xs) k l es = (between : Kinds) × IsKind x k between es × AreKinds xs between l es

-- ---- Ways out

-- whether some path from a step goes on behind it, and whether some path leaves by an exit out of so many constructs
abbrev mutual
  pub falls : Step → Bool
  falls (If cond xs ys) = falls_all xs || falls_all ys
  falls (Block body) = falls_all body || exits_all 1 body
  falls (Loop body) = exits_all 1 body
  falls (Exit n) = false
  falls (Return from) = false
  falls x = true

  pub falls_all : Steps → Bool
  falls_all stop = true
  falls_all (step x xs) = falls x && falls_all xs

  pub exits : (levels : ℕ) → Step → Bool
  exits n (If cond xs ys) = exits_all n xs || exits_all n ys
  exits n (Block body) = exits_all (suc n) body
  exits n (Loop body) = exits_all (suc n) body
  exits n (Exit m) = m == n
  exits n x = false

  pub exits_all : (levels : ℕ) → Steps → Bool
  exits_all n stop = false
  exits_all n (step x xs) = exits n x || (falls x && exits_all n xs)
