-- When mid code is well formed: all numbers are in range, each value that is read was set as what it is read as, and the
-- sites of moves are numbered without gaps.
use Rattle.std.specs.Prelude.{◌≡◌, ◌==◌, ℕ, suc, ◌+◌, ◌%◌, ◌<◌, ◌≤◌, true, if◌then◌else◌, All}
use Rattle.std.specs.Prelude.{List, [], ◌∷◌, ◌++◌, length, Option, Some, None, IsSome, slice_get, slice_index_or, ℤ}
use Rattle.bb_words.specs.Numbers.{signed}
use Rattle.bb_words.specs.Steps.{size_of_width}
use Rattle.block_layout.specs.Layout.{Item}
use Rattle.block_layout.specs.Objects.{Stored}
use Rattle.typed_tree.specs.declared.typed.GlobalObject.TheVariants as global
use Rattle.typed_tree.specs.declared.typed.InitialByte.{InitialByte}
use Rattle.typed_tree.specs.declared.typed.InitialByte.TheVariants as initial
use Rattle.typed_tree.specs.declared.typed_expr.LibCall.{LibCall}
use Rattle.typed_tree.specs.declared.typed_expr.LibCall.TheVariants as lib
use Rattle.mid_code.specs.declared.code.MidObject.{MidObject}
use Rattle.mid_code.specs.declared.code.MidObject.TheVariants as object
use Rattle.mid_code.specs.Code.{Step, Number, NullPtr, Same, Arith, Divide, Named, Move, MoveBy, Load, Store, Clear, Init, CopyBytes, PtrSame}
use Rattle.mid_code.specs.Code.{PtrOrder, PtrDiff, Call, Library, If, Block, Loop, Exit, Return, LineMark, Steps, stop, step, Function, Program}
use Rattle.mid_code.specs.Kinds.{IsNumber, Unknown, Kinds, Signature, AreKinds, falls_all}

-- ---- Ranges

abbrev pub IsLine : ℕ → Type 0
IsLine line = (1 ≤ line) × (line ≤ 1048575)

abbrev pub most_values : ℕ
most_values = 250

abbrev pub most_params : ℕ
most_params = 8

-- the length of the item of a number, if there is one
abbrev pub length_of : ℕ → List Item → Option ℕ
length_of j [] = None
length_of j (item ∷ items) = if item.number == j then Some item.length else length_of j items

abbrev pub stored_length : Option Stored → Option ℕ
stored_length None = None
stored_length (Some o) = Some o.length

-- the length of an object that a function names
abbrev pub object_length : Program → Function → MidObject → Option ℕ
object_length p f (object.Global k) = stored_length (slice_get p.globals k)
object_length p f (object.Local j) = length_of j f.blocks

abbrev pub IsObject : Program → Function → MidObject → Type 0
IsObject p f o = (n : ℕ) × (object_length p f o ≡ Some n)

-- a part of so many bytes lies wholly in the object, at a multiple of its size
abbrev pub IsPart : Program → Function → MidObject → (offset size : ℕ) → Type 0
IsPart p f o offset size = (n : ℕ) × (object_length p f o ≡ Some n) × (offset + size ≤ n) × (offset % size ≡ 0)

-- The distance of a move is a signed word.
abbrev pub IsDistance : ℤ → Type 0
IsDistance z = (n : ℕ) × (n < 4294967296) × (z ≡ signed n)

-- A copy has the sites of its source and of its target, a set that of its target, and no other call of the library has one.
abbrev pub AreSites : LibCall → Option ℕ → Option ℕ → Type 0
AreSites lib.Memcpy a b = IsSome a × IsSome b
AreSites lib.Memset a b = IsSome a × (b ≡ None)
AreSites other a b = (a ≡ None) × (b ≡ None)

-- a call has as many arguments as the function has parameters
abbrev pub IsCallOf : Program → (function : ℕ) → (args : List ℕ) → Type 0
IsCallOf p k args = (h : Function) × (slice_get p.functions k ≡ Some h) × (length args ≡ h.params)

module _ (p : Program) (f : Function) where
  abbrev pub IsValue : ℕ → Type 0
  IsValue v = v < f.values

  abbrev mutual
    -- a step inside so many Blocks and Loops
    pub IsInRange : (levels : ℕ) → Step → Type 0
    IsInRange d (Number to n) = IsValue to × (n < 4294967296)
    IsInRange d (NullPtr to) = IsValue to
    IsInRange d (Same to from) = IsValue to × IsValue from
    IsInRange d (Arith to o a b) = IsValue to × IsValue a × IsValue b
    IsInRange d (Divide to o a b line) = IsValue to × IsValue a × IsValue b × IsLine line
    IsInRange d (Named to o) = IsValue to × IsObject p f o
    IsInRange d (Move site to from by scale down line) = IsValue to × IsValue from × IsValue by × (scale < 4294967296) × IsLine line
    IsInRange d (MoveBy site to from z line) = IsValue to × IsValue from × IsDistance z × IsLine line
    IsInRange d (Load to at w line) = IsValue to × IsValue at × IsLine line
    IsInRange d (Store at from w) = IsValue at × IsValue from
    IsInRange d (Clear o) = IsObject p f o
    IsInRange d (Init o offset from w) = IsValue from × IsPart p f o offset (size_of_width w)
    IsInRange d (CopyBytes a b from to n line) = IsValue from × IsValue to × (n < 4294967296) × IsLine line
    IsInRange d (PtrSame to a b) = IsValue to × IsValue a × IsValue b
    IsInRange d (PtrOrder to o a b) = IsValue to × IsValue a × IsValue b
    IsInRange d (PtrDiff to a b size) = IsValue to × IsValue a × IsValue b × (1 ≤ size) × (size ≤ 1048576)
    IsInRange d (Call to k args) = IsValue to × IsCallOf p k args × All IsValue args
    IsInRange d (Library to which args line a b) = IsValue to × All IsValue args × AreSites which a b × IsLine line
    IsInRange d (If cond xs ys) = IsValue cond × AreInRange d xs × AreInRange d ys
    IsInRange d (Block body) = AreInRange (suc d) body
    IsInRange d (Loop body) = AreInRange (suc d) body
    IsInRange d (Exit n) = (1 ≤ n) × (n ≤ d)
    IsInRange d (Return from) = IsValue from
    IsInRange d (LineMark line) = IsLine line

    pub AreInRange : (levels : ℕ) → Steps → Type 0
    AreInRange d stop = Unit {0}
    AreInRange d (step x xs) = IsInRange d x × AreInRange d xs

-- ---- Sites

abbrev pub site_if_any : Option ℕ → List ℕ
site_if_any None = []
site_if_any (Some site) = site ∷ []

abbrev mutual
  -- the numbers of the moves of a step, as they stand
  pub sites_in : Step → List ℕ
  sites_in (Move site to from by scale down line) = site ∷ []
  sites_in (MoveBy site to from d line) = site ∷ []
  sites_in (CopyBytes a b from to n line) = a ∷ b ∷ []
  sites_in (Library to which args line a b) = site_if_any a ++ site_if_any b
  sites_in (If cond xs ys) = all_sites xs ++ all_sites ys
  sites_in (Block body) = all_sites body
  sites_in (Loop body) = all_sites body
  sites_in x = []

  pub all_sites : Steps → List ℕ
  all_sites stop = []
  all_sites (step x xs) = sites_in x ++ all_sites xs

abbrev pub sites_of_functions : List Function → List ℕ
sites_of_functions [] = []
sites_of_functions (f ∷ fs) = all_sites f.body ++ sites_of_functions fs

abbrev pub count_in : ℕ → List ℕ → ℕ
count_in n [] = 0
count_in n (m ∷ ms) = if m == n then suc (count_in n ms) else count_in n ms

-- the numbers below their count, each once
abbrev pub AreAllOnce : List ℕ → Type 0
AreAllOnce ns = (n : ℕ) → n < length ns → count_in n ns ≡ 1

-- ---- Functions and programs

-- numbers that rise strictly, each above the one before
abbrev pub AreRising : (least : ℕ) → List Item → Type 0
AreRising least [] = Unit {0}
AreRising least (item ∷ items) = (least ≤ item.number) × AreRising (suc item.number) items

abbrev pub IsInitialByte : Program → InitialByte → Type 0
IsInitialByte p (initial.Byte b) = b < 256
IsInitialByte p (initial.PointerPart (global.Named k) part) = (k < p.named) × (part < 4)
IsInitialByte p (initial.PointerPart (global.Text k) part) = (p.named + k < length p.globals) × (part < 4)

pub record IsStored (p : Program) (o : Stored) : Type 0 where
  pub fits : length o.initial ≤ o.length
  pub bytes : All (IsInitialByte p) o.initial

-- at the start of a function a parameter is of its kind, and every other value is a number
abbrev pub first_kinds : Signature → Kinds
first_kinds s v = slice_index_or s.params v IsNumber

pub record IsFunction (p : Program) (signatures : List Signature) (f : Function) (s : Signature) : Type 0 where
  pub line : IsLine f.line
  pub values : f.values ≤ most_values
  pub params : f.params ≤ most_params
  pub params_are_values : f.params ≤ f.values
  pub blocks : AreRising 0 f.blocks
  pub ranges : AreInRange p f 0 f.body
  pub signature : length s.params ≡ f.params
  pub known : All (λ k. ¬ (k ≡ Unknown)) s.params
  pub gives : ¬ (s.result ≡ Unknown)
  pub last : Kinds
  pub kinds : AreKinds signatures s.result f.body (first_kinds s) last []
  pub end : falls_all f.body ≡ true → s.result ≡ IsNumber

-- each function with its signature
abbrev pub AreFunctions : Program → List Signature → List Function → List Signature → Type 0
AreFunctions p all [] [] = Unit {0}
AreFunctions p all [] (s ∷ ss) = ⊥
AreFunctions p all (f ∷ fs) [] = ⊥
AreFunctions p all (f ∷ fs) (s ∷ ss) = IsFunction p all f s × AreFunctions p all fs ss

pub record Formed (p : Program) : Type 0 where
  pub named : p.named ≤ length p.globals
  pub globals : All (IsStored p) p.globals
  pub signatures : List Signature
  pub functions : AreFunctions p signatures p.functions signatures
  pub sites : AreAllOnce (sites_of_functions p.functions)
  pub main : Function
  pub main_found : slice_get p.functions p.main ≡ Some main
  pub main_params : main.params ≡ 0
  pub main_result : (s : Signature) → slice_get signatures p.main ≡ Some s → s.result ≡ IsNumber
