-- What the operations on the world give: never an end for a wrong kind, if their operands are of the right one.
use Rattle.std.proofs.Common.{◌≡◌, ℕ, zero, suc, ◌+◌, Bool, true, false, List, Option, Some, None, refl}
use Rattle.std.specs.Prelude.{◌==◌, ◌&&◌, ◌%◌, nat_lt, nat_le, if◌then◌else◌, ℤ, pos, negsuc, ◌+ℤ◌}
use Rattle.bb_words.specs.Steps.{size_of_width}
use Rattle.bb_words.specs.declared.steps.Width.{Width}
use Rattle.bb_words.specs.declared.steps.Width.TheVariants as width
use Rattle.bb_words.specs.declared.steps.OrderOp.{OrderOp}
use Rattle.size_table.specs.declared.memory_map.TheConstants.{STACK_START, MOST_CALLS, MOST_BYTES}
use Rattle.block_layout.specs.Layout.{Item, stack_under}
use Rattle.c_words.specs.declared.operators.BinaryOperator.{BinaryOperator}
use Rattle.c_words.specs.declared.operators.BinaryOperator.TheVariants as op
use Rattle.source_meaning.specs.declared.values.Pointer.{Pointer}
use Rattle.source_meaning.specs.declared.values.Pointer.TheVariants.{Null, To}
use Rattle.source_meaning.specs.declared.values.Value.{Value}
use Rattle.source_meaning.specs.declared.values.Value.TheVariants.{Num, Ptr}
use Rattle.source_meaning.specs.declared.values.Cell.{Cell}
use Rattle.source_meaning.specs.Objects.{Object, pad_of, stored_cells, number_in, pointer_in}
use Rattle.source_meaning.specs.Worlds.{World, Does, with_number, with_pointer, object_at, is_sound}
use Rattle.source_meaning.specs.Moves.{is_within, move_in, move}
use Rattle.source_meaning.specs.Accesses.{access_live, access_in, access, number_read, pointer_read, read_as, load, written_at, store}
use Rattle.source_meaning.specs.Comparisons.{comparing, same, within_one, ordered, elements_between, truth}
use Rattle.source_meaning.specs.Copies.{span, copy, fill, clear, initialized_with, initialize}
use Rattle.source_meaning.specs.Accounts.{enter}
use Rattle.source_meaning.specs.Numbers.{calculated}
use Rattle.meaning_kinds.specs.Kinds.{IsNum, IsPtr}
use Rattle.meaning_kinds.proofs.ValueKinds.{not_there, Anything, Gives, gives_value, gives_end, gives_then}

pub gives_branch : {A : Type 0} {P : A → Type 0} (b : Bool) {r q : Does A} → Gives P r → Gives P q → Gives P (if b then r else q)
gives_branch true x y = x
gives_branch false x y = y

pub with_number_gives : {A : Type 0} {P : A → Type 0} (v : Value) (f : ℕ → World → Does A) (w : World) → IsNum v → ((n : ℕ) → Gives P (f n w)) → Gives P (with_number v f w)
with_number_gives (Num n) f w is k = k n
with_number_gives (Ptr q) f w is k = absurd is

pub with_pointer_gives : {A : Type 0} {P : A → Type 0} (v : Value) (f : Pointer → World → Does A) (w : World) → IsPtr v → ((q : Pointer) → Gives P (f q w)) → Gives P (with_pointer v f w)
with_pointer_gives (Num n) f w is k = absurd is
with_pointer_gives (Ptr q) f w is k = k q

-- ---- Moves

pub move_gives : (g site line : ℕ) (d : ℤ) (q : Pointer) (w : World) → Gives Anything (move g site line d q w)
move_gives g site line d Null w = gives_end _ _ tt
move_gives g site line d (To k z) w = found (object_at w k)
  where
    found : (x : Option Object) → Gives Anything (move_in g site line k z d x w)
    found None = gives_end _ _ tt
    found (Some o) = gives_branch o.live (gives_branch (is_within g o.exponent (z +ℤ d)) (gives_value _ _ tt) (gives_end _ _ tt)) (gives_end _ _ tt)

-- ---- Accesses

pub access_gives : (size : ℕ) (q : Pointer) (w : World) → Gives Anything (access size q w)
access_gives size Null w = gives_end _ _ tt
access_gives size (To k z) w = found (object_at w k)
  where
    at : (o : Object) (z : ℤ) → Gives Anything (access_live size k o z w)
    at o (pos i) = gives_branch (nat_lt i (pad_of o)) (gives_branch (i % size == 0) (gives_branch (nat_le (i + size) o.length) (gives_value _ _ tt) (gives_end _ _ tt)) (gives_end _ _ tt)) (gives_end _ _ tt)
    at o (negsuc i) = gives_end _ _ tt

    found : (x : Option Object) → Gives Anything (access_in size k z x w)
    found None = gives_end _ _ tt
    found (Some o) = gives_branch o.live (at o z) (gives_end _ _ tt)

-- the kind of the values of a width
abbrev pub IsOf : Width → Value → Type 0
IsOf width.Byte v = IsNum v
IsOf width.Half v = IsNum v
IsOf width.SignedHalf v = IsNum v
IsOf width.Word v = IsNum v
IsOf width.Pointer v = IsPtr v

number_read_gives : (signed : Bool) (x : Option ℕ) (w : World) → Gives IsNum (number_read signed x w)
number_read_gives signed None w = gives_end _ _ tt
number_read_gives true (Some n) w = gives_value _ _ tt
number_read_gives false (Some n) w = gives_value _ _ tt

pointer_read_gives : (x : Option Pointer) (w : World) → Gives IsPtr (pointer_read x w)
pointer_read_gives None w = gives_end _ _ tt
pointer_read_gives (Some q) w = gives_branch (is_sound w q) (gives_value _ _ tt) (gives_end _ _ tt)

read_as_gives : (width : Width) (cs : List Cell) (w : World) → Gives (IsOf width) (read_as width cs w)
read_as_gives width.Byte cs w = number_read_gives false (number_in cs) w
read_as_gives width.Half cs w = number_read_gives false (number_in cs) w
read_as_gives width.SignedHalf cs w = number_read_gives true (number_in cs) w
read_as_gives width.Word cs w = number_read_gives false (number_in cs) w
read_as_gives width.Pointer cs w = pointer_read_gives (pointer_in cs) w

pub load_gives : (width : Width) (q : Pointer) (w : World) → Gives (IsOf width) (load width q w)
load_gives width q w = gives_then (access_gives (size_of_width width) q w) (λ a v h. read_as_gives width _ v)

-- a value of the kind of a width has cells
pub stored : (width : Width) (v : Value) → IsOf width v → (cs : List Cell) × (stored_cells width v ≡ Some cs)
stored width.Byte (Num n) is = (_, refl)
stored width.Half (Num n) is = (_, refl)
stored width.SignedHalf (Num n) is = (_, refl)
stored width.Word (Num n) is = (_, refl)
stored width.Pointer (Num n) is = absurd is
stored width.Byte (Ptr q) is = absurd is
stored width.Half (Ptr q) is = absurd is
stored width.SignedHalf (Ptr q) is = absurd is
stored width.Word (Ptr q) is = absurd is
stored width.Pointer (Ptr q) is = (_, refl)

written_gives : (width : Width) (v : Value) (a : ℕ × ℕ) (w : World) → IsOf width v → Gives Anything (written_at a (stored_cells width v) w)
written_gives width v a w is = let s = stored width v is in of (stored_cells width v) s.1
  where
    of : (x : Option (List Cell)) {cs : List Cell} → x ≡ Some cs → Gives Anything (written_at a x w)
    of None e = absurd (not_there e)
    of (Some cs) e = gives_value _ _ tt

pub store_gives : (width : Width) (q : Pointer) (v : Value) (w : World) → IsOf width v → Gives Anything (store width q v w)
store_gives width q v w is = gives_then (access_gives (size_of_width width) q w) (λ a u h. written_gives width v a u is)

pub initialize_gives : (k i : ℕ) (width : Width) (v : Value) (w : World) → IsOf width v → Gives Anything (initialize k i width v w)
initialize_gives k i width v w is = let s = stored width v is in of (stored_cells width v) s.1
  where
    of : (x : Option (List Cell)) {cs : List Cell} → x ≡ Some cs → Gives Anything (initialized_with k i (size_of_width width) x w)
    of None e = absurd (not_there e)
    of (Some cs) e = gives_value _ _ tt

-- ---- Ranges of bytes

span_gives : (g site line n : ℕ) (q : Pointer) (w : World) → Gives Anything (span g site line n q w)
span_gives g site line n q w =
    gives_branch (nat_lt MOST_BYTES n) (gives_end _ _ tt)
    (gives_then (access_gives 1 q w) (λ a v h. gives_then (move_gives g site line _ q v) (λ r u i. gives_then (access_gives 1 r u) (λ b t j. gives_value _ _ tt))))

pub copy_gives : (g a b line n : ℕ) (q r : Pointer) (w : World) → Gives Anything (copy g a b line n q r w)
copy_gives g a b line zero q r w = gives_value _ _ tt
copy_gives g a b line (suc n) q r w = gives_then (span_gives g a line (suc n) r w) (λ x v h. gives_then (span_gives g b line (suc n) q v) (λ y u i. gives_value _ _ tt))

pub fill_gives : (g site line n byte : ℕ) (q : Pointer) (w : World) → Gives Anything (fill g site line n byte q w)
fill_gives g site line zero byte q w = gives_value _ _ tt
fill_gives g site line (suc n) byte q w = gives_then (span_gives g site line (suc n) q w) (λ x v h. gives_value _ _ tt)

pub clear_gives : (k : ℕ) (w : World) → Gives Anything (clear k w)
clear_gives k w = gives_value _ _ tt

-- ---- Comparisons

comparing_gives : {A : Type 0} {P : A → Type 0} (f : Pointer → Pointer → World → Does A) (v x : Value) (w : World) → IsPtr v → IsPtr x → ((q r : Pointer) → Gives P (f q r w)) → Gives P (comparing f v x w)
comparing_gives f v x w v_is x_is k =
    with_pointer_gives v _ w v_is (λ q. with_pointer_gives x _ w x_is (λ r. gives_branch (is_sound w q && is_sound w r) (k q r) (gives_end _ _ tt)))

pub same_gives : (v x : Value) (w : World) → IsPtr v → IsPtr x → Gives IsNum (same v x w)
same_gives v x w i j = comparing_gives _ v x w i j (λ q r. gives_value _ _ tt)

within_gives : (f : ℤ → ℤ → ℕ) (q r : Pointer) (w : World) → Gives IsNum (within_one f q r w)
within_gives f Null r w = gives_end _ _ tt
within_gives f (To j y) Null w = gives_end _ _ tt
within_gives f (To j y) (To k z) w = gives_branch (j == k) (gives_value _ _ tt) (gives_end _ _ tt)

pub ordered_gives : (o : OrderOp) (v x : Value) (w : World) → IsPtr v → IsPtr x → Gives IsNum (ordered o v x w)
ordered_gives o v x w i j = comparing_gives _ v x w i j (λ q r. within_gives _ q r w)

pub elements_give : (size : ℕ) (v x : Value) (w : World) → IsPtr v → IsPtr x → Gives IsNum (elements_between size v x w)
elements_give size v x w i j = comparing_gives _ v x w i j (λ q r. within_gives _ q r w)

pub truth_gives : (v : Value) (w : World) → Gives Anything (truth v w)
truth_gives (Num n) w = gives_value _ _ tt
truth_gives (Ptr Null) w = gives_value _ _ tt
truth_gives (Ptr (To k z)) w = gives_branch (is_sound w (To k z)) (gives_value _ _ tt) (gives_end _ _ tt)

pub calculated_gives : (o : BinaryOperator) (u : Bool) (line x y : ℕ) (w : World) → Gives IsNum (calculated o u line x y w)
calculated_gives op.Divide u line x y w = gives_branch (y == 0) (gives_end _ _ tt) (gives_value _ _ tt)
calculated_gives op.Remainder u line x y w = gives_branch (y == 0) (gives_end _ _ tt) (gives_value _ _ tt)
calculated_gives o u line x y w = gives_value _ _ tt

-- ---- Frames

pub enter_gives : (g line : ℕ) (items : List Item) (w : World) → Gives Anything (enter g line items w)
enter_gives g line items w =
    gives_branch (nat_le MOST_CALLS w.depth) (gives_end _ _ tt) (gives_branch (nat_lt (stack_under g w.stack items) STACK_START) (gives_end _ _ tt) (gives_value _ _ tt))
