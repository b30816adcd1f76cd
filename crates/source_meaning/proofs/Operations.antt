-- Each operation on the world leads to a later one.
use Rattle.std.proofs.Common.{◌≡◌, ℕ, zero, suc, ◌+◌, ◌*◌, Bool, true, false, List, [], ◌∷◌, Option, Some, None, refl, length}
use Rattle.std.specs.Prelude.{◌==◌, ◌&&◌, nat_le, nat_lt, ◌%◌, ℤ, pos, negsuc, ◌+ℤ◌}
use Rattle.bb_words.specs.Answers.{Goes}
use Rattle.bb_words.specs.declared.steps.Width.{Width}
use Rattle.bb_words.specs.declared.steps.Width.TheVariants as width
use Rattle.bb_words.specs.declared.steps.OrderOp.{OrderOp}
use Rattle.bb_words.specs.declared.steps.OrderOp.TheVariants as order
use Rattle.bb_words.specs.Steps.{size_of_width}
use Rattle.size_table.specs.declared.memory_map.TheConstants.{STACK_START, MOST_CALLS, MOST_BYTES}
use Rattle.size_table.specs.Pads.{exponent_of}
use Rattle.buddy_heap.specs.Places.{place_of}
use Rattle.block_layout.specs.Layout.{Item, Placed, layout, stack_under}
use Rattle.c_words.specs.declared.operators.BinaryOperator.{BinaryOperator}
use Rattle.c_words.specs.declared.operators.BinaryOperator.TheVariants as op
use Rattle.c_words.specs.declared.operators.StepOperator.{StepOperator}
use Rattle.typed_tree.specs.declared.typed_expr.LibCall.{LibCall}
use Rattle.typed_tree.specs.declared.typed_expr.LibCall.TheVariants as lib
use Rattle.typed_tree.specs.Types.{CType, is_pointer}
use Rattle.typed_tree.specs.TypedTree.{CStruct}
use Rattle.source_meaning.specs.declared.values.Pointer.{Pointer}
use Rattle.source_meaning.specs.declared.values.Pointer.TheVariants.{Null, To}
use Rattle.source_meaning.specs.declared.values.Value.{Value}
use Rattle.source_meaning.specs.declared.values.Value.TheVariants.{Num, Ptr}
use Rattle.source_meaning.specs.declared.values.Cell.{Cell}
use Rattle.source_meaning.specs.declared.values.ObjectKind.{ObjectKind}
use Rattle.source_meaning.specs.declared.values.ObjectKind.TheVariants.{Local}
use Rattle.source_meaning.specs.Objects.{Object, Cells, pad_of, number_in, pointer_in, stored_cells, same_int}
use Rattle.source_meaning.specs.Worlds.{World, Does, Moved, made, all_ended, object_at, is_sound, is_heap, heap_blocks, with_number, with_pointer}
use Rattle.source_meaning.specs.Numbers.{calculated}
use Rattle.source_meaning.specs.Moves.{move, move_in, is_within, distance}
use Rattle.source_meaning.specs.Accesses.{access, access_in, access_live, number_read, pointer_read, read_as, load, store, written_at}
use Rattle.source_meaning.specs.Comparisons.{with_sound, comparing, same, within_one, ordered, elements_between, truth}
use Rattle.source_meaning.specs.Copies.{span, copy, fill, clear, initialize, initialized_with, with_bytes}
use Rattle.source_meaning.specs.Accounts.{object_of, all_made, entered_at, enter, leave, allocate, allocated_at, free, freed_in, put, get, get_from, library, argument}
use Rattle.source_meaning.specs.Operators.{move_by, cast, on_two_numbers, unlike, on_binary, step, is_down}
use Rattle.source_meaning.specs.Laws.{Follows, OperationsGrow}
use Rattle.source_meaning.proofs.Later.{begins_same, stay, follows_same, follows_then, noted_follows, made_follows, ended_follows, all_ended_follows, Leads, goes_leads, ends_leads, leads_then, if_leads, either_leads}

-- operands
number_leads : {A : Type 0} (v : Value) (f : ℕ → World → Does A) (w : World) → ((n : ℕ) → Leads w (f n w)) → Leads w (with_number v f w)
number_leads (Num n) f w h = h n
number_leads (Ptr q) f w h = ends_leads _

pointer_leads : {A : Type 0} (v : Value) (f : Pointer → World → Does A) (w : World) → ((q : Pointer) → Leads w (f q w)) → Leads w (with_pointer v f w)
pointer_leads (Num n) f w h = ends_leads _
pointer_leads (Ptr q) f w h = h q

-- ---- Moves and accesses

pub move_leads : (g site line : ℕ) (d : ℤ) (q : Pointer) (w : World) → Leads w (move g site line d q w)
move_leads g site line d Null w = ends_leads _
move_leads g site line d (To k z) w = found (object_at w k)
  where
    found : (x : Option Object) → Leads w (move_in g site line k z d x w)
    found None = ends_leads _
    found (Some o) = if_leads o.live (if_leads (is_within g o.exponent (z +ℤ d)) (record { to = noted_follows (Moved site (To k z) (To k (z +ℤ d))) w }) (ends_leads _)) (ends_leads _)

pub access_leads : (size : ℕ) (q : Pointer) (w : World) → Leads w (access size q w)
access_leads size Null w = ends_leads _
access_leads size (To k z) w = found (object_at w k)
  where
    at : (o : Object) (z : ℤ) → Leads w (access_live size k o z w)
    at o (pos i) = if_leads (nat_lt i (pad_of o)) (if_leads (i % size == 0) (if_leads (nat_le (i + size) o.length) (goes_leads _) (ends_leads _)) (ends_leads _)) (ends_leads _)
    at o (negsuc i) = ends_leads _

    found : (x : Option Object) → Leads w (access_in size k z x w)
    found None = ends_leads _
    found (Some o) = if_leads o.live (at o z) (ends_leads _)

number_read_leads : (signed : Bool) (x : Option ℕ) (w : World) → Leads w (number_read signed x w)
number_read_leads signed None w = ends_leads _
number_read_leads true (Some n) w = goes_leads _
number_read_leads false (Some n) w = goes_leads _

pointer_read_leads : (x : Option Pointer) (w : World) → Leads w (pointer_read x w)
pointer_read_leads None w = ends_leads _
pointer_read_leads (Some q) w = if_leads (is_sound w q) (goes_leads _) (ends_leads _)

read_as_leads : (width : Width) (cs : List Cell) (w : World) → Leads w (read_as width cs w)
read_as_leads width.Byte cs w = number_read_leads false (number_in cs) w
read_as_leads width.Half cs w = number_read_leads false (number_in cs) w
read_as_leads width.SignedHalf cs w = number_read_leads true (number_in cs) w
read_as_leads width.Word cs w = number_read_leads false (number_in cs) w
read_as_leads width.Pointer cs w = pointer_read_leads (pointer_in cs) w

pub load_leads : (width : Width) (q : Pointer) (w : World) → Leads w (load width q w)
load_leads width q w = leads_then (access_leads (size_of_width width) q w) (λ a v. read_as_leads width _ v)

written_leads : (a : ℕ × ℕ) (x : Option (List Cell)) (w : World) → Leads w (written_at a x w)
written_leads a None w = ends_leads _
written_leads a (Some cs) w = record { to = record { output = begins_same; trail = begins_same; taken = []; input = refl; objects = stay w.objects } }

pub store_leads : (width : Width) (q : Pointer) (x : Value) (w : World) → Leads w (store width q x w)
store_leads width q x w = leads_then (access_leads (size_of_width width) q w) (λ a v. written_leads a (stored_cells width x) v)

-- ---- Comparisons

sound_leads : {A : Type 0} (f : Pointer → Pointer → World → Does A) (q r : Pointer) (w : World) → Leads w (f q r w) → Leads w (with_sound f q r w)
sound_leads f q r w h = if_leads (is_sound w q && is_sound w r) h (ends_leads _)

comparing_leads : {A : Type 0} (f : Pointer → Pointer → World → Does A) (v x : Value) (w : World) → ((q r : Pointer) → Leads w (f q r w)) → Leads w (comparing f v x w)
comparing_leads f v x w h = pointer_leads v _ w (λ q. pointer_leads x _ w (λ r. sound_leads f q r w (h q r)))

pub same_leads : (v x : Value) (w : World) → Leads w (same v x w)
same_leads v x w = comparing_leads _ v x w (λ q r. goes_leads _)

within_one_leads : (f : ℤ → ℤ → ℕ) (q r : Pointer) (w : World) → Leads w (within_one f q r w)
within_one_leads f Null r w = ends_leads _
within_one_leads f (To j y) Null w = ends_leads _
within_one_leads f (To j y) (To k z) w = if_leads (j == k) (goes_leads _) (ends_leads _)

pub ordered_leads : (o : OrderOp) (v x : Value) (w : World) → Leads w (ordered o v x w)
ordered_leads o v x w = comparing_leads _ v x w (λ q r. within_one_leads _ q r w)

pub elements_lead : (size : ℕ) (v x : Value) (w : World) → Leads w (elements_between size v x w)
elements_lead size v x w = comparing_leads _ v x w (λ q r. within_one_leads _ q r w)

pub truth_leads : (v : Value) (w : World) → Leads w (truth v w)
truth_leads (Num n) w = goes_leads _
truth_leads (Ptr Null) w = goes_leads _
truth_leads (Ptr (To k z)) w = if_leads (is_sound w (To k z)) (goes_leads _) (ends_leads _)

-- ---- Ranges of bytes

span_leads : (g site line n : ℕ) (q : Pointer) (w : World) → Leads w (span g site line n q w)
span_leads g site line n q w =
    if_leads (nat_lt MOST_BYTES n) (ends_leads _)
    (leads_then (access_leads 1 q w) (λ a v. leads_then (move_leads g site line _ q v) (λ r u. leads_then (access_leads 1 r u) (λ b t. goes_leads a))))

bytes_lead : {w : World} (n : ℕ) (cs : Cells) → Leads {A = Unit {0}} w (Goes tt (with_bytes n cs w))
bytes_lead {w = w} n cs = record { to = record { output = begins_same; trail = begins_same; taken = []; input = refl; objects = stay w.objects } }

pub copy_leads : (g a b line n : ℕ) (q r : Pointer) (w : World) → Leads w (copy g a b line n q r w)
copy_leads g a b line zero q r w = goes_leads _
copy_leads g a b line (suc n) q r w = leads_then (span_leads g a line (suc n) r w) (λ x v. leads_then (span_leads g b line (suc n) q v) (λ y u. bytes_lead (suc n) _))

fill_leads : (g site line n byte : ℕ) (q : Pointer) (w : World) → Leads w (fill g site line n byte q w)
fill_leads g site line zero byte q w = goes_leads _
fill_leads g site line (suc n) byte q w = leads_then (span_leads g site line (suc n) q w) (λ x v. bytes_lead (suc n) _)

pub clear_leads : (k : ℕ) (w : World) → Leads w (clear k w)
clear_leads k w = bytes_lead _ _

pub initialize_leads : (k i : ℕ) (width : Width) (v : Value) (w : World) → Leads w (initialize k i width v w)
initialize_leads k i width v w = with_cells (stored_cells width v)
  where
    with_cells : (x : Option (List Cell)) → Leads w (initialized_with k i (size_of_width width) x w)
    with_cells None = ends_leads _
    with_cells (Some cs) = bytes_lead _ _

-- ---- Objects that come and go

all_made_follow : (kind : ObjectKind) (start : ℕ) (plan : List Placed) (w : World) → Follows w (all_made kind start plan w)
all_made_follow kind start [] w = follows_same
all_made_follow kind start (x ∷ xs) w = follows_then (made_follows (object_of kind start x) w) (all_made_follow kind start xs (made (object_of kind start x) w))

placed_follow : (base : ℕ) (plan : List Placed) (w : World) → Follows w (entered_at base plan w)
placed_follow base plan w =
    let v : World = record w { depth = suc w.depth; stack = base } in
    let first : Follows w v = record { output = begins_same; trail = begins_same; taken = []; input = refl; objects = stay w.objects } in
    follows_then first (all_made_follow Local base plan v)

pub enter_leads : (g line : ℕ) (items : List Item) (w : World) → Leads w (enter g line items w)
enter_leads g line items w =
    if_leads (nat_le MOST_CALLS w.depth) (ends_leads _) (if_leads (nat_lt (stack_under g w.stack items) STACK_START) (ends_leads _) (record { to = placed_follow (stack_under g w.stack items) (layout g items) w }))

pub leave_follows : (items : List Item) (caller w : World) → Follows w (leave items caller w)
leave_follows items caller w =
    let v : World = all_ended (length items) (length caller.objects) w in
    let last : Follows v (record v { depth = caller.depth; stack = caller.stack }) = record { output = begins_same; trail = begins_same; taken = []; input = refl; objects = stay v.objects } in
    follows_then (all_ended_follows (length items) (length caller.objects) w) last

allocate_leads : (g n : ℕ) (w : World) → Leads w (allocate g n w)
allocate_leads g n w = if_leads (nat_lt MOST_BYTES n) (goes_leads _) (found (place_of (heap_blocks w.objects) (exponent_of g n)))
  where
    found : (x : Option ℕ) → Leads w (allocated_at g n x w)
    found None = goes_leads _
    found (Some base) = record { to = made_follows _ w }

free_leads : (line : ℕ) (q : Pointer) (w : World) → Leads w (free line q w)
free_leads line Null w = goes_leads _
free_leads line (To k z) w = found (object_at w k)
  where
    found : (x : Option Object) → Leads w (freed_in line k z x w)
    found None = ends_leads _
    found (Some o) = if_leads o.live (if_leads (is_heap o.kind && same_int z (pos 0)) (record { to = ended_follows k w }) (ends_leads _)) (ends_leads _)

put_leads : (n : ℕ) (w : World) → Leads w (put n w)
put_leads n w = record { to = record { output = record { more = n % 256 ∷ []; all = refl }; trail = begins_same; taken = []; input = refl; objects = stay w.objects } }

get_leads : (w : World) → Leads w (get w)
get_leads w = from w.rest refl
  where
    from : (xs : List ℕ) → w.rest ≡ xs → Leads w (get_from xs w)
    from [] e = goes_leads _
    from (x ∷ xs) e = record { to = record { output = begins_same; trail = begins_same; taken = x ∷ []; input = e; objects = stay w.objects } }

pub library_leads : (g : ℕ) (f : LibCall) (a b line : ℕ) (vs : List Value) (w : World) → Leads w (library g f a b line vs w)
library_leads g lib.Putchar a b line vs w = number_leads (argument vs 0) _ w (λ n. put_leads n w)
library_leads g lib.Getchar a b line vs w = get_leads w
library_leads g lib.Exit a b line vs w = number_leads (argument vs 0) _ w (λ n. ends_leads _)
library_leads g lib.Malloc a b line vs w = number_leads (argument vs 0) _ w (λ n. allocate_leads g n w)
library_leads g lib.Calloc a b line vs w = number_leads (argument vs 0) _ w (λ n. number_leads (argument vs 1) _ w (λ m. allocate_leads g (n * m) w))
library_leads g lib.Free a b line vs w = pointer_leads (argument vs 0) _ w (λ q. free_leads line q w)
library_leads g lib.Memcpy a b line vs w =
    pointer_leads (argument vs 0) _ w (λ q. pointer_leads (argument vs 1) _ w (λ r. number_leads (argument vs 2) _ w (λ n.
    leads_then (copy_leads g a b line n q r w) (λ done v. goes_leads _))))
library_leads g lib.Memset a b line vs w =
    pointer_leads (argument vs 0) _ w (λ q. number_leads (argument vs 1) _ w (λ byte. number_leads (argument vs 2) _ w (λ n.
    leads_then (fill_leads g a line n byte q w) (λ done v. goes_leads _))))

-- ---- Operators

pub move_by_leads : (g site line : ℕ) (down : Bool) (size : ℕ) (v x : Value) (w : World) → Leads w (move_by g site line down size v x w)
move_by_leads g site line down size v x w =
    pointer_leads v _ w (λ q. number_leads x _ w (λ n. leads_then (move_leads g site line (distance down size n) q w) (λ r u. goes_leads _)))

pub cast_leads : (t : CType) (v : Value) (w : World) → Leads w (cast t v w)
cast_leads (CType.Pointer t) (Num n) w = if_leads (n == 0) (goes_leads _) (ends_leads _)
cast_leads CType.Void (Num n) w = goes_leads _
cast_leads CType.Char (Num n) w = goes_leads _
cast_leads CType.Int (Num n) w = goes_leads _
cast_leads CType.Unsigned (Num n) w = goes_leads _
cast_leads (CType.Struct k) (Num n) w = ends_leads _
cast_leads (CType.Array t m) (Num n) w = ends_leads _
cast_leads (CType.Pointer t) (Ptr q) w = goes_leads _
cast_leads CType.Void (Ptr q) w = goes_leads _
cast_leads CType.Char (Ptr q) w = ends_leads _
cast_leads CType.Int (Ptr q) w = ends_leads _
cast_leads CType.Unsigned (Ptr q) w = ends_leads _
cast_leads (CType.Struct k) (Ptr q) w = ends_leads _
cast_leads (CType.Array t m) (Ptr q) w = ends_leads _

calculated_leads : (o : BinaryOperator) (u : Bool) (line x y : ℕ) (w : World) → Leads w (calculated o u line x y w)
calculated_leads op.Divide u line x y w = if_leads (y == 0) (ends_leads _) (goes_leads _)
calculated_leads op.Remainder u line x y w = if_leads (y == 0) (ends_leads _) (goes_leads _)
calculated_leads o u line x y w = goes_leads _

numbers_lead : (o : BinaryOperator) (u : Bool) (line : ℕ) (v x : Value) (w : World) → Leads w (on_two_numbers o u line v x w)
numbers_lead o u line v x w = number_leads v _ w (λ a. number_leads x _ w (λ b. calculated_leads o u line a b w))

unlike_leads : (v x : Value) (w : World) → Leads w (unlike v x w)
unlike_leads v x w = leads_then (same_leads v x w) (λ r u. number_leads r _ u (λ n. goes_leads _))

pub binary_leads : (structs : List CStruct) (g site : ℕ) (o : BinaryOperator) (s : Bool) (line : ℕ) (t u : CType) (v x : Value) (w : World) → Leads w (on_binary structs g site o s line t u v x w)
binary_leads structs g site op.Add s line t u v x w =
    either_leads (is_pointer t) _ _ (move_by_leads g site line false _ v x w) (either_leads (is_pointer u) _ _ (move_by_leads g site line false _ x v w) (numbers_lead op.Add s line v x w))
binary_leads structs g site op.Subtract s line t u v x w =
    either_leads (is_pointer t) _ _ (either_leads (is_pointer u) _ _ (elements_lead _ v x w) (move_by_leads g site line true _ v x w)) (numbers_lead op.Subtract s line v x w)
binary_leads structs g site op.Less s line t u v x w = either_leads (is_pointer t) _ _ (ordered_leads order.Below v x w) (numbers_lead op.Less s line v x w)
binary_leads structs g site op.Greater s line t u v x w = either_leads (is_pointer t) _ _ (ordered_leads order.Above v x w) (numbers_lead op.Greater s line v x w)
binary_leads structs g site op.LessEqual s line t u v x w = either_leads (is_pointer t) _ _ (ordered_leads order.AtMost v x w) (numbers_lead op.LessEqual s line v x w)
binary_leads structs g site op.GreaterEqual s line t u v x w = either_leads (is_pointer t) _ _ (ordered_leads order.AtLeast v x w) (numbers_lead op.GreaterEqual s line v x w)
binary_leads structs g site op.Equal s line t u v x w = either_leads (is_pointer t) _ _ (same_leads v x w) (numbers_lead op.Equal s line v x w)
binary_leads structs g site op.NotEqual s line t u v x w = either_leads (is_pointer t) _ _ (unlike_leads v x w) (numbers_lead op.NotEqual s line v x w)
binary_leads structs g site o s line t u v x w = numbers_lead o s line v x w

pub step_leads : (structs : List CStruct) (g site line : ℕ) (o : StepOperator) (t : CType) (v : Value) (w : World) → Leads w (step structs g site line o t v w)
step_leads structs g site line o t v w =
    either_leads (is_pointer t) _ _ (move_by_leads g site line (is_down o) _ v (Num 1) w) (number_leads v _ w (λ n. goes_leads _))

pub operations_grow : OperationsGrow
operations_grow = record {
  moves = λ g site line d q w. (move_leads g site line d q w).to;
  loads = λ width q w. (load_leads width q w).to;
  stores = λ width q v w. (store_leads width q v w).to;
  equality = λ v x w. (same_leads v x w).to;
  order = λ o v x w. (ordered_leads o v x w).to;
  differences = λ size v x w. (elements_lead size v x w).to;
  truths = λ v w. (truth_leads v w).to;
  copies = λ g a b line n q r w. (copy_leads g a b line n q r w).to;
  clears = λ k w. (clear_leads k w).to;
  initializers = λ k i width v w. (initialize_leads k i width v w).to;
  libraries = λ g f a b line vs w. (library_leads g f a b line vs w).to;
  entries = λ g line items w. (enter_leads g line items w).to;
  returns = leave_follows;
}
