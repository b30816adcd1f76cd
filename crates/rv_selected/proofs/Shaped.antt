-- The parts that are selected are shaped.
use Rattle.std.proofs.Common.{◌≡◌, ◌==◌, ℕ, zero, suc, ◌+◌, ◌-◌, ◌/◌, ◌%◌, ◌^◌, ◌<◌, ◌≤◌, Bool, true, false, ◌&&◌, min, if◌then◌else◌, List, [], ◌∷◌, ◌++◌, length, Option, None, Some, refl, arith, lit≤, ltb-true}
use Rattle.std.specs.Prelude.{nat_lt}
use Rattle.std.specs.List.{AllByRecursion}
use Rattle.std.proofs.lemmas.Bool.Decides.{nat_tests}
use Rattle.std.proofs.lemmas.List.Elements.{All-from_recursion}
use Rattle.bb_words.specs.declared.kinds.ReportKind.TheVariants.{Bounds, Pointer}
use Rattle.bb_words.specs.declared.steps.ArithOp.{ArithOp}
use Rattle.bb_words.specs.declared.steps.ArithOp.TheVariants as op
use Rattle.bb_words.specs.declared.steps.Width.{Width}
use Rattle.bb_words.specs.declared.steps.Width.TheVariants as width
use Rattle.marked_ptr.specs.Marked.{half_slot}
use Rattle.flat_code.specs.Code.{FStep, FFunction}
use Rattle.flat_code.specs.Recognized.{Sequence}
use Rattle.flat_discipline.specs.Items.{Item, Items, items_of}
use Rattle.rv_asm.specs.Text.{upper_part, lower_part}
use Rattle.rv_asm.specs.declared.parts.BranchOp.TheVariants as branch
use Rattle.rv_asm.specs.declared.parts.Part.{Part}
use Rattle.rv_asm.specs.declared.parts.Part.TheVariants.{Plain, Label, Branch, Jump}
use Rattle.rv_code.specs.declared.instr.Instr.{Instr}
use Rattle.rv_code.specs.declared.instr.Instr.TheVariants.{Lui, Addi, Add, Sub, Lbu, Jalr}
use Rattle.rv_selected.specs.Registers.{cell, frame_bytes, negative, load, store, constant, is_short}
use Rattle.rv_selected.specs.Steps.{plains, fetch, operation, owner_code, look_code, read_code, write_code, call_code, report_code, environment_arguments, line_code, arguments_code, step_parts, label_out}
use Rattle.rv_selected.specs.Checks.{find_block, find_base, mark_code, unless_parts, move_end, move_parts, load_begin, load_parts, touch_code, last_distance, span_parts, sequence_parts}
use Rattle.rv_selected.specs.Selection.{choice_parts, is_end, loop_parts, item_labels, items_labels, held_behind, item_parts, items_parts, zeros, zero_loop, zero_loop_if, parameters, parameters_code, parameters_if, frame_parts, enter_code, leave_code, return_code, function_parts, function_labels, functions_parts, start_parts, selected}
use Rattle.rv_selected.specs.Shape.{is_shaped}
use Rattle.rv_selected.specs.Laws.{PartsAreShaped}
use Rattle.rv_selected.proofs.Encodable.{both}

-- ---- Lists of parts

record Shaped (parts : List Part) : Type 0 where
  each : AllByRecursion (λ part. is_shaped part ≡ true) parts

shaped_append : (a b : List Part) → AllByRecursion (λ part. is_shaped part ≡ true) a → AllByRecursion (λ part. is_shaped part ≡ true) b → AllByRecursion (λ part. is_shaped part ≡ true) (a ++ b)
shaped_append [] b x y = y
shaped_append (p ∷ a) b x y = (x.0, shaped_append a b x.1 y)

joined : {a b : List Part} → Shaped a → Shaped b → Shaped (a ++ b)
joined {a} {b} x y = record { each = shaped_append a b x.each y.each }

abbrev all_shaped : List Part → Bool
all_shaped [] = true
all_shaped (p ∷ ps) = is_shaped p && all_shaped ps

each_shaped : (ps : List Part) → all_shaped ps ≡ true → AllByRecursion (λ part. is_shaped part ≡ true) ps
each_shaped [] e = tt
each_shaped (p ∷ ps) e = let t = both (is_shaped p) (all_shaped ps) e in (t.0, each_shaped ps t.1)

-- parts whose registers are known
known : (ps : List Part) → all_shaped ps ≡ true → Shaped ps
known ps e = record { each = each_shaped ps e }

-- instructions alone
record AreShapedInstrs (is : List Instr) : Type 0 where
  parts : Shaped (plains is)

plains_append : (a b : List Instr) → AllByRecursion (λ part. is_shaped part ≡ true) (plains a) → AllByRecursion (λ part. is_shaped part ≡ true) (plains b) → AllByRecursion (λ part. is_shaped part ≡ true) (plains (a ++ b))
plains_append [] b x y = y
plains_append (i ∷ a) b x y = (x.0, plains_append a b x.1 y)

chained : {a b : List Instr} → AreShapedInstrs a → AreShapedInstrs b → AreShapedInstrs (a ++ b)
chained {a} {b} x y = record { parts = record { each = plains_append a b x.parts.each y.parts.each } }

code : (is : List Instr) → all_shaped (plains is) ≡ true → AreShapedInstrs is
code is e = record { parts = known (plains is) e }

-- ---- Pieces

fetch_shaped : (held : Option ℕ) (v : ℕ) → AreShapedInstrs (fetch held v)
fetch_shaped None v = code (load 5 v ∷ []) refl
fetch_shaped (Some w) v = by_test (w == v)
  where
    by_test : (b : Bool) → AreShapedInstrs (if b then [] else load 5 v ∷ [])
    by_test true = code [] refl
    by_test false = code (load 5 v ∷ []) refl

constant_shaped : (r n : ℕ) → ((m : ℕ) → all_shaped (plains (Addi r 0 m ∷ [])) ≡ true) → ((m : ℕ) → all_shaped (plains (Lui r m ∷ [])) ≡ true) → ((m k : ℕ) → all_shaped (plains (Lui r m ∷ Addi r r k ∷ [])) ≡ true)
    → AreShapedInstrs (constant r n)
constant_shaped r n short whole two = by_tests (is_short n) (n % 4096 == 0)
  where
    by_tests : (a b : Bool) → AreShapedInstrs (if a then Addi r 0 n ∷ [] else if b then Lui r n ∷ [] else Lui r (upper_part n) ∷ Addi r r (lower_part n) ∷ [])
    by_tests true b = code (Addi r 0 n ∷ []) (short n)
    by_tests false true = code (Lui r n ∷ []) (whole n)
    by_tests false false = code (Lui r (upper_part n) ∷ Addi r r (lower_part n) ∷ []) (two (upper_part n) (lower_part n))

constant_5 : (n : ℕ) → AreShapedInstrs (constant 5 n)
constant_5 n = constant_shaped 5 n (λ m. refl) (λ m. refl) (λ m k. refl)

constant_6 : (n : ℕ) → AreShapedInstrs (constant 6 n)
constant_6 n = constant_shaped 6 n (λ m. refl) (λ m. refl) (λ m k. refl)

constant_7 : (n : ℕ) → AreShapedInstrs (constant 7 n)
constant_7 n = constant_shaped 7 n (λ m. refl) (λ m. refl) (λ m k. refl)

constant_10 : (n : ℕ) → AreShapedInstrs (constant 10 n)
constant_10 n = constant_shaped 10 n (λ m. refl) (λ m. refl) (λ m k. refl)

constant_11 : (n : ℕ) → AreShapedInstrs (constant 11 n)
constant_11 n = constant_shaped 11 n (λ m. refl) (λ m. refl) (λ m k. refl)

operation_shaped : (f : ArithOp) → AreShapedInstrs (operation f)
operation_shaped op.Add = code (operation op.Add) refl
operation_shaped op.Sub = code (operation op.Sub) refl
operation_shaped op.Mul = code (operation op.Mul) refl
operation_shaped op.Mulh = code (operation op.Mulh) refl
operation_shaped op.Mulhsu = code (operation op.Mulhsu) refl
operation_shaped op.Mulhu = code (operation op.Mulhu) refl
operation_shaped op.Div = code (operation op.Div) refl
operation_shaped op.Divu = code (operation op.Divu) refl
operation_shaped op.Rem = code (operation op.Rem) refl
operation_shaped op.Remu = code (operation op.Remu) refl
operation_shaped op.Shl = code (operation op.Shl) refl
operation_shaped op.Shr = code (operation op.Shr) refl
operation_shaped op.Sar = code (operation op.Sar) refl
operation_shaped op.Lts = code (operation op.Lts) refl
operation_shaped op.Ltu = code (operation op.Ltu) refl
operation_shaped op.And = code (operation op.And) refl
operation_shaped op.Or = code (operation op.Or) refl
operation_shaped op.Xor = code (operation op.Xor) refl
operation_shaped op.Equal = code (operation op.Equal) refl
operation_shaped op.Unequal = code (operation op.Unequal) refl
operation_shaped op.AtMostSigned = code (operation op.AtMostSigned) refl
operation_shaped op.AtMostUnsigned = code (operation op.AtMostUnsigned) refl

read_shaped : (w : Width) (to : ℕ) → AreShapedInstrs (read_code w 5 5 ∷ store 5 to ∷ [])
read_shaped width.Byte to = code (read_code width.Byte 5 5 ∷ store 5 to ∷ []) refl
read_shaped width.Half to = code (read_code width.Half 5 5 ∷ store 5 to ∷ []) refl
read_shaped width.SignedHalf to = code (read_code width.SignedHalf 5 5 ∷ store 5 to ∷ []) refl
read_shaped width.Word to = code (read_code width.Word 5 5 ∷ store 5 to ∷ []) refl
read_shaped width.Pointer to = code (read_code width.Pointer 5 5 ∷ store 5 to ∷ []) refl

write_shaped : (w : Width) (from : ℕ) → AreShapedInstrs (load 6 from ∷ write_code w 6 5 ∷ [])
write_shaped width.Byte from = code (load 6 from ∷ write_code width.Byte 6 5 ∷ []) refl
write_shaped width.Half from = code (load 6 from ∷ write_code width.Half 6 5 ∷ []) refl
write_shaped width.SignedHalf from = code (load 6 from ∷ write_code width.SignedHalf 6 5 ∷ []) refl
write_shaped width.Word from = code (load 6 from ∷ write_code width.Word 6 5 ∷ []) refl
write_shaped width.Pointer from = code (load 6 from ∷ write_code width.Pointer 6 5 ∷ []) refl

number_shaped : (to value : ℕ) → AreShapedInstrs (if value == 0 then store 0 to ∷ [] else constant 5 value ++ store 5 to ∷ [])
number_shaped to value = by_test (value == 0)
  where
    by_test : (b : Bool) → AreShapedInstrs (if b then store 0 to ∷ [] else constant 5 value ++ store 5 to ∷ [])
    by_test true = code (store 0 to ∷ []) refl
    by_test false = chained (constant_5 value) (code (store 5 to ∷ []) refl)

frame_place_shaped : (to offset : ℕ) → AreShapedInstrs (if is_short offset then Addi 5 8 offset ∷ store 5 to ∷ [] else constant 5 offset ++ Add 5 8 5 ∷ store 5 to ∷ [])
frame_place_shaped to offset = by_test (is_short offset)
  where
    by_test : (b : Bool) → AreShapedInstrs (if b then Addi 5 8 offset ∷ store 5 to ∷ [] else constant 5 offset ++ Add 5 8 5 ∷ store 5 to ∷ [])
    by_test true = code (Addi 5 8 offset ∷ store 5 to ∷ []) refl
    by_test false = chained (constant_5 offset) (code (Add 5 8 5 ∷ store 5 to ∷ []) refl)

environment_shaped : (call a b : ℕ) → AreShapedInstrs (environment_arguments call a b)
environment_shaped call a b = by_tests (call == 2) (call == 5)
  where
    by_tests : (x y : Bool) → AreShapedInstrs (if x then [] else if y then load 10 a ∷ load 11 b ∷ [] else load 10 a ∷ [])
    by_tests true y = code [] refl
    by_tests false true = code (load 10 a ∷ load 11 b ∷ []) refl
    by_tests false false = code (load 10 a ∷ []) refl

-- x18 to x25 are not spare
argument_register : (r v : ℕ) → 18 ≤ r → r < 26 → all_shaped (plains (load r v ∷ [])) ≡ true
argument_register r v low high = grind (arith, nat_tests)

stored_register : (r v : ℕ) → 18 ≤ r → r < 26 → all_shaped (plains (store r v ∷ [])) ≡ true
stored_register r v low high = grind (arith, nat_tests)

arguments_shaped : (vs : List ℕ) (r : ℕ) → 18 ≤ r → AreShapedInstrs (arguments_code r vs)
arguments_shaped [] r low = code [] refl
arguments_shaped (v ∷ vs) r low = let more : 18 ≤ r + 1 = omega (arith, low) in by_test (nat_lt r 26) refl (arguments_shaped vs (r + 1) more)
  where
    by_test : (b : Bool) → nat_lt r 26 ≡ b → AreShapedInstrs (arguments_code (r + 1) vs) → AreShapedInstrs (if b then load r v ∷ arguments_code (r + 1) vs else [])
    by_test true e rest = chained (code (load r v ∷ []) (argument_register r v low (ltb-true r 26 e))) rest
    by_test false e rest = code [] refl

-- ---- Steps

step_shaped : (g back : ℕ) (held : Option ℕ) (exits : List ℕ) (s : FStep) → Shaped (step_parts g back held exits s)
step_shaped g back held exits (FStep.Number to value) = (number_shaped to value).parts
step_shaped g back held exits (FStep.Same to from) = (chained (fetch_shaped held from) (code (store 5 to ∷ []) refl)).parts
step_shaped g back held exits (FStep.Arith to f left right) =
    (chained (chained (chained (fetch_shaped held left) (code (load 6 right ∷ []) refl)) (operation_shaped f)) (code (store 5 to ∷ []) refl)).parts
step_shaped g back held exits (FStep.If cond first second) = known [] refl
step_shaped g back held exits (FStep.Block body) = known [] refl
step_shaped g back held exits (FStep.Loop body) = known [] refl
step_shaped g back held exits (FStep.Inner body) = known [] refl
step_shaped g back held exits (FStep.Exit levels) = known (Jump 0 (label_out exits levels) ∷ []) refl
step_shaped g back held exits (FStep.Call to function args) = joined (joined (arguments_shaped args 18 (lit≤ tt)).parts (known (Jump 1 function ∷ []) refl)) (known (Plain (store 9 to) ∷ []) refl)
step_shaped g back held exits (FStep.Return from) = known (Plain (load 9 from) ∷ Jump 0 back ∷ []) refl
step_shaped g back held exits (FStep.Slot to from) = (chained (chained (fetch_shaped held from) (code (owner_code g) refl)) (code (store 7 to ∷ []) refl)).parts
step_shaped g back held exits (FStep.Look to slot) = (chained (chained (fetch_shaped held slot) (code (look_code 5 5) refl)) (code (store 5 to ∷ []) refl)).parts
step_shaped g back held exits (FStep.FrameAt to offset) = (frame_place_shaped to offset).parts
step_shaped g back held exits (FStep.Load to at w) = (chained (fetch_shaped held at) (read_shaped w to)).parts
step_shaped g back held exits (FStep.Store at from w) = (chained (fetch_shaped held at) (write_shaped w from)).parts
step_shaped g back held exits (FStep.Checked from to) = (chained (fetch_shaped held from) (code (load 6 to ∷ Add 0 5 6 ∷ []) refl)).parts
step_shaped g back held exits (FStep.LineMark line) = known (Plain (line_code line) ∷ []) refl
step_shaped g back held exits (FStep.Report kind line) = (code (report_code kind line) refl).parts
step_shaped g back held exits (FStep.Env to call a b) = (chained (chained (environment_shaped call a b) (code (call_code call) refl)) (code (store 10 to ∷ []) refl)).parts

-- ---- Sequences

move_shaped : (g n p : ℕ) (distance : List Instr) (q line : ℕ) → AreShapedInstrs distance → Shaped (move_parts g n p distance q line)
unfolding move_parts
move_shaped g n p distance q line d =
    joined (joined (joined (joined (joined (joined (joined (joined
    (code (find_block g p) refl).parts (known (unless_parts branch.Bne 13 0 n Bounds line) refl)) (chained (chained (code (find_base g p) refl) d) (code (Add 16 16 6 ∷ Sub 15 16 7 ∷ []) refl)).parts)
    (known (Branch branch.Bltu 15 14 (n + 2) ∷ []) refl))
    (chained (chained (chained (constant_6 (half_slot g)) (code (Add 15 15 6 ∷ []) refl)) (constant_6 (2 ^ g))) (code (Add 14 14 6 ∷ []) refl)).parts)
    (known (unless_parts branch.Bltu 15 14 (n + 1) Bounds line) refl)) (code mark_code refl).parts) (known (Label (n + 2) ∷ []) refl)) (code (move_end p q) refl).parts

load_shaped : (g n w at line : ℕ) → Shaped (load_parts g n w at line)
unfolding load_parts
load_shaped g n w at line =
    joined (joined (joined (joined (joined
    (code (load_begin at w) refl).parts (known (Branch branch.Beq 5 0 (n + 1) ∷ []) refl)) (chained (chained (code (load 5 w ∷ []) refl) (code (owner_code g) refl)) (constant_6 (2 ^ (25 - g)))).parts)
    (known (unless_parts branch.Bltu 7 6 n Pointer line) refl)) (code (look_code 13 7) refl).parts) (known (unless_parts branch.Bne 13 0 (n + 1) Pointer line) refl)

span_shaped : (g n p count q line : ℕ) → Shaped (span_parts g n p count q line)
unfolding span_parts
span_shaped g n p count q line =
    joined (joined (joined (joined (joined (joined
    (chained (code (load 6 count ∷ []) refl) (constant_7 0x0100_0001)).parts (known (unless_parts branch.Bltu 6 7 n Bounds line) refl)) (known (Branch branch.Beq 6 0 (n + 1) ∷ []) refl))
    (code (touch_code p) refl).parts) (move_shaped g (n + 2) p (last_distance count) q line (code (last_distance count) refl))) (code (Lbu 5 16 0 ∷ []) refl).parts) (known (Label (n + 1) ∷ []) refl)

sequence_shaped : (g n : ℕ) (q : Sequence) → Shaped (sequence_parts g n q)
sequence_shaped g n (Sequence.Move p d q line s e) = move_shaped g n p (load 6 d ∷ []) q line (code (load 6 d ∷ []) refl)
sequence_shaped g n (Sequence.Load w at line s e) = load_shaped g n w at line
sequence_shaped g n (Sequence.Span p count q line d s e) = span_shaped g n p count q line

-- ---- Items

choice_shaped : (a b : Bool) (n : ℕ) (x y : List Part) → Shaped x → Shaped y → Shaped (choice_parts a b n x y)
choice_shaped true b n x y f s = joined (joined (known (Branch branch.Bne 5 0 n ∷ []) refl) s) (known (Label n ∷ Label (n + 1) ∷ []) refl)
choice_shaped false true n x y f s = joined (joined (known (Branch branch.Beq 5 0 n ∷ []) refl) f) (known (Label n ∷ Label (n + 1) ∷ []) refl)
choice_shaped false false n x y f s =
    joined (joined (joined (known (Branch branch.Beq 5 0 n ∷ []) refl) f) (joined (known (Jump 0 (n + 1) ∷ Label n ∷ []) refl) s)) (known (Label (n + 1) ∷ []) refl)

loop_shaped : (n : ℕ) (x : List Part) → Shaped x → Shaped (loop_parts n x)
loop_shaped n x f = joined (joined (known (Label n ∷ []) refl) f) (known (Jump 0 n ∷ Label (n + 1) ∷ []) refl)

module _ (g back : ℕ) where
  mutual
    item_shaped : (i : Item) (held : Option ℕ) (exits : List ℕ) (n : ℕ) → Shaped (item_parts g back held exits n i)
    item_shaped (Item.Plain s) held exits n = step_shaped g back held exits s
    item_shaped (Item.Checks q) held exits n = sequence_shaped g n q
    item_shaped (Item.If cond x y) held exits n =
        joined (fetch_shaped held cond).parts (choice_shaped (is_end x) (is_end y) n _ _ (items_shaped x None exits (n + 2)) (items_shaped y None exits (n + 2 + items_labels x)))
    item_shaped (Item.Block x) held exits n = joined (items_shaped x held (n ∷ exits) (n + 1)) (known (Label n ∷ []) refl)
    item_shaped (Item.Loop x) held exits n = loop_shaped n _ (items_shaped x None ((n + 1) ∷ exits) (n + 2))
    item_shaped (Item.Inner x) held exits n = loop_shaped n _ (items_shaped x None ((n + 1) ∷ exits) (n + 2))

    items_shaped : (a : Items) (held : Option ℕ) (exits : List ℕ) (n : ℕ) → Shaped (items_parts g back held exits n a)
    items_shaped Items.end held exits n = known [] refl
    items_shaped (Items.next i rest) held exits n = joined (item_shaped i held exits n) (items_shaped rest (held_behind held i) exits (n + item_labels i))

-- ---- Functions

zeros_shaped : (n v : ℕ) → AreShapedInstrs (zeros n v)
zeros_shaped zero v = code [] refl
zeros_shaped (suc n) v = chained (code (store 0 v ∷ []) refl) (zeros_shaped n (v + 1))

parameters_shaped : (n v : ℕ) → v + n ≤ 8 → AreShapedInstrs (parameters n v)
parameters_shaped zero v h = code [] refl
parameters_shaped (suc n) v h =
    let low : 18 ≤ 18 + v = omega arith in
    let high : 18 + v < 26 = omega (arith, h) in
    let rest : v + 1 + n ≤ 8 = omega (arith, h) in
    chained (code (store (18 + v) v ∷ []) (stored_register (18 + v) v low high)) (parameters_shaped n (v + 1) rest)

parameters_if_shaped : (params : ℕ) → AreShapedInstrs (parameters_if params)
parameters_if_shaped params = by_test (params == 0)
  where
    by_test : (b : Bool) → AreShapedInstrs (if b then [] else parameters_code params)
    by_test true = code [] refl
    by_test false = let few : 0 + min params 8 ≤ 8 = omega arith in chained (code (Addi 2 2 (negative (cell params)) ∷ []) refl) (parameters_shaped (min params 8) 0 few)

zero_loop_shaped : (n turns : ℕ) → Shaped (zero_loop_if n turns)
zero_loop_shaped n turns = by_test (turns == 0)
  where
    by_test : (b : Bool) → Shaped (if b then Label n ∷ [] else zero_loop n turns)
    by_test true = known (Label n ∷ []) refl
    by_test false = known (zero_loop n turns) refl

frame_shaped : (n params values : ℕ) → Shaped (frame_parts n params values)
frame_shaped n params values =
    let others = values - params in
    joined (joined (joined (code (Addi 2 2 (negative (frame_bytes (others % 8))) ∷ store 1 (others % 8) ∷ []) refl).parts (zeros_shaped (others % 8) 0).parts) (zero_loop_shaped n (others / 8)))
    (parameters_if_shaped params).parts

enter_shaped : (k line : ℕ) → AreShapedInstrs (enter_code k line)
enter_shaped k line = by_test (line == 0)
  where
    by_test : (b : Bool) → AreShapedInstrs (if b then [] else constant 10 k ++ constant 11 line ++ call_code 7 ++ Addi 8 10 0 ∷ [])
    by_test true = code [] refl
    by_test false = chained (chained (chained (constant_10 k) (constant_11 line)) (code (call_code 7) refl)) (code (Addi 8 10 0 ∷ []) refl)

leave_shaped : (k line : ℕ) → AreShapedInstrs (leave_code k line)
leave_shaped k line = by_test (line == 0)
  where
    by_test : (b : Bool) → AreShapedInstrs (if b then [] else constant 10 k ++ call_code 8 ++ Addi 8 10 0 ∷ [])
    by_test true = code [] refl
    by_test false = chained (chained (constant_10 k) (code (call_code 8) refl)) (code (Addi 8 10 0 ∷ []) refl)

return_shaped : (k line values : ℕ) → AreShapedInstrs (return_code k line values)
return_shaped k line values = chained (chained (code (load 1 values ∷ Addi 2 2 (frame_bytes values) ∷ []) refl) (leave_shaped k line)) (code (Jalr 0 1 0 ∷ []) refl)

function_shaped : (g k n : ℕ) (f : FFunction) → Shaped (function_parts g k n f)
function_shaped g k n f =
    joined (joined (joined (joined (known (Label k ∷ []) refl) (enter_shaped k f.line).parts) (frame_shaped (n + 1) f.params f.values)) (items_shaped g n (items_of g f.body) None [] (n + 2)))
    (joined (known (Plain (Addi 9 0 0) ∷ Label n ∷ []) refl) (return_shaped k f.line f.values).parts)

functions_shaped : (g k n : ℕ) (fs : List FFunction) → Shaped (functions_parts g k n fs)
functions_shaped g k n [] = known [] refl
functions_shaped g k n (f ∷ fs) = joined (function_shaped g k n f) (functions_shaped g (k + 1) (n + function_labels g f) fs)

pub shaped : PartsAreShaped
shaped g program =
    let all = selected g program in
    All-from_recursion (λ part. is_shaped part ≡ true) all (joined (known (start_parts program.main) refl) (functions_shaped g 0 (length program.functions) program.functions)).each
