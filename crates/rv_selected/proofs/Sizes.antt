-- The parts weigh at most what the code does.
use Rattle.std.proofs.Common.{◌≡◌, ◌==◌, ◌≤◌, ℕ, zero, suc, ◌+◌, ◌-◌, ◌*◌, ◌/◌, ◌%◌, ◌^◌, min, Bool, true, false, nat_lt, if◌then◌else◌, List, [], ◌∷◌, ◌++◌, length, Option, Some, None, refl, arith, length-append}
use Rattle.bb_words.specs.declared.steps.ArithOp.{ArithOp}
use Rattle.bb_words.specs.declared.steps.ArithOp.TheVariants as op
use Rattle.rv_selected.specs.Laws.{PartsAreLight}
use Rattle.std.proofs.Common.{append_assoc}
use Rattle.std.proofs.lemmas.Bool.{ltb-true}
use Rattle.flat_code.specs.Code.{FStep, FSteps, FFunction}
use Rattle.flat_code.specs.Recognized.{Sequence, sequence_at, further}
use Rattle.flat_code.specs.Time.{charge, function_charge}
use Rattle.flat_code.specs.Weight.{sequence_size, item_size, step_size, steps_size, functions_size}
use Rattle.flat_discipline.specs.Items.{Items, item_or, item_of, items_from, items_of}
use Rattle.rv_asm.specs.declared.parts.Part.{Part}
use Rattle.rv_asm.specs.declared.parts.Part.TheVariants.{Plain, Label, Jump}
use Rattle.rv_asm.specs.Parts.{long_sizes}
use Rattle.rv_code.specs.declared.instr.Instr.{Instr}
use Rattle.rv_asm.specs.Text.{upper_part, lower_part}
use Rattle.marked_ptr.specs.Marked.{half_slot}
use Rattle.rv_code.specs.declared.instr.Instr.TheVariants.{Lui, Addi, Add, Jalr}
use Rattle.rv_selected.specs.Registers.{constant, is_short, load, store, negative, frame_bytes}
use Rattle.rv_selected.specs.Steps.{plains, fetch, operation, environment_arguments, arguments_code, number_code, frame_code, same_code, arith_code, slot_code, looked_code, loading_code, storing_code, checked_code, environment_code, call_code, step_parts}
use Rattle.rv_selected.specs.Checks.{move_parts, load_parts, span_parts, sequence_parts, sequence_labels, find_offset, last_distance}
use Rattle.rv_selected.specs.Selection.{choice_parts, is_end, loop_parts, item_labels, items_labels, held_behind, item_parts, items_parts, zeros, zero_loop, zero_loop_if, parameters, parameters_code, parameters_if, frame_parts, enter_code, leave_code, return_code, function_parts, function_labels, functions_parts, start_parts}

-- ---- Lists

pub sizes_append : (a b : List Part) → long_sizes (a ++ b) ≡ long_sizes a + long_sizes b
sizes_append [] b = omega arith
sizes_append (p ∷ a) b = omega (arith, sizes_append a b)

pub sizes_plains : (is : List Instr) → long_sizes (plains is) ≡ 4 * length is
sizes_plains [] = refl
sizes_plains (i ∷ is) = omega (arith, sizes_plains is)

-- so many instructions
plains_size : (is : List Instr) (n : ℕ) → length is ≤ n → long_sizes (plains is) ≤ 4 * n
plains_size is n h = omega (arith, sizes_plains is)

-- ---- Pieces

fetch_size : (known : Option ℕ) (v : ℕ) → length (fetch known v) ≤ 1
fetch_size None v = omega arith
fetch_size (Some held) v = by_test (held == v)
  where
    by_test : (b : Bool) → length (if b then [] else fetch None v) ≤ 1
    by_test true = omega arith
    by_test false = omega arith

constant_size : (r n : ℕ) → length (constant r n) ≤ 2
constant_size r n = by_tests (is_short n) (n % 4096 == 0)
  where
    by_tests : (a b : Bool) → length (if a then Addi r 0 n ∷ [] else if b then Lui r n ∷ [] else Lui r (upper_part n) ∷ Addi r r (lower_part n) ∷ []) ≤ 2
    by_tests true b = omega arith
    by_tests false true = omega arith
    by_tests false false = omega arith

operation_size : (o : ArithOp) → length (operation o) ≤ 2
operation_size op.Equal = omega arith
operation_size op.Unequal = omega arith
operation_size op.AtMostSigned = omega arith
operation_size op.AtMostUnsigned = omega arith
operation_size o = omega arith

environment_size : (call a b : ℕ) → length (environment_arguments call a b) ≤ 2
environment_size call a b = by_tests (call == 2) (call == 5)
  where
    by_tests : (x y : Bool) → length (if x then [] else if y then load 10 a ∷ load 11 b ∷ [] else load 10 a ∷ []) ≤ 2
    by_tests true y = omega arith
    by_tests false true = omega arith
    by_tests false false = omega arith

arguments_size : (vs : List ℕ) (r : ℕ) → length (arguments_code r vs) ≤ 26 - r
arguments_size [] r = omega arith
arguments_size (v ∷ vs) r = by_test (nat_lt r 26) refl (arguments_size vs (r + 1))
  where
    by_test : (b : Bool) → nat_lt r 26 ≡ b → length (arguments_code (r + 1) vs) ≤ 26 - (r + 1) → length (if b then load r v ∷ arguments_code (r + 1) vs else []) ≤ 26 - r
    by_test true e h = omega (arith, ltb-true r 26 e, h)
    by_test false e h = omega arith

number_size : (to value : ℕ) → length (number_code to value) ≤ 3
number_size to value = by_test (value == 0)
  where
    by_test : (b : Bool) → length (if b then store 0 to ∷ [] else constant 5 value ++ store 5 to ∷ []) ≤ 3
    by_test true = omega arith
    by_test false = simp length-append (omega (arith, constant_size 5 value))

frame_place_size : (to offset : ℕ) → length (frame_code to offset) ≤ 4
frame_place_size to offset = by_test (is_short offset)
  where
    by_test : (b : Bool) → length (if b then Addi 5 8 offset ∷ store 5 to ∷ [] else constant 5 offset ++ Add 5 8 5 ∷ store 5 to ∷ []) ≤ 4
    by_test true = omega arith
    by_test false = simp length-append (omega (arith, constant_size 5 offset))

step_size_of : (g back : ℕ) (known : Option ℕ) (exits : List ℕ) (s : FStep) → long_sizes (step_parts g back known exits s) ≤ 4 * charge s
step_size_of g back known exits (FStep.Number to value) = plains_size (number_code to value) 3 (number_size to value)
step_size_of g back known exits (FStep.Same to from) = plains_size (same_code known to from) 2 (simp length-append (omega (arith, fetch_size known from)))
step_size_of g back known exits (FStep.Arith to f left right) = plains_size (arith_code known to f left right) 5 (simp length-append (omega (arith, fetch_size known left, operation_size f)))
step_size_of g back known exits (FStep.If cond first second) = omega arith
step_size_of g back known exits (FStep.Block body) = omega arith
step_size_of g back known exits (FStep.Loop body) = omega arith
step_size_of g back known exits (FStep.Inner body) = omega arith
step_size_of g back known exits (FStep.Exit levels) = omega arith
step_size_of g back known exits (FStep.Call to function args) =
    let h = sizes_append (plains (arguments_code 18 args)) (Jump 1 function ∷ Plain (store 9 to) ∷ []) in
    simp (append_assoc, sizes_append, sizes_plains) (omega (arith, arguments_size args 18))
step_size_of g back known exits (FStep.Return from) = omega arith
step_size_of g back known exits (FStep.Slot to from) = plains_size (slot_code g known to from) 12 (simp length-append (omega (arith, fetch_size known from)))
step_size_of g back known exits (FStep.Look to slot) = plains_size (looked_code known to slot) 4 (simp length-append (omega (arith, fetch_size known slot)))
step_size_of g back known exits (FStep.FrameAt to offset) = omega (arith, sizes_plains (frame_code to offset), frame_place_size to offset)
step_size_of g back known exits (FStep.Load to at w) = plains_size (loading_code known to at w) 3 (simp length-append (omega (arith, fetch_size known at)))
step_size_of g back known exits (FStep.Store at from w) = plains_size (storing_code known at from w) 3 (simp length-append (omega (arith, fetch_size known at)))
step_size_of g back known exits (FStep.Checked from to) = plains_size (checked_code known from to) 3 (simp length-append (omega (arith, fetch_size known from)))
step_size_of g back known exits (FStep.LineMark line) = omega arith
step_size_of g back known exits (FStep.Report kind line) = omega arith
step_size_of g back known exits (FStep.Env to call a b) = plains_size (environment_code to call a b) 5 (simp length-append (omega (arith, environment_size call a b)))

-- ---- Sequences

find_offset_size : (g p : ℕ) (distance : List Instr) → length (find_offset g p distance) ≡ 10 + length distance
find_offset_size g p distance = simp length-append (omega arith)

move_size : (g n p : ℕ) (distance : List Instr) (q line : ℕ) → length distance ≤ 2 → long_sizes (move_parts g n p distance q line) ≤ 212
unfolding move_parts
move_size g n p distance q line h = simp (sizes_append, sizes_plains, length-append) (omega (arith, find_offset_size g p distance, constant_size 6 (half_slot g), constant_size 6 (2 ^ g)))

load_size : (g n w at line : ℕ) → long_sizes (load_parts g n w at line) ≤ 160
unfolding load_parts
load_size g n w at line = simp (sizes_append, sizes_plains, length-append) (omega (arith, constant_size 6 (2 ^ (25 - g))))

span_size : (g n p count q line : ℕ) → long_sizes (span_parts g n p count q line) ≤ 320
unfolding span_parts
span_size g n p count q line = simp (sizes_append, sizes_plains) (omega (arith, move_size g (n + 2) p (last_distance count) q line (omega arith), constant_size 7 0x0100_0001))

sequence_size_of : (g n : ℕ) (q : Sequence) → long_sizes (sequence_parts g n q) ≤ 4 * sequence_size q
sequence_size_of g n (Sequence.Move p d q line s e) = omega (arith, move_size g n p (load 6 d ∷ []) q line (omega arith))
sequence_size_of g n (Sequence.Load w at line s e) = load_size g n w at line
sequence_size_of g n (Sequence.Span p count q line d s e) = span_size g n p count q line

-- ---- Items

choice_size : (a b : Bool) (n : ℕ) (x y : List Part) → long_sizes (choice_parts a b n x y) ≤ 20 + (long_sizes x + long_sizes y)
choice_size true b n x y = omega (arith, sizes_append y (Label n ∷ Label (n + 1) ∷ []))
choice_size false true n x y = omega (arith, sizes_append x (Label n ∷ Label (n + 1) ∷ []))
choice_size false false n x y = simp sizes_append (omega arith)

loop_size : (n : ℕ) (x : List Part) → long_sizes (loop_parts n x) ≡ 8 + long_sizes x
loop_size n x = omega (arith, sizes_append x (Jump 0 n ∷ Label (n + 1) ∷ []))

module _ (g back : ℕ) where
  mutual
    item_size_of : (s : FStep) (known : Option ℕ) (exits : List ℕ) (n : ℕ) → long_sizes (item_parts g back known exits n (item_of g s)) ≤ 4 * step_size g s
    item_size_of (FStep.If cond first second) known exits n =
        let a = items_parts g back None exits (n + 2) (items_from g 0 first) in
        let b = items_parts g back None exits (n + 2 + items_labels (items_from g 0 first)) (items_from g 0 second) in
        omega (
          arith,
          sizes_append (plains (fetch known cond)) (choice_parts (is_end (items_from g 0 first)) (is_end (items_from g 0 second)) n a b),
          plains_size (fetch known cond) 1 (fetch_size known cond),
          choice_size (is_end (items_from g 0 first)) (is_end (items_from g 0 second)) n a b,
          items_size_of first 0 None exits (n + 2),
          items_size_of second 0 None exits (n + 2 + items_labels (items_from g 0 first)),
        )
    item_size_of (FStep.Block body) known exits n =
        omega (arith, sizes_append (items_parts g back known (n ∷ exits) (n + 1) (items_from g 0 body)) (Label n ∷ []), items_size_of body 0 known (n ∷ exits) (n + 1))
    item_size_of (FStep.Loop body) known exits n =
        omega (arith, loop_size n (items_parts g back None ((n + 1) ∷ exits) (n + 2) (items_from g 0 body)), items_size_of body 0 None ((n + 1) ∷ exits) (n + 2))
    item_size_of (FStep.Inner body) known exits n =
        omega (arith, loop_size n (items_parts g back None ((n + 1) ∷ exits) (n + 2) (items_from g 0 body)), items_size_of body 0 None ((n + 1) ∷ exits) (n + 2))
    item_size_of s known exits n = step_size_of g back known exits s

    items_size_of : (a : FSteps) (skip : ℕ) (known : Option ℕ) (exits : List ℕ) (n : ℕ) → long_sizes (items_parts g back known exits n (items_from g skip a)) ≤ 4 * steps_size g skip a
    items_size_of FSteps.none zero known exits n = omega arith
    items_size_of FSteps.none (suc skip) known exits n = omega arith
    items_size_of (FSteps.more s rest) (suc skip) known exits n = items_size_of rest skip known exits n
    items_size_of (FSteps.more s rest) zero known exits n = by_found (sequence_at g (FSteps.more s rest)) (λ k e h. item_size_of s k e h) (λ skip k e h. items_size_of rest skip k e h)
      where
        by_found : (found : Option Sequence)
            → ((k : Option ℕ) (e : List ℕ) (h : ℕ) → long_sizes (item_parts g back k e h (item_of g s)) ≤ 4 * step_size g s)
            → ((skip : ℕ) (k : Option ℕ) (e : List ℕ) (h : ℕ) → long_sizes (items_parts g back k e h (items_from g skip rest)) ≤ 4 * steps_size g skip rest)
            → long_sizes (items_parts g back known exits n (Items.next (item_or found (item_of g s)) (items_from g (further g found) rest))) ≤ 4 * (item_size found (step_size g s) + steps_size g (further g found) rest)
        by_found None one more =
            let i = item_of g s in
            omega (arith, sizes_append (item_parts g back known exits n i) (items_parts g back (held_behind known i) exits (n + item_labels i) (items_from g 0 rest)), one known exits n, more 0 (held_behind known i) exits (n + item_labels i))
        by_found (Some q) one more =
            let skip = further g (Some q) in
            omega (arith, sizes_append (sequence_parts g n q) (items_parts g back None exits (n + sequence_labels q) (items_from g skip rest)), sequence_size_of g n q, more skip None exits (n + sequence_labels q))

-- ---- Functions

zeros_size : (n v : ℕ) → length (zeros n v) ≡ n
zeros_size zero v = refl
zeros_size (suc n) v = omega (arith, zeros_size n (v + 1))

parameters_size : (n v : ℕ) → length (parameters n v) ≡ n
parameters_size zero v = refl
parameters_size (suc n) v = omega (arith, parameters_size n (v + 1))

parameters_code_size : (params : ℕ) → length (parameters_if params) ≤ 9
parameters_code_size params = by_test (params == 0)
  where
    by_test : (b : Bool) → length (if b then [] else parameters_code params) ≤ 9
    by_test true = omega arith
    by_test false = omega (arith, parameters_size (min params 8) 0)

zero_loop_size : (n turns : ℕ) → long_sizes (zero_loop_if n turns) ≤ 52
zero_loop_size n turns = by_test (turns == 0)
  where
    by_test : (b : Bool) → long_sizes (if b then Label n ∷ [] else zero_loop n turns) ≤ 52
    by_test true = omega arith
    by_test false = omega arith

frame_size : (n params values : ℕ) → long_sizes (frame_parts n params values) ≤ 124
frame_size n params values =
    let others = values - params in
    let begin = Addi 2 2 (negative (frame_bytes (others % 8))) ∷ store 1 (others % 8) ∷ zeros (others % 8) 0 in
    omega (
      arith,
      sizes_append (plains begin ++ zero_loop_if n (others / 8)) (plains (parameters_if params)),
      sizes_append (plains begin) (zero_loop_if n (others / 8)),
      sizes_plains begin,
      zeros_size (others % 8) 0,
      zero_loop_size n (others / 8),
      plains_size (parameters_if params) 9 (parameters_code_size params),
    )

enter_size : (k line : ℕ) → length (enter_code k line) ≤ 7
enter_size k line = by_test (line == 0)
  where
    by_test : (b : Bool) → length (if b then [] else constant 10 k ++ constant 11 line ++ call_code 7 ++ Addi 8 10 0 ∷ []) ≤ 7
    by_test true = omega arith
    by_test false = simp length-append (omega (arith, constant_size 10 k, constant_size 11 line))

leave_size : (k line : ℕ) → length (leave_code k line) ≤ 5
leave_size k line = by_test (line == 0)
  where
    by_test : (b : Bool) → length (if b then [] else constant 10 k ++ call_code 8 ++ Addi 8 10 0 ∷ []) ≤ 5
    by_test true = omega arith
    by_test false = simp length-append (omega (arith, constant_size 10 k))

return_size : (k line values : ℕ) → length (return_code k line values) ≤ 8
return_size k line values = omega (arith, length-append (load 1 values ∷ Addi 2 2 (frame_bytes values) ∷ leave_code k line) (Jalr 0 1 0 ∷ []), leave_size k line)

function_size_of : (g k n : ℕ) (f : FFunction) → long_sizes (function_parts g k n f) ≤ 4 * (function_charge + steps_size g 0 f.body)
function_size_of g k n f =
    let a = plains (enter_code k f.line) in
    let b = frame_parts (n + 1) f.params f.values in
    let c = items_parts g n None [] (n + 2) (items_of g f.body) in
    let d = plains (return_code k f.line f.values) in
    omega (
      arith,
      sizes_append (Label k ∷ a ++ b ++ c) (Plain (Addi 9 0 0) ∷ Label n ∷ d),
      sizes_append (Label k ∷ a ++ b) c,
      sizes_append (Label k ∷ a) b,
      plains_size (enter_code k f.line) 7 (enter_size k f.line),
      frame_size (n + 1) f.params f.values,
      items_size_of g n f.body 0 None [] (n + 2),
      plains_size (return_code k f.line f.values) 8 (return_size k f.line f.values),
    )

functions_size_of : (g k n : ℕ) (fs : List FFunction) → long_sizes (functions_parts g k n fs) ≤ 4 * functions_size g fs
functions_size_of g k n [] = omega arith
functions_size_of g k n (f ∷ fs) =
    omega (arith, sizes_append (function_parts g k n f) (functions_parts g (k + 1) (n + function_labels g f) fs), function_size_of g k n f, functions_size_of g (k + 1) (n + function_labels g f) fs)

pub light : PartsAreLight
light g code =
    omega (arith, sizes_append (start_parts code.main) (functions_parts g 0 (length code.functions) code.functions), functions_size_of g 0 (length code.functions) code.functions)
