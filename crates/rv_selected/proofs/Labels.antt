-- Each label stands once.
use Rattle.std.proofs.Common.{◌≡◌, ◌==◌, ℕ, suc, ◌+◌, ◌-◌, ◌/◌, ◌%◌, ◌<◌, ◌≤◌, ◌⊎◌, inl, inr, Bool, true, false, if◌then◌else◌, List, [], ◌∷◌, ◌++◌, length, Option, None, refl, sym, ap, ◌∙◌, arith}
use Rattle.std.specs.Prelude.{nat_lt}
use Rattle.std.proofs.lemmas.Bool.{lt-ltb, le-ltb, eq-eqb, ne_eqb, cases_eq, cases_lt}
use Rattle.flat_code.specs.Code.{FStep, FFunction}
use Rattle.flat_code.specs.Recognized.{Sequence}
use Rattle.flat_discipline.specs.Items.{Item, Items, items_of}
use Rattle.rv_asm.specs.declared.parts.BranchOp.{BranchOp}
use Rattle.bb_words.specs.declared.kinds.ReportKind.{ReportKind}
use Rattle.rv_asm.specs.declared.parts.Part.{Part}
use Rattle.rv_asm.specs.declared.parts.Part.TheVariants.{Plain, Label, Branch, Jump}
use Rattle.rv_asm.specs.Parts.{times_in}
use Rattle.rv_code.specs.declared.instr.Instr.{Instr}
use Rattle.rv_code.specs.declared.instr.Instr.TheVariants.{Addi}
use Rattle.rv_asm.specs.declared.parts.BranchOp.TheVariants as branch
use Rattle.rv_selected.specs.Registers.{load, store, negative, frame_bytes}
use Rattle.rv_selected.specs.Steps.{plains, fetch, step_code, step_parts}
use Rattle.rv_selected.specs.Checks.{unless_parts, move_parts, load_parts, span_parts, sequence_parts, sequence_labels, last_distance}
use Rattle.rv_selected.specs.Selection.{choice_parts, is_end, loop_parts, item_labels, items_labels, held_behind, item_parts, items_parts, zeros, zero_loop, zero_loop_if, parameters_if, frame_parts, enter_code, return_code, function_parts, function_labels, functions_parts, functions_labels, start_parts}
use Rattle.rv_selected.specs.Laws.{among, LabelsStandOnce}

-- ---- Counts

times_append : (l : ℕ) (a b : List Part) → times_in l (a ++ b) ≡ times_in l a + times_in l b
times_append l [] b = omega arith
times_append l (p ∷ a) b = omega (arith, times_append l a b)

times_plains : (l : ℕ) (is : List Instr) → times_in l (plains is) ≡ 0
times_plains l [] = refl
times_plains l (i ∷ is) = omega (arith, times_plains l is)

-- one label
unfoldable single : (n l : ℕ) → ℕ
single n l = if n == l then 1 else 0

among_below : (n count l : ℕ) → l < n → among n count l ≡ 0
among_below n count l lt = ap (λ b. if b then 0 else if nat_lt l (n + count) then 1 else 0) (lt-ltb l n lt)

pub among_in : (n count l : ℕ) → n ≤ l → l < n + count → among n count l ≡ 1
among_in n count l le lt = ap (λ b. if b then 0 else if nat_lt l (n + count) then 1 else 0) (le-ltb l n le) ∙ ap (λ b. if b then 1 else 0) (lt-ltb l (n + count) lt)

among_above : (n count l : ℕ) → n + count ≤ l → among n count l ≡ 0
among_above n count l le = ap (λ b. if b then 0 else if nat_lt l (n + count) then 1 else 0) (le-ltb l n (omega (arith, le))) ∙ ap (λ b. if b then 1 else 0) (le-ltb l (n + count) le)

among_one : (n l : ℕ) → among n 1 l ≡ single n l
unfolding single
among_one n l = by_cases (cases_lt l n) (cases_eq n l)
  where
    by_cases : (l < n) ⊎ (n ≤ l) → (n ≡ l) ⊎ (n ≡ l → ⊥) → among n 1 l ≡ (if n == l then 1 else 0)
    by_cases (inl lt) (inl is) = absurd (omega (arith, lt, is))
    by_cases (inl lt) (inr ne) = among_below n 1 l lt ∙ ap (λ b. if b then 1 else 0) (sym (ne_eqb n l ne))
    by_cases (inr le) (inl is) = among_in n 1 l le (omega (arith, is)) ∙ ap (λ b. if b then 1 else 0) (sym (eq-eqb n l is))
    by_cases (inr le) (inr ne) = among_above n 1 l (omega (arith, le, ne)) ∙ ap (λ b. if b then 1 else 0) (sym (ne_eqb n l ne))

pub among_sum : (n a b l : ℕ) → among n a l + among (n + a) b l ≡ among n (a + b) l
among_sum n a b l = by_cases (cases_lt l n) (cases_lt l (n + a)) (cases_lt l (n + a + b))
  where
    by_cases : (l < n) ⊎ (n ≤ l) → (l < n + a) ⊎ (n + a ≤ l) → (l < n + a + b) ⊎ (n + a + b ≤ l) → among n a l + among (n + a) b l ≡ among n (a + b) l
    by_cases (inl x) y z = omega (arith, among_below n a l x, among_below (n + a) b l (omega (arith, x)), among_below n (a + b) l x)
    by_cases (inr x) (inl y) z = omega (arith, among_in n a l x y, among_below (n + a) b l y, among_in n (a + b) l x (omega (arith, y)))
    by_cases (inr x) (inr y) (inl z) = omega (arith, among_above n a l y, among_in (n + a) b l y z, among_in n (a + b) l x (omega (arith, z)))
    by_cases (inr x) (inr y) (inr z) = omega (arith, among_above n a l y, among_above (n + a) b l z, among_above n (a + b) l (omega (arith, z)))

among_none : (n l : ℕ) → among n 0 l ≡ 0
among_none n l = by_cases (cases_lt l n)
  where
    by_cases : (l < n) ⊎ (n ≤ l) → among n 0 l ≡ 0
    by_cases (inl lt) = among_below n 0 l lt
    by_cases (inr le) = among_above n 0 l (omega (arith, le))

-- a label alone
lone : (l n : ℕ) → times_in l (Label n ∷ []) ≡ single n l
unfolding single
lone l n = omega arith

shifted : (n k l m : ℕ) → among (n + (2 + k)) m l ≡ among (n + 2 + k) m l
shifted n k l m = ap (λ p. among p m l) (let e : n + (2 + k) ≡ n + 2 + k = omega arith in e)

more_of : (k m l : ℕ) → among k (1 + m) l ≡ among k (suc m) l
more_of k m l = ap (λ p. among k p l) (let e : 1 + m ≡ suc m = omega arith in e)

from_zero : (k m l : ℕ) → among (0 + k) m l ≡ among k m l
from_zero k m l = ap (λ p. among p m l) (let e : 0 + k ≡ k = omega arith in e)

-- ---- Steps and sequences

step_none : (g back : ℕ) (known : Option ℕ) (exits : List ℕ) (l : ℕ) (s : FStep) → times_in l (step_parts g back known exits s) ≡ 0
step_none g back known exits l (FStep.Exit levels) = refl
step_none g back known exits l (FStep.Call to function args) = simp (times_append, times_plains) (omega arith)
step_none g back known exits l (FStep.Return from) = refl
step_none g back known exits l s = times_plains l (step_code g known s)

unless_once : (op : BranchOp) (rs1 rs2 n : ℕ) (kind : ReportKind) (line l : ℕ) → times_in l (unless_parts op rs1 rs2 n kind line) ≡ single n l
unfolding single
unless_once op rs1 rs2 n kind line l = omega arith

two_labels : (n l : ℕ) → among n 2 l ≡ single n l + single (n + 1) l
two_labels n l = omega (arith, among_sum n 1 1 l, among_one n l, among_one (n + 1) l)

three_labels : (n l : ℕ) → among n 3 l ≡ single n l + single (n + 1) l + single (n + 2) l
three_labels n l = omega (arith, among_sum n 2 1 l, two_labels n l, among_one (n + 2) l)

move_once : (l g n p : ℕ) (distance : List Instr) (q line : ℕ) → times_in l (move_parts g n p distance q line) ≡ single n l + single (n + 1) l + single (n + 2) l
unfolding move_parts single
move_once l g n p distance q line = simp (times_append, times_plains) (omega arith)

load_once : (l g n w at line : ℕ) → times_in l (load_parts g n w at line) ≡ single n l + single (n + 1) l
unfolding load_parts single
load_once l g n w at line = simp (times_append, times_plains) (omega arith)

span_begins : (l g n p count q line : ℕ) → times_in l (span_parts g n p count q line) ≡ single n l + single (n + 1) l + times_in l (move_parts g (n + 2) p (last_distance count) q line)
unfolding span_parts single
span_begins l g n p count q line = simp (times_append, times_plains) (omega arith)

sequence_once : (l g n : ℕ) (q : Sequence) → times_in l (sequence_parts g n q) ≡ among n (sequence_labels q) l
sequence_once l g n (Sequence.Move p d q line s e) = move_once l g n p (load 6 d ∷ []) q line ∙ sym (three_labels n l)
sequence_once l g n (Sequence.Load w at line s e) = load_once l g n w at line ∙ sym (two_labels n l)
sequence_once l g n (Sequence.Span p count q line d s e) =
    omega (arith, span_begins l g n p count q line, move_once l g (n + 2) p (last_distance count) q line, three_labels (n + 2) l, two_labels n l, among_sum n 2 3 l)

-- ---- Items

choice_once : (l : ℕ) (a b : Bool) (n : ℕ) (x y : List Part) → (a ≡ true → times_in l x ≡ 0) → (b ≡ true → times_in l y ≡ 0) → times_in l (choice_parts a b n x y) ≡ among n 2 l + times_in l x + times_in l y
choice_once l true b n x y ex ey = omega (arith, times_append l y (Label n ∷ Label (n + 1) ∷ []), two_labels n l, ex refl, lone l n, lone l (n + 1))
choice_once l false true n x y ex ey = omega (arith, times_append l x (Label n ∷ Label (n + 1) ∷ []), two_labels n l, ey refl, lone l n, lone l (n + 1))
choice_once l false false n x y ex ey =
    omega (arith, times_append l (Branch branch.Beq 5 0 n ∷ x ++ Jump 0 (n + 1) ∷ Label n ∷ y) (Label (n + 1) ∷ []), times_append l (Branch branch.Beq 5 0 n ∷ x) (Jump 0 (n + 1) ∷ Label n ∷ y), two_labels n l, lone l n, lone l (n + 1))

loop_once : (l n : ℕ) (x : List Part) → times_in l (loop_parts n x) ≡ among n 2 l + times_in l x
loop_once l n x = omega (arith, times_append l (Label n ∷ x) (Jump 0 n ∷ Label (n + 1) ∷ []), two_labels n l, lone l n, lone l (n + 1))

end_none : (l g back : ℕ) (known : Option ℕ) (exits : List ℕ) (n : ℕ) (a : Items) → is_end a ≡ true → times_in l (items_parts g back known exits n a) ≡ 0
end_none l g back known exits n Items.end e = refl
end_none l g back known exits n (Items.next i rest) e = absurd (let q : false ≡ true = e in cc)

module _ (l g back : ℕ) where
  mutual
    item_once : (i : Item) (known : Option ℕ) (exits : List ℕ) (n : ℕ) → times_in l (item_parts g back known exits n i) ≡ among n (item_labels i) l
    item_once (Item.Plain s) known exits n = omega (arith, step_none g back known exits l s, among_none n l)
    item_once (Item.Checks q) known exits n = sequence_once l g n q
    item_once (Item.If cond first second) known exits n =
        let k = items_labels first in
        let a = items_parts g back None exits (n + 2) first in
        let b = items_parts g back None exits (n + 2 + k) second in
        omega (
          arith,
          times_append l (plains (fetch known cond)) (choice_parts (is_end first) (is_end second) n a b),
          times_plains l (fetch known cond),
          choice_once l (is_end first) (is_end second) n a b (end_none l g back None exits (n + 2) first) (end_none l g back None exits (n + 2 + k) second),
          items_once first None exits (n + 2),
          items_once second None exits (n + 2 + k),
          among_sum n 2 k l,
          among_sum n (2 + k) (items_labels second) l,
          shifted n k l (items_labels second),
        )
    item_once (Item.Block body) known exits n =
        omega (arith, times_append l (items_parts g back known (n ∷ exits) (n + 1) body) (Label n ∷ []), lone l n, items_once body known (n ∷ exits) (n + 1), among_one n l, among_sum n 1 (items_labels body) l)
    item_once (Item.Loop body) known exits n =
        omega (arith, loop_once l n (items_parts g back None ((n + 1) ∷ exits) (n + 2) body), items_once body None ((n + 1) ∷ exits) (n + 2), among_sum n 2 (items_labels body) l)
    item_once (Item.Inner body) known exits n =
        omega (arith, loop_once l n (items_parts g back None ((n + 1) ∷ exits) (n + 2) body), items_once body None ((n + 1) ∷ exits) (n + 2), among_sum n 2 (items_labels body) l)

    items_once : (a : Items) (known : Option ℕ) (exits : List ℕ) (n : ℕ) → times_in l (items_parts g back known exits n a) ≡ among n (items_labels a) l
    items_once Items.end known exits n = sym (among_none n l)
    items_once (Items.next i rest) known exits n =
        let k = item_labels i in
        omega (arith, times_append l (item_parts g back known exits n i) (items_parts g back (held_behind known i) exits (n + k) rest), item_once i known exits n, items_once rest (held_behind known i) exits (n + k), among_sum n k (items_labels rest) l)

-- ---- Functions

zero_loop_once : (l n turns : ℕ) → times_in l (zero_loop_if n turns) ≡ single n l
zero_loop_once l n turns = by_test (turns == 0)
  where
    by_test : (b : Bool) → times_in l (if b then Label n ∷ [] else zero_loop n turns) ≡ single n l
    by_test true = lone l n
    by_test false = omega (arith, lone l n)

frame_once : (l n params values : ℕ) → times_in l (frame_parts n params values) ≡ single n l
frame_once l n params values =
    let others = values - params in
    let begin = Addi 2 2 (negative (frame_bytes (others % 8))) ∷ store 1 (others % 8) ∷ zeros (others % 8) 0 in
    omega (
      arith,
      times_append l (plains begin ++ zero_loop_if n (others / 8)) (plains (parameters_if params)),
      times_append l (plains begin) (zero_loop_if n (others / 8)),
      times_plains l begin,
      zero_loop_once l n (others / 8),
      times_plains l (parameters_if params),
    )

function_once : (l g k n : ℕ) (f : FFunction) → times_in l (function_parts g k n f) ≡ single k l + among n (function_labels g f) l
function_once l g k n f =
    let a = plains (enter_code k f.line) in
    let b = frame_parts (n + 1) f.params f.values in
    let c = items_parts g n None [] (n + 2) (items_of g f.body) in
    let d = plains (return_code k f.line f.values) in
    omega (
      arith,
      times_append l (Label k ∷ a ++ b ++ c) (Plain (Addi 9 0 0) ∷ Label n ∷ d),
      times_append l (Label k ∷ a ++ b) c,
      times_append l (Label k ∷ a) b,
      times_plains l (enter_code k f.line),
      frame_once l (n + 1) f.params f.values,
      items_once l g n (items_of g f.body) None [] (n + 2),
      times_plains l (return_code k f.line f.values),
      lone l k,
      lone l n,
      two_labels n l,
      among_sum n 2 (items_labels (items_of g f.body)) l,
    )

functions_once : (l g k n : ℕ) (fs : List FFunction) → times_in l (functions_parts g k n fs) ≡ among k (length fs) l + among n (functions_labels g fs) l
functions_once l g k n [] = omega (arith, among_none k l, among_none n l)
functions_once l g k n (f ∷ fs) =
    let m = function_labels g f in
    omega (
      arith,
      times_append l (function_parts g k n f) (functions_parts g (k + 1) (n + m) fs),
      function_once l g k n f,
      functions_once l g (k + 1) (n + m) fs,
      among_one k l,
      among_sum k 1 (length fs) l,
      more_of k (length fs) l,
      among_sum n m (functions_labels g fs) l,
    )

pub once : LabelsStandOnce
once g code l =
    let k = length code.functions in
    omega (arith, times_append l (start_parts code.main) (functions_parts g 0 k code.functions), functions_once l g 0 k code.functions, among_sum 0 k (functions_labels g code.functions) l, from_zero k (functions_labels g code.functions) l)
