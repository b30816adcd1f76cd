-- The parts that are selected for disciplined code can be resolved: their fields fit, and each goes to a label that is there.
use Rattle.std.proofs.Common.{◌≡◌, ◌==◌, ℕ, zero, suc, ◌+◌, ◌-◌, ◌*◌, ◌/◌, ◌%◌, ◌^◌, ◌<◌, ◌≤◌, inl, inr, Bool, true, false, ◌&&◌, min, if◌then◌else◌, List, [], ◌∷◌, ◌++◌, length, Option, None, Some, refl, ◌∙◌, subst, arith, lit<, lit≤, leb-true}
use Rattle.std.specs.Prelude.{nat_lt, nat_le, slice_get}
use Rattle.std.specs.List.{AllByRecursion}
use Rattle.std.proofs.lemmas.List.Elements.{All-from_recursion}
use Rattle.std.proofs.lemmas.Option.{slice_get_within}
use Rattle.size_table.specs.Blocks.{Block}
use Rattle.size_table.specs.declared.memory_map.TheConstants.{TABLE_START, HEAP_START}
use Rattle.flat_code.specs.Code.{FStep, FSteps, FFunction, FCode}
use Rattle.flat_code.specs.Recognized.{Sequence, sequence_at, further}
use Rattle.flat_code.specs.Weight.{functions_size}
use Rattle.flat_discipline.specs.Items.{Item, Items, item_or, item_of, items_from, items_of, places, all_places}
use Rattle.flat_discipline.specs.Facts.{Fact, Setting}
use Rattle.flat_discipline.specs.Breaks.{fits, is_plain, is_count, Breaks, BreaksAll}
use Rattle.flat_discipline.specs.Discipline.{setting_in, LostAt, params_in, most_values, most_params, library_fits, main_fits, function_fits, BreaksBy, IsDisciplined}
use Rattle.rv_asm.specs.declared.parts.BranchOp.TheVariants as branch
use Rattle.rv_asm.specs.declared.parts.Part.{Part}
use Rattle.rv_asm.specs.declared.parts.Part.TheVariants.{Plain, Label, Branch, Jump}
use Rattle.rv_asm.specs.Parts.{times_in, FitsPart, GoesOnce}
use Rattle.rv_code.specs.declared.instr.Instr.TheVariants.{Lui, Addi, Jalr}
use Rattle.rv_selected.specs.Registers.{cell, frame_bytes, negative, constant}
use Rattle.rv_selected.specs.Steps.{call_code, step_parts}
use Rattle.rv_selected.specs.Checks.{sequence_labels}
use Rattle.rv_selected.specs.Selection.{choice_parts, is_end, loop_parts, item_labels, items_labels, held_behind, item_parts, items_parts, zeros, zero_loop, zero_loop_if, parameters, parameters_code, parameters_if, frame_parts, enter_code, leave_code, return_code, function_parts, function_labels, functions_labels, functions_parts, start_parts, selected}
use Rattle.rv_selected.specs.Words.{StepHasWords, HaveWords, FunctionHasWords}
use Rattle.rv_selected.specs.Laws.{PartsAreResolvable}
use Rattle.rv_selected.proofs.Encodable.{AllFit, none_fits, one_fits, fit_join, both, tested, loaded, stored, fetch_fits, constant_fits, call_fits}
use Rattle.rv_selected.proofs.Labels.{among_in, once}
use Rattle.rv_selected.proofs.Sizes.{light}
use Rattle.rv_selected.proofs.Sound.{Sound, AreSound, AreBelow, not_false, joined, plain, no_parts, label, branch_to, jump_to, small, step_sound, sequence_sound}

-- ---- Items

-- goes on behind an item
choice_sound : (total : ℕ) (a b : Bool) (n : ℕ) (x y : List Part) → n + 2 ≤ total → AreSound total x → AreSound total y → AreSound total (choice_parts a b n x y)
choice_sound total true b n x y room f s =
    let r : n < total = omega (arith, room) in
    joined total (joined total (branch_to total branch.Bne 5 0 n (lit< tt) (lit< tt) r) s) (joined total (label total n) (label total (n + 1)))
choice_sound total false true n x y room f s =
    let r : n < total = omega (arith, room) in
    joined total (joined total (branch_to total branch.Beq 5 0 n (lit< tt) (lit< tt) r) f) (joined total (label total n) (label total (n + 1)))
choice_sound total false false n x y room f s =
    let r : n < total = omega (arith, room) in
    let l : n + 1 < total = omega (arith, room) in
    joined total (joined total (joined total (branch_to total branch.Beq 5 0 n (lit< tt) (lit< tt) r) f) (joined total (jump_to total 0 (n + 1) (lit< tt) l) (joined total (label total n) s))) (label total (n + 1))

loop_sound : (total n : ℕ) (x : List Part) → n + 2 ≤ total → AreSound total x → AreSound total (loop_parts n x)
loop_sound total n x room f =
    let r : n < total = omega (arith, room) in
    joined total (joined total (label total n) f) (joined total (jump_to total 0 n (lit< tt) r) (label total (n + 1)))

module _ (s : Setting) (few : s.values ≤ 255) (total : ℕ) (callable : (f n : ℕ) → is_count (s.params_of f) n ≡ true → f < total) (g : ℕ) (least : 1 ≤ g) (most : g ≤ 24)
    (L : (place : ℕ) → Fact → Type 0) (back : ℕ) (own : back < total) where
  in_range : (x : FStep) (levels p : ℕ) → ((q : ℕ) → Breaks g s L levels (Item.Plain x) p q → ⊥) → fits s levels x ≡ true
  in_range x levels p h = (both (fits s levels x) (is_plain x) (not_false (fits s levels x && is_plain x) (λ e. h p (refl, inl e)))).0

  inside : (l : ℕ) (exits : List ℕ) → l < total → AreBelow total exits → AreBelow total (l ∷ exits)
  inside l exits lt below = record { each = (lt, below.each) }

  plain_item : (x : FStep) (known : Option ℕ) (exits : List ℕ) (p : ℕ) → ((q : ℕ) → Breaks g s L (length exits) (Item.Plain x) p q → ⊥) → StepHasWords x → AreBelow total exits → AreSound total (step_parts g back known exits x)
  plain_item x known exits p h w below = step_sound s few total callable g least most x back known exits (in_range x (length exits) p h) w own below

  mutual
    item_sound : (x : FStep) (known : Option ℕ) (exits : List ℕ) (n p : ℕ) → ((q : ℕ) → Breaks g s L (length exits) (item_of g x) p q → ⊥) → StepHasWords x → AreBelow total exits → n + item_labels (item_of g x) ≤ total
        → AreSound total (item_parts g back known exits n (item_of g x))
    item_sound (FStep.If cond x y) known exits n p h w below room =
        let first = items_from g 0 x in
        let k = items_labels first in
        let c = small s few cond (not_false (nat_lt cond s.values) (λ e. h p (inl (refl, inl e)))) in
        let r1 : n + 2 + k ≤ total = omega (arith, room) in
        let r2 : n + 2 + k + items_labels (items_from g 0 y) ≤ total = omega (arith, room) in
        let r3 : n + 2 ≤ total = omega (arith, room) in
        joined total (plain total (fetch_fits known cond c))
        (choice_sound total (is_end first) (is_end (items_from g 0 y)) n _ _ r3 (items_sound x 0 None exits (n + 2) (p + 1) (λ q b. h q (inr (inl b))) w.0 below r1)
        (items_sound y 0 None exits (n + 2 + k) (p + 1 + all_places g first) (λ q b. h q (inr (inr b))) w.1 below r2))
    item_sound (FStep.Block x) known exits n p h w below room =
        let r0 : n < total = omega (arith, room) in
        let r1 : n + 1 + items_labels (items_from g 0 x) ≤ total = omega (arith, room) in
        joined total (items_sound x 0 known (n ∷ exits) (n + 1) (p + 1) h w (inside n exits r0 below) r1) (label total n)
    item_sound (FStep.Loop x) known exits n p h w below room =
        let r0 : n + 1 < total = omega (arith, room) in
        let r1 : n + 2 + items_labels (items_from g 0 x) ≤ total = omega (arith, room) in
        let r2 : n + 2 ≤ total = omega (arith, room) in
        loop_sound total n _ r2 (items_sound x 0 None ((n + 1) ∷ exits) (n + 2) (p + 1) h w (inside (n + 1) exits r0 below) r1)
    item_sound (FStep.Inner x) known exits n p h w below room =
        let r0 : n + 1 < total = omega (arith, room) in
        let r1 : n + 2 + items_labels (items_from g 0 x) ≤ total = omega (arith, room) in
        let r2 : n + 2 ≤ total = omega (arith, room) in
        loop_sound total n _ r2 (items_sound x 0 None ((n + 1) ∷ exits) (n + 2) (p + 1) h w (inside (n + 1) exits r0 below) r1)
    item_sound x known exits n p h w below room = plain_item x known exits p h w below

    items_sound : (a : FSteps) (skip : ℕ) (known : Option ℕ) (exits : List ℕ) (n p : ℕ) → ((q : ℕ) → BreaksAll g s L (length exits) (items_from g skip a) p q → ⊥) → HaveWords a → AreBelow total exits → n + items_labels (items_from g skip a) ≤ total
        → AreSound total (items_parts g back known exits n (items_from g skip a))
    items_sound FSteps.none zero known exits n p h w below room = no_parts total
    items_sound FSteps.none (suc skip) known exits n p h w below room = no_parts total
    items_sound (FSteps.more x rest) (suc skip) known exits n p h w below room = items_sound rest skip known exits n p h w.1 below room
    items_sound (FSteps.more x rest) zero known exits n p h w below room =
        by_found (sequence_at g (FSteps.more x rest)) (λ k m r b. item_sound x k exits m r b w.0 below) (λ skip k m r b. items_sound rest skip k exits m r b w.1 below) h room
      where
        by_found : (found : Option Sequence)
            → ((k : Option ℕ) (m r : ℕ) → ((q : ℕ) → Breaks g s L (length exits) (item_of g x) r q → ⊥) → m + item_labels (item_of g x) ≤ total → AreSound total (item_parts g back k exits m (item_of g x)))
            → ((skip : ℕ) (k : Option ℕ) (m r : ℕ) → ((q : ℕ) → BreaksAll g s L (length exits) (items_from g skip rest) r q → ⊥) → m + items_labels (items_from g skip rest) ≤ total → AreSound total (items_parts g back k exits m (items_from g skip rest)))
            → ((q : ℕ) → BreaksAll g s L (length exits) (Items.next (item_or found (item_of g x)) (items_from g (further g found) rest)) p q → ⊥)
            → n + items_labels (Items.next (item_or found (item_of g x)) (items_from g (further g found) rest)) ≤ total
            → AreSound total (items_parts g back known exits n (Items.next (item_or found (item_of g x)) (items_from g (further g found) rest)))
        by_found None one more b r =
            let i = item_of g x in
            let r0 : n + item_labels i ≤ total = omega (arith, r) in
            let r1 : n + item_labels i + items_labels (items_from g 0 rest) ≤ total = omega (arith, r) in
            joined total (one known n p (λ q c. b q (inl c)) r0) (more 0 (held_behind known i) (n + item_labels i) (p + places g i) (λ q c. b q (inr c)) r1)
        by_found (Some q) one more b r =
            let skip = further g (Some q) in
            let r0 : n + sequence_labels q ≤ total = omega (arith, r) in
            let r1 : n + sequence_labels q + items_labels (items_from g skip rest) ≤ total = omega (arith, r) in
            joined total (sequence_sound s few total callable g least most q (L p) (length exits) p n (λ x c. b x (inl (inr c))) r0)
            (more skip None (n + sequence_labels q) (p + places g (Item.Checks q)) (λ x c. b x (inr c)) r1)

-- ---- Functions

zeros_fit : (n v : ℕ) → v + n ≤ 256 → AllFit (zeros n v)
zeros_fit zero v h = none_fits
zeros_fit (suc n) v h =
    let here : v ≤ 255 = omega (arith, h) in
    let rest : v + 1 + n ≤ 256 = omega (arith, h) in
    fit_join (stored 0 v (lit< tt) here) (zeros_fit n (v + 1) rest)

parameters_fit : (n v : ℕ) → v + n ≤ 8 → AllFit (parameters n v)
parameters_fit zero v h = none_fits
parameters_fit (suc n) v h =
    let register : 18 + v < 32 = omega (arith, h) in
    let here : v ≤ 255 = omega (arith, h) in
    let rest : v + 1 + n ≤ 8 = omega (arith, h) in
    fit_join (stored (18 + v) v register here) (parameters_fit n (v + 1) rest)

-- x2 moves by a number of bytes, down or up
down_fits : (rd n : ℕ) → rd < 32 → n ≤ 2048 → AllFit (Addi rd 2 (negative n) ∷ [])
down_fits rd n h few = one_fits (Addi rd 2 (negative n)) ((omega (arith, few), omega (arith, few)), lit< tt, h)

up_fits : (n : ℕ) → n < 2048 → AllFit (Addi 2 2 n ∷ [])
up_fits n few = one_fits (Addi 2 2 n) ((omega (arith, few), omega (arith, few)), lit< tt, lit< tt)

parameters_if_fit : (params : ℕ) → params ≤ 8 → AllFit (parameters_if params)
parameters_if_fit params few = by (params == 0)
  where
    by : (b : Bool) → AllFit (if b then [] else parameters_code params)
    by true = none_fits
    by false =
        let bytes : cell params ≤ 2048 = omega (arith, few) in
        let stores : 0 + min params 8 ≤ 8 = omega arith in
        fit_join (down_fits 2 (cell params) (lit< tt) bytes) (parameters_fit (min params 8) 0 stores)

module _ (total : ℕ) where
  zero_loop_sound : (n turns : ℕ) → turns ≤ 31 → n < total → AreSound total (zero_loop_if n turns)
  zero_loop_sound n turns few lt = by (turns == 0)
    where
      by : (b : Bool) → AreSound total (if b then Label n ∷ [] else zero_loop n turns)
      by true = label total n
      by false =
          let bytes : (32 * turns) % 2 ^ 32 ≤ 2048 = omega (arith, few) in
          joined total (joined total (joined total (plain total (down_fits 6 ((32 * turns) % 2 ^ 32) (lit< tt) bytes)) (label total n)) (joined total (plain total (down_fits 2 32 (lit< tt) (lit≤ tt))) (plain total (zeros_fit 8 0 (lit≤ tt)))))
          (branch_to total branch.Bne 2 6 n (lit< tt) (lit< tt) lt)

  frame_sound : (n params values : ℕ) → values ≤ 255 → params ≤ 8 → n < total → AreSound total (frame_parts n params values)
  frame_sound n params values few small_params lt =
      let others = values - params in
      let bytes : frame_bytes (others % 8) ≤ 2048 = omega arith in
      let behind : others % 8 ≤ 255 = omega arith in
      let zeroed : 0 + others % 8 ≤ 256 = omega arith in
      let turns : others / 8 ≤ 31 = omega (arith, few) in
      joined total (joined total (joined total (plain total (fit_join (down_fits 2 (frame_bytes (others % 8)) (lit< tt) bytes) (stored 1 (others % 8) (lit< tt) behind))) (plain total (zeros_fit (others % 8) 0 zeroed)))
      (zero_loop_sound n (others / 8) turns lt)) (plain total (parameters_if_fit params small_params))

enter_fits : (k line : ℕ) → k < 2 ^ 32 → line < 2 ^ 32 → AllFit (enter_code k line)
enter_fits k line a b = by (line == 0)
  where
    by : (z : Bool) → AllFit (if z then [] else constant 10 k ++ constant 11 line ++ call_code 7 ++ Addi 8 10 0 ∷ [])
    by true = none_fits
    by false = fit_join (fit_join (fit_join (constant_fits 10 k (lit< tt) a) (constant_fits 11 line (lit< tt) b)) (call_fits 7 (lit< tt))) (tested (Addi 8 10 0 ∷ []) refl)

leave_fits : (k line : ℕ) → k < 2 ^ 32 → AllFit (leave_code k line)
leave_fits k line a = by (line == 0)
  where
    by : (z : Bool) → AllFit (if z then [] else constant 10 k ++ call_code 8 ++ Addi 8 10 0 ∷ [])
    by true = none_fits
    by false = fit_join (fit_join (constant_fits 10 k (lit< tt) a) (call_fits 8 (lit< tt))) (tested (Addi 8 10 0 ∷ []) refl)

return_fits : (k line values : ℕ) → k < 2 ^ 32 → values ≤ 255 → AllFit (return_code k line values)
return_fits k line values a few =
    let bytes : frame_bytes values < 2048 = omega (arith, few) in
    fit_join (fit_join (fit_join (loaded 1 values (lit< tt) few) (up_fits (frame_bytes values) bytes)) (leave_fits k line a)) (tested (Jalr 0 1 0 ∷ []) refl)

-- what is taken of a function that keeps the discipline, among these functions
record IsKept (g : ℕ) (globals : List Block) (functions : List FFunction) (k : ℕ) (f : FFunction) : Type 0 where
  values : f.values ≤ 255
  params : f.params ≤ 8
  body : (q : ℕ) → BreaksAll g (setting_in globals functions (Some f)) (LostAt g globals functions k) 0 (items_of g f.body) 0 q → ⊥

callable : (functions : List FFunction) (total : ℕ) → length functions ≤ total → (k n : ℕ) → is_count (params_in (slice_get functions k)) n ≡ true → k < total
callable functions total room k n e = by (slice_get functions k) refl e
  where
    by : (o : Option FFunction) → slice_get functions k ≡ o → is_count (params_in o) n ≡ true → k < total
    by None is c = absurd (let q : false ≡ true = c in cc)
    by (Some f) is c = let lt = slice_get_within functions k f is in omega (arith, lt, room)

module _ (g : ℕ) (least : 1 ≤ g) (most : g ≤ 24) (globals : List Block) (functions : List FFunction) (total : ℕ) (room : length functions ≤ total) where
  function_sound : (k n : ℕ) (f : FFunction) → IsKept g globals functions k f → FunctionHasWords f → k < 2 ^ 32 → n + function_labels g f ≤ total → AreSound total (function_parts g k n f)
  function_sound k n f kept w number labels =
      let r0 : n < total = omega (arith, labels) in
      let r1 : n + 1 < total = omega (arith, labels) in
      let r2 : n + 2 + items_labels (items_of g f.body) ≤ total = omega (arith, labels) in
      let s = setting_in globals functions (Some f) in
      joined total (joined total (joined total (joined total (label total k) (plain total (enter_fits k f.line number w.0))) (frame_sound total (n + 1) f.params f.values kept.values kept.params r1))
      (items_sound s kept.values total (callable functions total room) g least most (LostAt g globals functions k) n r0 f.body 0 None [] (n + 2) 0 kept.body w.1 (record { each = tt }) r2))
      (joined total (joined total (plain total (tested (Addi 9 0 0 ∷ []) refl)) (label total n)) (plain total (return_fits k f.line f.values number kept.values)))

  functions_sound : (fs : List FFunction) (k n : ℕ) → ((i : ℕ) (f : FFunction) → slice_get fs i ≡ Some f → IsKept g globals functions (k + i) f) → AllByRecursion FunctionHasWords fs → k + length fs ≤ 2 ^ 32
      → n + functions_labels g fs ≤ total → AreSound total (functions_parts g k n fs)
  functions_sound [] k n kept w few labels = no_parts total
  functions_sound (f ∷ fs) k n kept w few labels =
      let zeroth : k + 0 ≡ k = omega arith in
      let own = subst (λ j. IsKept g globals functions j f) zeroth (kept 0 f refl) in
      let number : k < 2 ^ 32 = omega (arith, few) in
      let few_more : k + 1 + length fs ≤ 2 ^ 32 = omega (arith, few) in
      let r0 : n + function_labels g f ≤ total = omega (arith, labels) in
      let r1 : n + function_labels g f + functions_labels g fs ≤ total = omega (arith, labels) in
      joined total (function_sound k n f own w.0 number r0)
      (functions_sound fs (k + 1) (n + function_labels g f) (λ i x is. let e : k + suc i ≡ k + 1 + i = omega arith in subst (λ j. IsKept g globals functions j x) e (kept (suc i) x is)) w.1 few_more r1)

-- ---- The program

fits_function : (main k : ℕ) (f : FFunction) → function_fits main k f ≡ true → (f.values ≤ 255) × (f.params ≤ 8)
fits_function main k f e =
    let t = both (nat_le f.values most_values && nat_le f.params most_params) (nat_le f.params f.values && (library_fits f && main_fits main k f)) e in
    let u = both (nat_le f.values most_values) (nat_le f.params most_params) t.0 in
    (leb-true f.values most_values u.0, leb-true f.params most_params u.1)

module _ (g : ℕ) (globals : List Block) (code : FCode) (disciplined : IsDisciplined g globals code) where
  unbroken : (k : ℕ) (o : Option FFunction) → slice_get code.functions k ≡ o → (q : ℕ) → BreaksBy g (setting_in globals code.functions o) (LostAt g globals code.functions k) code.main k o q → ⊥
  unbroken k o is = subst (λ x. (q : ℕ) → BreaksBy g (setting_in globals code.functions x) (LostAt g globals code.functions k) code.main k x q → ⊥) is (disciplined k)

  is_kept : (k : ℕ) (f : FFunction) → slice_get code.functions k ≡ Some f → IsKept g globals code.functions k f
  is_kept k f is =
      let h = unbroken k (Some f) is in
      let whole = fits_function code.main k f (not_false (function_fits code.main k f) (λ e. h 0 (inl (refl, e)))) in
      record { values = whole.0; params = whole.1; body = λ q b. h q (inr b) }

  main_is : code.main < length code.functions
  main_is = by (slice_get code.functions code.main) refl
    where
      by : (o : Option FFunction) → slice_get code.functions code.main ≡ o → code.main < length code.functions
      by None is = absurd (unbroken code.main None is 0 (refl, refl))
      by (Some f) is = slice_get_within code.functions code.main f is

start_sound : (total main : ℕ) → main < total → AreSound total (start_parts main)
start_sound total main lt = joined total (joined total (plain total (tested (Lui 8 HEAP_START ∷ Lui 26 TABLE_START ∷ []) refl)) (jump_to total 1 main (lit< tt) lt)) (plain total (fit_join (tested (Addi 10 9 0 ∷ []) refl) (call_fits 1 (lit< tt))))

functions_weigh : (g : ℕ) (fs : List FFunction) → length fs ≤ functions_size g fs
functions_weigh g [] = lit≤ tt
functions_weigh g (f ∷ fs) = omega (arith, functions_weigh g fs)

part_fits : (total : ℕ) (ps : List Part) → AllByRecursion (Sound total) ps → AllByRecursion FitsPart ps
part_fits total [] h = tt
part_fits total (Plain i ∷ ps) h = (h.0, part_fits total ps h.1)
part_fits total (Label l ∷ ps) h = (tt, part_fits total ps h.1)
part_fits total (Branch op rs1 rs2 to ∷ ps) h = ((h.0.0, h.0.1), part_fits total ps h.1)
part_fits total (Jump rd to ∷ ps) h = (h.0.0, part_fits total ps h.1)

part_goes : (total : ℕ) (all : List Part) → ((l : ℕ) → l < total → times_in l all ≡ 1) → (ps : List Part) → AllByRecursion (Sound total) ps → AllByRecursion (GoesOnce all) ps
part_goes total all one [] h = tt
part_goes total all one (Plain i ∷ ps) h = (tt, part_goes total all one ps h.1)
part_goes total all one (Label l ∷ ps) h = (tt, part_goes total all one ps h.1)
part_goes total all one (Branch op rs1 rs2 to ∷ ps) h = (one to h.0.2, part_goes total all one ps h.1)
part_goes total all one (Jump rd to ∷ ps) h = (one to h.0.1, part_goes total all one ps h.1)

pub resolvable : PartsAreResolvable
resolvable g globals code least most disciplined words room =
    let k = length code.functions in
    let total = k + functions_labels g code.functions in
    let all = selected g code in
    let main_lt : code.main < total = omega (arith, main_is g globals code disciplined) in
    let few : 0 + k ≤ 2 ^ 32 = omega (arith, functions_weigh g code.functions, room) in
    let held : k ≤ total = omega arith in
    let labels : k + functions_labels g code.functions ≤ total = omega arith in
    let kept : (i : ℕ) (f : FFunction) → slice_get code.functions i ≡ Some f → IsKept g globals code.functions (0 + i) f = λ i f is. let e : i ≡ 0 + i = omega arith in subst (λ j. IsKept g globals code.functions j f) e (is_kept g globals code disciplined i f is) in
    let one_or_more : 1 ≤ g = omega (arith, least) in
    let sound = joined total (start_sound total code.main main_lt) (functions_sound g one_or_more most globals code.functions total held code.functions 0 k kept words few labels) in
    let one : (l : ℕ) → l < total → times_in l all ≡ 1 = λ l lt. once g code l ∙ among_in 0 total l (omega arith) (omega (arith, lt)) in
    record {
      fits = All-from_recursion FitsPart all (part_fits total all sound.each);
      once = All-from_recursion (GoesOnce all) all (part_goes total all one all sound.each);
      size = omega (arith, light g code, room);
    }
