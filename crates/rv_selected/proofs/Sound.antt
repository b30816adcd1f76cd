-- The parts of steps and of sequences whose numbers are in range: their fields fit, and each goes to a label below a number.
use Rattle.std.proofs.Common.{◌≡◌, ℕ, zero, suc, ◌+◌, ◌-◌, ◌^◌, ◌<◌, ◌≤◌, inl, inr, Bool, true, false, ◌&&◌, List, [], ◌∷◌, ◌++◌, length, Option, refl, arith, lit<, ltb-true, leb-true}
use Rattle.std.specs.Prelude.{nat_lt, nat_le, slice_index}
use Rattle.std.specs.List.{AllByRecursion}
use Rattle.std.proofs.Math.Pow.{pow_mono}
use Rattle.flat_code.specs.Code.{FStep, FSteps}
use Rattle.flat_code.specs.Recognized.{Sequence, sequence_steps}
use Rattle.flat_discipline.specs.Items.{step_places, steps_places}
use Rattle.flat_discipline.specs.Facts.{Fact, Setting}
use Rattle.flat_discipline.specs.Breaks.{fits, is_count, all_below, operands, InsideStep, Inside}
use Rattle.flat_discipline.specs.Derivations.{FitStep, Fit}
use Rattle.bb_words.specs.declared.kinds.ReportKind.{ReportKind}
use Rattle.bb_words.specs.declared.kinds.ReportKind.TheVariants.{Bounds, Pointer}
use Rattle.marked_ptr.specs.Marked.{half_slot}
use Rattle.rv_asm.specs.declared.parts.BranchOp.{BranchOp}
use Rattle.rv_asm.specs.declared.parts.BranchOp.TheVariants as branch
use Rattle.rv_asm.specs.declared.parts.Part.{Part}
use Rattle.rv_asm.specs.declared.parts.Part.TheVariants.{Plain, Label, Branch, Jump}
use Rattle.rv_code.specs.Code.{Fits}
use Rattle.rv_code.specs.declared.instr.Instr.{Instr}
use Rattle.rv_code.specs.declared.instr.Instr.TheVariants.{Addi, Slli, Srli, Add, Sub, Sll, Srl, Lw, Lbu}
use Rattle.rv_selected.specs.Registers.{load}
use Rattle.rv_selected.specs.Steps.{plains, step_parts, label_out}
use Rattle.rv_selected.specs.Checks.{find_block, find_base, find_offset, widen, mark_code, unless_parts, move_end, move_parts, load_parts, last_distance, span_parts, sequence_parts, sequence_labels}
use Rattle.rv_selected.specs.Words.{StepHasWords}
use Rattle.rv_selected.proofs.Encodable.{AllFit, one_fits, fit_join, both, tested, loaded, stored, added, constant_fits, owner_fits, look_fits, report_fits, number_fits, same_fits, arith_fits, slot_fits, looked_fits, frame_fits, loading_fits, storing_fits, checked_fits, line_fits, environment_fits, AreFew, call_arguments_fit}

-- ---- Parts

-- its fields fit, and it goes to a label below this number
abbrev pub Sound : (total : ℕ) → Part → Type 0
Sound total (Plain i) = Fits i
Sound total (Label l) = Unit {0}
Sound total (Branch op rs1 rs2 to) = (rs1 < 32) × (rs2 < 32) × (to < total)
Sound total (Jump rd to) = (rd < 32) × (to < total)

pub record AreSound (total : ℕ) (parts : List Part) : Type 0 where
  pub each : AllByRecursion (Sound total) parts

-- labels below the number
pub record AreBelow (total : ℕ) (labels : List ℕ) : Type 0 where
  pub each : AllByRecursion (λ l. l < total) labels

pub below_at : (total : ℕ) (labels : List ℕ) (k : ℕ) → AllByRecursion (λ l. l < total) labels → k < length labels → slice_index labels k < total
below_at total [] k h lt = absurd (omega (arith, lt))
below_at total (l ∷ labels) zero h lt = h.0
below_at total (l ∷ labels) (suc k) h lt = below_at total labels k h.1 (omega (arith, lt))

pub not_false : (b : Bool) → (b ≡ false → ⊥) → b ≡ true
not_false true h = refl
not_false false h = absurd (h refl)

module _ (total : ℕ) where
  sound_append : (a b : List Part) → AllByRecursion (Sound total) a → AllByRecursion (Sound total) b → AllByRecursion (Sound total) (a ++ b)
  sound_append [] b x y = y
  sound_append (p ∷ a) b x y = (x.0, sound_append a b x.1 y)

  pub joined : {a b : List Part} → AreSound total a → AreSound total b → AreSound total (a ++ b)
  joined {a} {b} x y = record { each = sound_append a b x.each y.each }

  each_plain : (is : List Instr) → AllByRecursion Fits is → AllByRecursion (Sound total) (plains is)
  each_plain [] h = tt
  each_plain (i ∷ is) h = (h.0, each_plain is h.1)

  pub plain : {is : List Instr} → AllFit is → AreSound total (plains is)
  plain {is} h = record { each = each_plain is h.each }

  pub no_parts : AreSound total []
  no_parts = record { each = tt }

  pub label : (l : ℕ) → AreSound total (Label l ∷ [])
  label l = record { each = (tt, tt) }

  pub branch_to : (op : BranchOp) (rs1 rs2 to : ℕ) → rs1 < 32 → rs2 < 32 → to < total → AreSound total (Branch op rs1 rs2 to ∷ [])
  branch_to op rs1 rs2 to a b c = record { each = ((a, b, c), tt) }

  pub jump_to : (rd to : ℕ) → rd < 32 → to < total → AreSound total (Jump rd to ∷ [])
  jump_to rd to a b = record { each = ((a, b), tt) }

  -- ---- Sequences

  unless_sound : (op : BranchOp) (rs1 rs2 n : ℕ) (kind : ReportKind) (line : ℕ) → rs1 < 32 → rs2 < 32 → line ≤ 255 → n < total → AreSound total (unless_parts op rs1 rs2 n kind line)
  unless_sound op rs1 rs2 n kind line a b few lt = joined (joined (branch_to op rs1 rs2 n a b lt) (plain (report_fits kind line few))) (label n)

  module _ (g : ℕ) (most : g ≤ 24) where
    block_fits : (p : ℕ) → p ≤ 255 → AllFit (find_block g p)
    block_fits p few = fit_join (fit_join (loaded 5 p (lit< tt) few) (owner_fits g most)) (look_fits 13 7 (lit< tt) (lit< tt))

    base_fits : (p : ℕ) → p ≤ 255 → AllFit (find_base g p)
    base_fits p few =
        fit_join (one_fits (Slli 7 7 g) (omega (arith, most), lit< tt, lit< tt))
        (fit_join (tested (Srl 7 7 13 ∷ Sll 7 7 13 ∷ Addi 14 0 1 ∷ Sll 14 14 13 ∷ []) refl) (fit_join (loaded 5 p (lit< tt) few) (tested (Slli 16 5 1 ∷ Srli 16 16 1 ∷ []) refl)))

    offset_fits : (p : ℕ) (distance : List Instr) → p ≤ 255 → AllFit distance → AllFit (find_offset g p distance)
    offset_fits p distance few d = fit_join (fit_join (base_fits p few) d) (tested (Add 16 16 6 ∷ Sub 15 16 7 ∷ []) refl)

    widen_fits : half_slot g < 2 ^ 32 → 2 ^ g < 2 ^ 32 → AllFit (widen g)
    widen_fits half whole =
        fit_join (fit_join (fit_join (constant_fits 6 (half_slot g) (lit< tt) half) (added 15 15 6 (lit< tt) (lit< tt) (lit< tt))) (constant_fits 6 (2 ^ g) (lit< tt) whole)) (added 14 14 6 (lit< tt) (lit< tt) (lit< tt))

    end_fits : (p q : ℕ) → p ≤ 255 → q ≤ 255 → AllFit (move_end p q)
    end_fits p q few small = fit_join (loaded 5 p (lit< tt) few) (fit_join (added 0 5 16 (lit< tt) (lit< tt) (lit< tt)) (stored 16 q (lit< tt) small))

    pub move_sound : half_slot g < 2 ^ 32 → 2 ^ g < 2 ^ 32 → (n p : ℕ) (distance : List Instr) (q line : ℕ) → p ≤ 255 → AllFit distance → q ≤ 255 → line ≤ 255 → n + 3 ≤ total → AreSound total (move_parts g n p distance q line)
    unfolding move_parts
    move_sound half whole n p distance q line sp sd sq sl room =
        let r0 : n < total = omega (arith, room) in
        let r1 : n + 1 < total = omega (arith, room) in
        let r2 : n + 2 < total = omega (arith, room) in
        joined (joined (joined (joined (joined (joined (joined (joined
        (plain (block_fits p sp)) (unless_sound branch.Bne 13 0 n Bounds line (lit< tt) (lit< tt) sl r0)) (plain (offset_fits p distance sp sd)))
        (branch_to branch.Bltu 15 14 (n + 2) (lit< tt) (lit< tt) r2)) (plain (widen_fits half whole))) (unless_sound branch.Bltu 15 14 (n + 1) Bounds line (lit< tt) (lit< tt) sl r1))
        (plain (tested mark_code refl))) (label (n + 2))) (plain (end_fits p q sp sq))

    pub load_sound : 2 ^ (25 - g) < 2 ^ 32 → (n w at line : ℕ) → w ≤ 255 → at ≤ 255 → line ≤ 255 → n + 2 ≤ total → AreSound total (load_parts g n w at line)
    unfolding load_parts
    load_sound slots n w at line sw sa sl room =
        let r0 : n < total = omega (arith, room) in
        let r1 : n + 1 < total = omega (arith, room) in
        let begin = fit_join (loaded 5 at (lit< tt) sa) (fit_join (tested (Lw 5 5 0 ∷ []) refl) (stored 5 w (lit< tt) sw)) in
        let owner = fit_join (fit_join (loaded 5 w (lit< tt) sw) (owner_fits g most)) (constant_fits 6 (2 ^ (25 - g)) (lit< tt) slots) in
        joined (joined (joined (joined (joined
        (plain begin) (branch_to branch.Beq 5 0 (n + 1) (lit< tt) (lit< tt) r1)) (plain owner)) (unless_sound branch.Bltu 7 6 n Pointer line (lit< tt) (lit< tt) sl r0))
        (plain (look_fits 13 7 (lit< tt) (lit< tt)))) (unless_sound branch.Bne 13 0 (n + 1) Pointer line (lit< tt) (lit< tt) sl r1)

    pub span_sound : half_slot g < 2 ^ 32 → 2 ^ g < 2 ^ 32 → (n p count q line : ℕ) → p ≤ 255 → count ≤ 255 → q ≤ 255 → line ≤ 255 → n + 5 ≤ total → AreSound total (span_parts g n p count q line)
    unfolding span_parts
    span_sound half whole n p count q line sp sn sq sl room =
        let r0 : n < total = omega (arith, room) in
        let r1 : n + 1 < total = omega (arith, room) in
        let r2 : n + 2 + 3 ≤ total = omega (arith, room) in
        let last = fit_join (loaded 6 count (lit< tt) sn) (tested (Addi 6 6 0xffff_ffff ∷ []) refl) in
        joined (joined (joined (joined (joined (joined
        (plain (fit_join (loaded 6 count (lit< tt) sn) (constant_fits 7 0x0100_0001 (lit< tt) (lit< tt)))) (unless_sound branch.Bltu 6 7 n Bounds line (lit< tt) (lit< tt) sl r0))
        (branch_to branch.Beq 6 0 (n + 1) (lit< tt) (lit< tt) r1)) (plain (fit_join (loaded 5 p (lit< tt) sp) (tested (Lbu 5 5 0 ∷ []) refl))))
        (move_sound half whole (n + 2) p (last_distance count) q line sp last sq sl r2)) (plain (tested (Lbu 5 16 0 ∷ []) refl))) (label (n + 1))

-- ---- What the discipline says of numbers

module _ (s : Setting) (few : s.values ≤ 255) where
  pub small : (v : ℕ) → nat_lt v s.values ≡ true → v ≤ 255
  small v e = let l = ltb-true v s.values e in omega (arith, l, few)

  pub two : (a b : ℕ) → (nat_lt a s.values && nat_lt b s.values) ≡ true → (a ≤ 255) × (b ≤ 255)
  two a b e = let t = both (nat_lt a s.values) (nat_lt b s.values) e in (small a t.0, small b t.1)

  pub three : (a b c : ℕ) → (nat_lt a s.values && (nat_lt b s.values && nat_lt c s.values)) ≡ true → (a ≤ 255) × (b ≤ 255) × (c ≤ 255)
  three a b c e =
      let t = both (nat_lt a s.values) (nat_lt b s.values && nat_lt c s.values) e in
      let r = two b c t.1 in
      (small a t.0, r.0, r.1)

  all_few : (vs : List ℕ) → all_below s.values vs ≡ true → AreFew vs
  all_few [] e = tt
  all_few (v ∷ vs) e = let t = both (nat_lt v s.values) (all_below s.values vs) e in (small v t.0, all_few vs t.1)

  -- the steps of a sequence that breaks nothing are in range
  module _ (L : Fact → Type 0) (given : List ℕ) where
    mutual
      step_in_range : (x : FStep) (levels p : ℕ) → ((q : ℕ) → InsideStep s L given levels x p q → ⊥) → FitStep s levels x
      step_in_range (FStep.If cond x y) levels p h =
          (not_false (nat_lt cond s.values) (λ e. h p (inl (refl, inl e))), steps_in_range x levels (p + 1) (λ q b. h q (inr (inl b))), steps_in_range y levels (p + 1 + steps_places x) (λ q b. h q (inr (inr b))))
      step_in_range (FStep.Block x) levels p h = steps_in_range x (suc levels) (p + 1) h
      step_in_range (FStep.Loop x) levels p h = steps_in_range x (suc levels) (p + 1) h
      step_in_range (FStep.Inner x) levels p h = steps_in_range x (suc levels) (p + 1) h
      step_in_range x levels p h = not_false (fits s levels x) (λ e. h p (refl, inl e))

      pub steps_in_range : (a : FSteps) (levels p : ℕ) → ((q : ℕ) → Inside s L given levels a p q → ⊥) → Fit s levels a
      steps_in_range FSteps.none levels p h = tt
      steps_in_range (FSteps.more x rest) levels p h = (step_in_range x levels p (λ q b. h q (inl b)), steps_in_range rest levels (p + step_places x) (λ q b. h q (inr b)))

  -- ---- Steps

  module _ (total : ℕ) (callable : (f n : ℕ) → is_count (s.params_of f) n ≡ true → f < total) (g : ℕ) (least : 1 ≤ g) (most : g ≤ 24) where
    powers : (2 ^ (g - 1) < 2 ^ 32) × (2 ^ g < 2 ^ 32) × (2 ^ (25 - g) < 2 ^ 32)
    powers =
        let a : g - 1 ≤ 24 = omega (arith, most) in
        let b : 25 - g ≤ 24 = omega (arith, least) in
        let x : 2 ^ (g - 1) ≤ 2 ^ 24 = pow_mono a in
        let y : 2 ^ g ≤ 2 ^ 24 = pow_mono most in
        let z : 2 ^ (25 - g) ≤ 2 ^ 24 = pow_mono b in
        (omega (arith, x), omega (arith, y), omega (arith, z))

    -- a sequence that breaks nothing
    pub sequence_sound : (q : Sequence) (L : Fact → Type 0) (levels p n : ℕ) → ((x : ℕ) → Inside s L (operands q) levels (sequence_steps g q) p x → ⊥) → n + sequence_labels q ≤ total → AreSound total (sequence_parts g n q)
    sequence_sound (Sequence.Move p d q line v e) L levels at n h room =
        let a = steps_in_range L (p ∷ d ∷ line ∷ []) (sequence_steps g (Sequence.Move p d q line v e)) levels at h in
        let first = two v p a.0 in
        let sum = three q q d a.1.1.1.1.1.1.1.1.1.1.1.0 in
        move_sound total g most powers.0 powers.1 n p (load 6 d ∷ []) q line first.1 (loaded 6 d (lit< tt) sum.2) sum.0 (small line a.1.1.0.2.0) room
    sequence_sound (Sequence.Load w at line v e) L levels p n h room =
        let a = steps_in_range L (at ∷ line ∷ []) (sequence_steps g (Sequence.Load w at line v e)) levels p h in
        let first = two w at a.0 in
        load_sound total g most powers.2 n w at line first.0 first.1 (small line a.1.0.1.1.1.1.0.2.0) room
    sequence_sound (Sequence.Span p count q line d v e) L levels at n h room =
        let a = steps_in_range L (p ∷ count ∷ line ∷ []) (sequence_steps g (Sequence.Span p count q line d v e)) levels at h in
        let test = three d count d a.1.0 in
        let touch = a.1.1.1.0.1 in
        let first = two d p touch.0 in
        span_sound total g most powers.0 powers.1 n p count q line first.1 test.1 (small q touch.1.1.1.1.1.1.0) (small line a.1.1.0.2.0) room

    called : (to function : ℕ) (args : List ℕ) (out : Bool) → (nat_lt to s.values && (all_below s.values args && (is_count (s.params_of function) (length args) && out))) ≡ true
        → (to ≤ 255) × AreFew args × (function < total)
    called to function args out e =
        let t = both (nat_lt to s.values) (all_below s.values args && (is_count (s.params_of function) (length args) && out)) e in
        let u = both (all_below s.values args) (is_count (s.params_of function) (length args) && out) t.1 in
        let v = both (is_count (s.params_of function) (length args)) out u.1 in
        (small to t.0, all_few args u.0, callable function (length args) v.0)

    asked : (to call a b : ℕ) → (nat_lt to s.values && (nat_lt a s.values && (nat_lt b s.values && (nat_lt 0 call && nat_lt call 6)))) ≡ true → (to ≤ 255) × (a ≤ 255) × (b ≤ 255) × (call < 2048)
    asked to call a b e =
        let t = both (nat_lt to s.values) (nat_lt a s.values && (nat_lt b s.values && (nat_lt 0 call && nat_lt call 6))) e in
        let u = both (nat_lt a s.values) (nat_lt b s.values && (nat_lt 0 call && nat_lt call 6)) t.1 in
        let v = both (nat_lt b s.values) (nat_lt 0 call && nat_lt call 6) u.1 in
        let w = both (nat_lt 0 call) (nat_lt call 6) v.1 in
        let l = ltb-true call 6 w.1 in
        (small to t.0, small a u.0, small b v.0, omega (arith, l))

    pub step_sound : (x : FStep) (back : ℕ) (known : Option ℕ) (exits : List ℕ) → fits s (length exits) x ≡ true → StepHasWords x → back < total → AreBelow total exits → AreSound total (step_parts g back known exits x)
    step_sound (FStep.Number to value) back known exits e w lt below = plain total (number_fits to value (small to e) w)
    step_sound (FStep.Same to from) back known exits e w lt below = let r = two to from e in plain total (same_fits known to from r.0 r.1)
    step_sound (FStep.Arith to f left right) back known exits e w lt below = let r = three to left right e in plain total (arith_fits known to f left right r.0 r.1 r.2)
    step_sound (FStep.If cond first second) back known exits e w lt below = no_parts total
    step_sound (FStep.Block body) back known exits e w lt below = no_parts total
    step_sound (FStep.Loop body) back known exits e w lt below = no_parts total
    step_sound (FStep.Inner body) back known exits e w lt below = no_parts total
    step_sound (FStep.Exit n) back known exits e w lt below =
        let t = both (nat_lt 0 n) (nat_le n (length exits)) e in
        let some = ltb-true 0 n t.0 in
        let most_out = leb-true n (length exits) t.1 in
        let in_list : n - 1 < length exits = omega (arith, some, most_out) in
        jump_to total 0 (label_out exits n) (lit< tt) (below_at total exits (n - 1) below.each in_list)
    step_sound (FStep.Call to function args) back known exits e w lt below =
        let r = called to function args _ e in
        joined total (joined total (plain total (call_arguments_fit args 18 r.1)) (jump_to total 1 function (lit< tt) r.2)) (plain total (stored 9 to (lit< tt) r.0))
    step_sound (FStep.Return from) back known exits e w lt below = joined total (plain total (loaded 9 from (lit< tt) (small from e))) (jump_to total 0 back (lit< tt) lt)
    step_sound (FStep.Slot to from) back known exits e w lt below = let r = two to from e in plain total (slot_fits g known to from most r.0 r.1)
    step_sound (FStep.Look to slot) back known exits e w lt below = let r = two to slot e in plain total (looked_fits known to slot r.0 r.1)
    step_sound (FStep.FrameAt to offset) back known exits e w lt below =
        let t = both (nat_lt to s.values) (nat_lt offset s.frame) e in plain total (frame_fits to offset (small to t.0) w)
    step_sound (FStep.Load to at width) back known exits e w lt below = let r = two to at e in plain total (loading_fits known to at width r.0 r.1)
    step_sound (FStep.Store at from width) back known exits e w lt below = let r = two at from e in plain total (storing_fits known at from width r.0 r.1)
    step_sound (FStep.Checked from to) back known exits e w lt below = let r = two from to e in plain total (checked_fits known from to r.0 r.1)
    step_sound (FStep.LineMark line) back known exits e w lt below = plain total (one_fits _ (line_fits line))
    step_sound (FStep.Report kind line) back known exits e w lt below = plain total (report_fits kind line (small line e))
    step_sound (FStep.Env to call a b) back known exits e w lt below = let r = asked to call a b e in plain total (environment_fits to call a b r.0 r.3 r.1 r.2)
