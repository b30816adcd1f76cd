-- Words that parts are resolved to run as the parts do.
use Rattle.std.proofs.Common.{◌≡◌, ℕ, suc, ◌+◌, ◌*◌, ◌<◌, ◌≤◌, Bool, true, false, cond, List, [], ◌∷◌, ◌++◌, length, refl, sym, ap, subst, inl, inr, ◌∙◌, length-append, arith}
use Rattle.std.proofs.lemmas.List.{length-map}
use Rattle.rv_code.specs.Code.{Fits, word_of}
use Rattle.rv_code.specs.declared.instr.Instr.{Instr}
use Rattle.rv_code.specs.declared.instr.Instr.TheVariants.{Jal}
use Rattle.size_table.specs.Memory.{Stand}
use Rattle.rv_machine.specs.State.{register_of}
use Rattle.rv_machine.specs.Environment.{World}
use Rattle.rv_machine_laws.specs.Laws.{InstructionDone}
use Rattle.rv_asm.specs.declared.parts.BranchOp.{BranchOp}
use Rattle.rv_asm.specs.declared.parts.Part.{Part}
use Rattle.rv_asm.specs.declared.parts.Part.TheVariants.{Plain, Label, Branch, Jump}
use Rattle.rv_asm.specs.Parts.{times_in}
use Rattle.rv_asm.specs.Text.{in_reach, branch_of, inverse, distance, skip_over, long_jump, jump_code, branch_code, code_of, words_of, goal_of, place_after, text_of}
use Rattle.rv_asm.specs.Runs.{IsAt, Branches, is_taken, PartAt, PartsAt}
use Rattle.rv_asm.specs.Resolving.{IsPlace}
use Rattle.rv_asm.proofs.Machine.{Has, is_done}
use Rattle.rv_asm.proofs.Jumps.{jump_takes}
use Rattle.rv_asm.proofs.Branches.{short_branches, over_branches}

-- ---- Parts at their places

-- the part can be encoded, and goes to a place of the text; a label that stands once has its place
unfoldable pub IsSettled : List Part → (ℕ → ℕ) → ℕ → Part → Type 0
IsSettled all labels at (Plain i) = Fits i
IsSettled all labels at (Label l) = times_in l all ≡ 1 → labels l ≡ at
IsSettled all labels at (Branch op rs1 rs2 l) = (rs1 < 32) × (rs2 < 32) × IsPlace (labels l)
IsSettled all labels at (Jump rd l) = (rd < 32) × IsPlace (labels l)

unfoldable pub AreSettled : List Part → (ℕ → ℕ) → ℕ → List Part → Type 0
AreSettled all labels at [] = Unit {0}
AreSettled all labels at (part ∷ parts) = IsSettled all labels at part × AreSettled all labels (place_after labels at part) parts

stand_both : (memory : List ℕ) (at : ℕ) (xs ys : List ℕ) → Stand memory at (xs ++ ys) → Stand memory at xs × Stand memory (at + 4 * length xs) ys
stand_both memory at [] ys h = (tt, subst (λ (n : ℕ). Stand memory n ys) (omega arith) h)
stand_both memory at (x ∷ xs) ys h =
    let rest = stand_both memory (at + 4) xs ys h.1 in
    ((h.0, rest.0), subst (λ (n : ℕ). Stand memory n ys) (omega arith) rest.1)

-- ---- Branches and jumps have at least one word

one_of : (test : Bool) (xs ys : List Instr) → 1 ≤ length xs → 1 ≤ length ys → 1 ≤ length (cond test xs ys)
one_of true xs ys x y = x
one_of false xs ys x y = y

jump_some : (rd at to : ℕ) → 1 ≤ length (jump_code rd at to)
jump_some rd at to = one_of (in_reach 1048576 at to) (Jal rd (distance at to) ∷ []) (long_jump rd at to) (omega arith) (omega arith)

branch_some : (op : BranchOp) (rs1 rs2 at to : ℕ) → 1 ≤ length (branch_code op rs1 rs2 at to)
branch_some op rs1 rs2 at to =
    one_of (in_reach 4096 at to) (branch_of op rs1 rs2 (distance at to) ∷ []) (branch_of (inverse op) rs1 rs2 (skip_over at to) ∷ jump_code 0 (at + 4) to) (omega arith) (omega arith)

module _ (done : InstructionDone) (text : List ℕ) (all : List Part) (labels : ℕ → ℕ) where
  branch_stands : (op : BranchOp) (rs1 rs2 at to behind : ℕ) (w : World) → IsPlace at → IsPlace to → rs1 < 32 → rs2 < 32 → behind ≡ at + 4 * length (branch_code op rs1 rs2 at to) → behind ≤ 2097152 → Has text at (branch_code op rs1 rs2 at to) → IsAt text at w →
      (near far : Bool) → in_reach 4096 at to ≡ near → in_reach 1048576 (at + 4) to ≡ far → Branches (is_taken op (register_of w.machine.core rs1) (register_of w.machine.core rs2)) w to behind
  branch_stands op rs1 rs2 at to behind w a t r s b high has is true far e f =
      let code : branch_code op rs1 rs2 at to ≡ branch_of op rs1 rs2 (distance at to) ∷ [] = rw e refl in
      let end : behind ≡ at + 4 = b ∙ ap (λ (is : List Instr). at + 4 * length is) code in
      rw end (short_branches done text op rs1 rs2 at to w a (omega (arith, end, high)) t r s e (subst (Has text at) code has) is (is_taken op (register_of w.machine.core rs1) (register_of w.machine.core rs2)) refl)
  branch_stands op rs1 rs2 at to behind w a t r s b high has is false true e f =
      let code : branch_code op rs1 rs2 at to ≡ branch_of (inverse op) rs1 rs2 8 ∷ jump_code 0 (at + 4) to = rw (e, f) refl in
      let jump : length (jump_code 0 (at + 4) to) ≡ 1 = rw f refl in
      let end : behind ≡ at + 4 * suc (length (jump_code 0 (at + 4) to)) = b ∙ ap (λ (is : List Instr). at + 4 * length is) code in
      over_branches done text op rs1 rs2 8 at to behind w a t r s (inl refl) (omega (arith, end, jump)) (omega (arith, end)) high (subst (Has text at) code has) is (is_taken op (register_of w.machine.core rs1) (register_of w.machine.core rs2)) refl
  branch_stands op rs1 rs2 at to behind w a t r s b high has is false false e f =
      let code : branch_code op rs1 rs2 at to ≡ branch_of (inverse op) rs1 rs2 12 ∷ jump_code 0 (at + 4) to = rw (e, f) refl in
      let jump : length (jump_code 0 (at + 4) to) ≡ 2 = rw f refl in
      let end : behind ≡ at + 4 * suc (length (jump_code 0 (at + 4) to)) = b ∙ ap (λ (is : List Instr). at + 4 * length is) code in
      over_branches done text op rs1 rs2 12 at to behind w a t r s (inr refl) (omega (arith, end, jump)) (omega (arith, end)) high (subst (Has text at) code has) is (is_taken op (register_of w.machine.core rs1) (register_of w.machine.core rs2)) refl

  part_stands : (part : Part) (at behind : ℕ) → IsSettled all labels at part → IsPlace at → behind ≡ place_after labels at part → behind ≤ 2097152 → Has text at (code_of part at (goal_of labels part)) → PartAt text all labels at part behind
  unfolding IsSettled
  part_stands (Plain i) at behind s a b high has = (is_done done text at i [] has s a.low (omega (arith, b, high)), b)
  part_stands (Label l) at behind s a b high has = (s, omega (arith, b))
  part_stands (Branch op rs1 rs2 l) at behind s a b high has = (
    λ w is. branch_stands op rs1 rs2 at (labels l) behind w a s.2 s.0 s.1 b high has is (in_reach 4096 at (labels l)) (in_reach 1048576 (at + 4) (labels l)) refl refl,
    record { words = length (branch_code op rs1 rs2 at (labels l)); some = branch_some op rs1 rs2 at (labels l); is = b },
  )
  part_stands (Jump rd l) at behind s a b high has = (
    λ w is. jump_takes done text rd at (labels l) behind w a s.1 b high s.0 has is,
    record { words = length (jump_code rd at (labels l)); some = jump_some rd at (labels l); is = b },
  )

  -- parts stand one after another
  pub parts_stand : (parts : List Part) (at behind : ℕ) → AreSettled all labels at parts → IsPlace at → behind ≡ at + 4 * length (text_of labels at parts) → behind ≤ 2097152 → ((memory : List ℕ) → Stand memory 4096 text → Stand memory at (text_of labels at parts)) → PartsAt text all labels at parts behind
  unfolding AreSettled Has
  parts_stand [] at behind s a b high stands = omega (arith, b)
  parts_stand (part ∷ parts) at behind s a b high stands =
      let code = code_of part at (goal_of labels part) in
      let words = words_of part at (goal_of labels part) in
      let next = place_after labels at part in
      let rest = text_of labels next parts in
      let long : length words ≡ length code = length-map code word_of in
      let whole : length (words ++ rest) ≡ length words + length rest = length-append words rest in
      let end : behind ≡ next + 4 * length rest = omega (arith, b, whole, long) in
      let next_is : next ≡ at + 4 * length words = omega (arith, long) in (
        next,
        part_stands part at next s.0 a refl (omega (arith, end, high)) (λ memory h. (stand_both memory at words rest (stands memory h)).0),
        parts_stand parts next behind s.1 (record { low = omega (arith, a.low, next_is); high = omega (arith, end, high); aligned = omega (arith, a.aligned, next_is) }) end high
            (λ memory h. subst (λ (n : ℕ). Stand memory n rest) (sym next_is) (stand_both memory at words rest (stands memory h)).1),
      )
