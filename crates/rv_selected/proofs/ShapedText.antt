-- The words that shaped parts are resolved to have the shape.
use Rattle.std.proofs.Common.{◌≡◌, ◌==◌, ℕ, zero, suc, ◌+◌, ◌*◌, ◌%◌, ◌^◌, ◌<◌, ◌≤◌, Bool, true, false, if◌then◌else◌, List, [], ◌∷◌, ◌++◌, length, map, refl, sym, ap, ◌∙◌, subst, arith, lit<, lit≤, ltb-true, eqb-true, length-append}
use Rattle.std.specs.Prelude.{nat_lt, Some}
use Rattle.std.specs.List.{AllByRecursion}
use Rattle.std.proofs.lemmas.Bool.{true≢false}
use Rattle.std.proofs.lemmas.Bool.Decides.{nat_tests}
use Rattle.std.proofs.lemmas.List.{length-map}
use Rattle.std.proofs.lemmas.List.Elements.{All-from_recursion, recursion_from_All}
use Rattle.rv_code.specs.Bits.{IsSigned}
use Rattle.rv_code.specs.Code.{Fits, word_of, instruction_of}
use Rattle.rv_code.specs.Laws.{ReadsBack}
use Rattle.rv_code.specs.declared.instr.Instr.{Instr}
use Rattle.rv_code.specs.declared.instr.Instr.TheVariants.{Auipc, Jal, Jalr}
use Rattle.rv_asm.specs.declared.parts.BranchOp.{BranchOp}
use Rattle.rv_asm.specs.declared.parts.BranchOp.TheVariants as op
use Rattle.rv_asm.specs.declared.parts.Part.{Part}
use Rattle.rv_asm.specs.declared.parts.Part.TheVariants.{Plain, Label, Branch, Jump}
use Rattle.rv_asm.specs.Parts.{times_in, FitsPart, GoesOnce}
use Rattle.rv_asm.specs.Text.{in_reach, distance, branch_of, inverse, upper_part, lower_part, jump_code, skip_over, branch_code, code_of, goal_of, place_after, text_of}
use Rattle.rv_asm.specs.Runs.{PartsAt}
use Rattle.rv_selected.specs.Shape.{none_spare, leaves_spare, is_regular, is_shaped, IsWordOf}
use Rattle.rv_selected.specs.Laws.{TextsHaveShape}
use Rattle.rv_selected.proofs.Encodable.{both, lower_fits}

-- ---- Where labels stand

-- so many words behind a place, and not behind another
record IsWithin (at behind n : ℕ) : Type 0 where
  words : ℕ
  is : n ≡ at + 4 * words
  high : n ≤ behind

module _ (text : List ℕ) (all : List Part) (labels : ℕ → ℕ) where
  ends_behind : (parts : List Part) (at behind : ℕ) → PartsAt text all labels at parts behind → at ≤ behind
  ends_behind [] at behind h = omega (arith, h)
  ends_behind (Plain i ∷ parts) at behind h = omega (arith, ends_behind parts h.0 behind h.2, h.1.1)
  ends_behind (Label l ∷ parts) at behind h = omega (arith, ends_behind parts h.0 behind h.2, h.1.1)
  ends_behind (Branch op rs1 rs2 l ∷ parts) at behind h = omega (arith, ends_behind parts h.0 behind h.2, h.1.1.is)
  ends_behind (Jump rd l ∷ parts) at behind h = omega (arith, ends_behind parts h.0 behind h.2, h.1.1.is)

  later : (at next behind n words : ℕ) → next ≡ at + 4 * words → IsWithin next behind n → IsWithin at behind n
  later at next behind n words e w = record { words = words + w.words; is = omega (arith, e, w.is); high = w.high }

  label_within : (l : ℕ) → times_in l all ≡ 1 → (parts : List Part) (at behind : ℕ) → PartsAt text all labels at parts behind → 1 ≤ times_in l parts → IsWithin at behind (labels l)
  label_within l once [] at behind h some = absurd (omega (arith, some))
  label_within l once (Plain i ∷ parts) at behind h some = later at h.0 behind (labels l) 1 (omega (arith, h.1.1)) (label_within l once parts h.0 behind h.2 (omega (arith, some)))
  label_within l once (Label n ∷ parts) at behind h some = by (n == l) refl some (λ more. label_within l once parts h.0 behind h.2 more)
    where
      by : (b : Bool) → (n == l) ≡ b → 1 ≤ (if b then 1 else 0) + times_in l parts → (1 ≤ times_in l parts → IsWithin h.0 behind (labels l)) → IsWithin at behind (labels l)
      by true e s rest =
          let same : n ≡ l = eqb-true n l e in
          let here : labels l ≡ at = subst (λ x. times_in x all ≡ 1 → labels x ≡ at) same h.1.0 once in
          record { words = 0; is = omega (arith, here); high = omega (arith, here, ends_behind parts h.0 behind h.2, h.1.1) }
      by false e s rest = later at h.0 behind (labels l) 0 (omega (arith, h.1.1)) (rest (omega (arith, s)))
  label_within l once (Branch op rs1 rs2 to ∷ parts) at behind h some =
      later at h.0 behind (labels l) h.1.1.words h.1.1.is (label_within l once parts h.0 behind h.2 (omega (arith, some)))
  label_within l once (Jump rd to ∷ parts) at behind h some =
      later at h.0 behind (labels l) h.1.1.words h.1.1.is (label_within l once parts h.0 behind h.2 (omega (arith, some)))

-- ---- Instructions of branches and jumps

distance_signed : (half at to : ℕ) → at ≤ 2097156 → to ≤ 2097152 → half < 2 ^ 30 → in_reach half at to ≡ true → (distance at to < 2 ^ 32) × ((distance at to + half) % 2 ^ 32 < 2 * half)
distance_signed half at to a t h r = grind (arith, nat_tests)

distance_even : (at to : ℕ) → at ≤ 2097156 → at % 4 ≡ 0 → to % 4 ≡ 0 → distance at to % 2 ≡ 0
distance_even at to high a t = omega (arith, high, a, t)

branch_fits : (o : BranchOp) (rs1 rs2 imm : ℕ) → IsSigned 13 imm → imm % 2 ≡ 0 → rs1 < 32 → rs2 < 32 → Fits (branch_of o rs1 rs2 imm)
branch_fits op.Beq rs1 rs2 imm a e r s = (a, e, s, r)
branch_fits op.Bne rs1 rs2 imm a e r s = (a, e, s, r)
branch_fits op.Blt rs1 rs2 imm a e r s = (a, e, s, r)
branch_fits op.Bge rs1 rs2 imm a e r s = (a, e, s, r)
branch_fits op.Bltu rs1 rs2 imm a e r s = (a, e, s, r)
branch_fits op.Bgeu rs1 rs2 imm a e r s = (a, e, s, r)

branch_shaped : (o : BranchOp) (rs1 rs2 imm : ℕ) → none_spare (rs1 ∷ rs2 ∷ []) ≡ true → (leaves_spare (branch_of o rs1 rs2 imm) ≡ true) × (is_regular (branch_of o rs1 rs2 imm) ≡ true)
branch_shaped op.Beq rs1 rs2 imm h = (h, refl)
branch_shaped op.Bne rs1 rs2 imm h = (h, refl)
branch_shaped op.Blt rs1 rs2 imm h = (h, refl)
branch_shaped op.Bge rs1 rs2 imm h = (h, refl)
branch_shaped op.Bltu rs1 rs2 imm h = (h, refl)
branch_shaped op.Bgeu rs1 rs2 imm h = (h, refl)

-- A jump links in x0 or x1, neither of which is spare.
links_free : (rd : ℕ) → nat_lt rd 2 ≡ true → (none_spare (rd ∷ []) ≡ true) × (none_spare (rd ∷ 5 ∷ []) ≡ true) × (rd < 32)
links_free zero h = (refl, refl, lit< tt)
links_free (suc zero) h = (refl, refl, lit< tt)
links_free (suc (suc n)) h = absurd (let l = ltb-true (suc (suc n)) 2 h in omega (arith, l))

-- ---- Words

module _ (back : ReadsBack) (size : ℕ) (room : size ≤ 2093056) where
  -- The fields of an instruction fit; it leaves the spare registers alone, and is regular where the text is short.
  record IsGood (i : Instr) : Type 0 where
    fits : Fits i
    spare : leaves_spare i ≡ true
    regular : size ≤ 1000000 → is_regular i ≡ true

  record IsGoodWord (word : ℕ) : Type 0 where
    instr : Instr
    is : instruction_of word ≡ Some instr
    spare : leaves_spare instr ≡ true
    regular : size ≤ 1000000 → is_regular instr ≡ true

  good_words : (code : List Instr) → AllByRecursion IsGood code → AllByRecursion IsGoodWord (map word_of code)
  good_words [] h = tt
  good_words (i ∷ code) h = (record { instr = i; is = back i h.0.fits; spare = h.0.spare; regular = h.0.regular }, good_words code h.1)

  good_append : (a b : List ℕ) → AllByRecursion IsGoodWord a → AllByRecursion IsGoodWord b → AllByRecursion IsGoodWord (a ++ b)
  good_append [] b x y = y
  good_append (w ∷ a) b x y = (x.0, good_append a b x.1 y)

  -- a place of the text or its end
  abbrev IsHere : ℕ → Type 0
  IsHere n = (4096 ≤ n) × (n ≤ 4096 + size) × (n % 4 ≡ 0)

  near : (at to : ℕ) → 4096 ≤ at → at ≤ 4100 + size → 4096 ≤ to → to ≤ 4096 + size → size ≤ 1000000 → in_reach 1048576 at to ≡ true
  near at to a b c d few = grind (arith, nat_tests)

  jump_good : (rd at to : ℕ) → nat_lt rd 2 ≡ true → 4096 ≤ at → at ≤ 4100 + size → at % 4 ≡ 0 → IsHere to → AllByRecursion IsGood (jump_code rd at to)
  jump_good rd at to link low high aligned t = by (in_reach 1048576 at to) refl
    where
      by : (b : Bool) → in_reach 1048576 at to ≡ b → AllByRecursion IsGood (if b then Jal rd (distance at to) ∷ [] else Auipc 5 (upper_part (distance at to)) ∷ Jalr rd 5 (lower_part (distance at to)) ∷ [])
      by true e =
          let free = links_free rd link in
          let signed = distance_signed 1048576 at to (omega (arith, high, room)) (omega (arith, t.1, room)) (lit< tt) e in
          (record { fits = (signed, distance_even at to (omega (arith, high, room)) aligned t.2, free.2); spare = free.0; regular = λ few. link }, tt)
      by false e =
          let free = links_free rd link in (
            record { fits = (omega arith, omega arith, lit< tt); spare = refl; regular = λ few. refl },
            (record { fits = (lower_fits (distance at to), lit< tt, free.2); spare = free.1; regular = λ few. absurd (true≢false (sym (near at to low high t.0 t.1 few) ∙ e)) }, tt),
          )

  skips : (at to : ℕ) → (IsSigned 13 (skip_over at to)) × (skip_over at to % 2 ≡ 0)
  skips at to = by (in_reach 1048576 (at + 4) to)
    where
      by : (b : Bool) → (IsSigned 13 (if b then 8 else 12)) × ((if b then 8 else 12) % 2 ≡ 0)
      by true = ((lit< tt, lit< tt), refl)
      by false = ((lit< tt, lit< tt), refl)

  branch_good : (o : BranchOp) (rs1 rs2 at to : ℕ) → none_spare (rs1 ∷ rs2 ∷ []) ≡ true → rs1 < 32 → rs2 < 32 → IsHere at → IsHere to → AllByRecursion IsGood (branch_code o rs1 rs2 at to)
  branch_good o rs1 rs2 at to free r s a t = by (in_reach 4096 at to) refl
    where
      by : (b : Bool) → in_reach 4096 at to ≡ b → AllByRecursion IsGood (if b then branch_of o rs1 rs2 (distance at to) ∷ [] else branch_of (inverse o) rs1 rs2 (skip_over at to) ∷ jump_code 0 (at + 4) to)
      by true e =
          let signed = distance_signed 4096 at to (omega (arith, a.1, room)) (omega (arith, t.1, room)) (lit< tt) e in
          let even = distance_even at to (omega (arith, a.1, room)) a.2 t.2 in
          let shape = branch_shaped o rs1 rs2 (distance at to) free in
          (record { fits = branch_fits o rs1 rs2 (distance at to) signed even r s; spare = shape.0; regular = λ few. shape.1 }, tt)
      by false e =
          let skip = skips at to in
          let shape = branch_shaped (inverse o) rs1 rs2 (skip_over at to) free in
          (record { fits = branch_fits (inverse o) rs1 rs2 (skip_over at to) skip.0 skip.1 r s; spare = shape.0; regular = λ few. shape.1 }, jump_good 0 (at + 4) to refl (omega (arith, a.0)) (omega (arith, a.1)) (omega (arith, a.2)) t)

  module _ (labels : ℕ → ℕ) (all : List Part) (here : (l : ℕ) → times_in l all ≡ 1 → IsHere (labels l)) where
    part_good : (part : Part) (at : ℕ) → FitsPart part → GoesOnce all part → is_shaped part ≡ true → IsHere at → AllByRecursion IsGood (code_of part at (goal_of labels part))
    part_good (Plain i) at f o h a = let t = both (leaves_spare i) (is_regular i) h in (record { fits = f; spare = t.0; regular = λ few. t.1 }, tt)
    part_good (Label l) at f o h a = tt
    part_good (Branch op rs1 rs2 l) at f o h a = branch_good op rs1 rs2 at (labels l) h f.0 f.1 a (here l o)
    part_good (Jump rd l) at f o h a = jump_good rd at (labels l) h a.0 (omega (arith, a.1)) a.2 (here l o)

    text_good : (parts : List Part) (at : ℕ) → AllByRecursion FitsPart parts → AllByRecursion (GoesOnce all) parts → AllByRecursion (λ part. is_shaped part ≡ true) parts → 4096 ≤ at → at % 4 ≡ 0
        → at + 4 * length (text_of labels at parts) ≤ 4096 + size → AllByRecursion IsGoodWord (text_of labels at parts)
    text_good [] at f o h low aligned high = tt
    text_good (part ∷ parts) at f o h low aligned high =
        let code = code_of part at (goal_of labels part) in
        let next = place_after labels at part in
        let words = map word_of code in
        let rest = text_of labels next parts in
        let long : length words ≡ length code = length-map code word_of in
        let whole : length (words ++ rest) ≡ length words + length rest = length-append words rest in
        good_append words rest (good_words code (part_good part at f.0 o.0 h.0 (low, omega (arith, high), aligned)))
        (text_good parts next f.1 o.1 h.1 (omega (arith, low)) (omega (arith, aligned)) (omega (arith, high, whole, long)))

  words_spare : (text : List ℕ) → AllByRecursion IsGoodWord text → AllByRecursion (IsWordOf leaves_spare) text
  words_spare [] h = tt
  words_spare (w ∷ text) h = (record { instr = h.0.instr; is = h.0.is; passes = h.0.spare }, words_spare text h.1)

  words_regular : size ≤ 1000000 → (text : List ℕ) → AllByRecursion IsGoodWord text → AllByRecursion (IsWordOf is_regular) text
  words_regular few [] h = tt
  words_regular few (w ∷ text) h = (record { instr = h.0.instr; is = h.0.is; passes = h.0.regular few }, words_regular few text h.1)

pub text_shaped : ReadsBack → TextsHaveShape
text_shaped back parts text are shape r =
    let size = 4 * length text in
    let room : size ≤ 2093056 = omega (arith, r.size, are.size) in
    let within : (l : ℕ) → times_in l parts ≡ 1 → IsWithin 4096 (4096 + size) (r.labels l) = λ l once. label_within text parts r.labels l once parts 4096 (4096 + size) r.runs (omega (arith, once)) in
    let long : length text ≡ length (text_of r.labels 4096 parts) = ap length r.words in
    let good = text_good back size room r.labels parts
    (λ l once. (omega (arith, (within l once).is), (within l once).high, omega (arith, (within l once).is)))
    parts 4096 (recursion_from_All FitsPart parts are.fits) (recursion_from_All (GoesOnce parts) parts are.once) (recursion_from_All (λ part. is_shaped part ≡ true) parts shape) (lit≤ tt) refl (omega (arith, long)) in
    let words = subst (AllByRecursion (IsGoodWord back size room)) (sym r.words) good in
    record {
      spare = All-from_recursion (IsWordOf leaves_spare) text (words_spare back size room text words);
      regular = λ few. All-from_recursion (IsWordOf is_regular) text (words_regular back size room few text words);
    }
