-- Places that stay are those of the resolved text.
use Rattle.std.proofs.Common.{◌≡◌, ℕ, zero, suc, ◌+◌, ◌*◌, ◌%◌, ◌<◌, ◌≤◌, List, [], ◌∷◌, ◌++◌, length, map, drop, get_or, append_assoc, refl, sym, ap, subst, ◌∙◌, add-zero, arith}
use Rattle.std.specs.Prelude.{All}
use Rattle.std.proofs.lemmas.List.{length-append, length-map, drop_more}
use Rattle.std.proofs.lemmas.List.Elements.{All-get_or}
use Rattle.rv_code.specs.Code.{word_of}
use Rattle.rv_code.specs.declared.instr.Instr.TheVariants.{Lui}
use Rattle.size_table.specs.Memory.{Stand}
use Rattle.rv_machine.specs.Formed.{IsWord}
use Rattle.rv_machine_laws.specs.Laws.{InstructionDone}
use Rattle.rv_asm.specs.declared.parts.Part.{Part}
use Rattle.rv_asm.specs.declared.parts.Part.TheVariants.{Plain, Label, Branch, Jump}
use Rattle.rv_asm.specs.Parts.{FitsPart, GoesOnce, AreParts}
use Rattle.rv_asm.specs.Text.{code_of, words_of, goal_of, place_after, text_of}
use Rattle.rv_asm.specs.Runs.{IsResolved}
use Rattle.rv_asm.specs.Resolving.{IsPlace, index_of, target_in, part_at, labels_by, AreNext}
use Rattle.rv_asm.proofs.Labelling.{index_once, index_within}
use Rattle.rv_asm.proofs.Growing.{Rise, next_rises}
use Rattle.rv_asm.proofs.Whole.{IsSettled, AreSettled, parts_stand}

-- ---- Places

code_same : (all : List Part) (places : List ℕ) (at : ℕ) (part : Part) → code_of part at (goal_of (labels_by all places) part) ≡ code_of part at (get_or places (target_in all part) 0)
code_same all places at (Plain i) = refl
code_same all places at (Label l) = refl
code_same all places at (Branch op rs1 rs2 l) = refl
code_same all places at (Jump rd l) = refl

module _ (all : List Part) (places : List ℕ) (ok : AreParts all) (fixed : AreNext all places places) where
  aligned : (k : ℕ) → k ≤ length all → get_or places k 0 % 4 ≡ 0
  aligned zero high = omega (arith, fixed.first)
  aligned (suc k) high =
      let last : suc k ≡ k + 1 = omega arith in
      omega (arith, ap (λ (m : ℕ). get_or places m 0) last, fixed.each k (omega (arith, high)), aligned k (omega (arith, high)))

  pub place_is : (k : ℕ) → k ≤ length all → IsPlace (get_or places k 0)
  unfolding Rise
  place_is k high = record {
    low = omega (arith, fixed.first, next_rises all places places fixed 0 k (omega arith) high);
    high = omega (arith, fixed.last, ok.size, next_rises all places places fixed k (length all) high (omega arith));
    aligned = aligned k high;
  }

  part_settled : (k : ℕ) (part : Part) → k < length all → part_at all k ≡ part → FitsPart part → GoesOnce all part → IsSettled all (labels_by all places) (get_or places k 0) part
  unfolding IsSettled
  part_settled k (Plain i) low is fits once = fits
  part_settled k (Label l) low is fits once = λ once. ap (λ (m : ℕ). get_or places m 0) (index_once l all k low is once)
  part_settled k (Branch op rs1 rs2 l) low is fits once = (fits.0, fits.1, place_is (index_of l all) (omega (arith, index_within l all (omega (arith, once)))))
  part_settled k (Jump rd l) low is fits once = (fits, place_is (index_of l all) (omega (arith, index_within l all (omega (arith, once)))))

  place_next : (k : ℕ) (part : Part) → k < length all → part_at all k ≡ part → place_after (labels_by all places) (get_or places k 0) part ≡ get_or places (k + 1) 0
  place_next k part low is =
      ap (λ (n : ℕ). get_or places k 0 + 4 * n) (ap length (code_same all places (get_or places k 0) part))
      ∙ ap (λ (p : Part). get_or places k 0 + 4 * length (code_of p (get_or places k 0) (get_or places (target_in all p) 0))) (sym is)
      ∙ sym (fixed.each k low)

  all_settled : (parts : List Part) (k : ℕ) → k + length parts ≡ length all → ((j : ℕ) → j < length parts → part_at all (k + j) ≡ part_at parts j) →
      AreSettled all (labels_by all places) (get_or places k 0) parts × (get_or places k 0 + 4 * length (text_of (labels_by all places) (get_or places k 0) parts) ≡ get_or places (length all) 0)
  unfolding AreSettled
  all_settled [] k n same =
      let end : k ≡ length all = omega (arith, n) in
      (tt, omega (arith, ap (λ (m : ℕ). get_or places m 0) end))
  all_settled (part ∷ parts) k n same =
      let labels = labels_by all places in
      let at = get_or places k 0 in
      let low : k < length all = omega (arith, n) in
      let is : part_at all k ≡ part = ap (part_at all) (sym (add-zero k)) ∙ same 0 (omega arith) in
      let this = part_settled k part low is (subst FitsPart is (All-get_or FitsPart all k (Plain (Lui 0 0)) low ok.fits)) (subst (GoesOnce all) is (All-get_or (GoesOnce all) all k (Plain (Lui 0 0)) low ok.once)) in
      let next = place_next k part low is in
      let rest = all_settled parts (k + 1) (omega (arith, n)) (λ j h. ap (part_at all) (omega arith) ∙ same (suc j) (omega (arith, h))) in
      let settled = subst (λ (m : ℕ). AreSettled all labels m parts) (sym next) rest.0 in
      let size = subst (λ (m : ℕ). m + 4 * length (text_of labels m parts) ≡ get_or places (length all) 0) (sym next) rest.1 in
      let words = words_of part at (goal_of labels part) in
      ((this, settled), omega (arith, size, length-append words (text_of labels (place_after labels at part) parts), length-map (code_of part at (goal_of labels part)) word_of))

  -- the words of one part more
  pub emit_more : (k : ℕ) → k < length all → (targets : List ℕ) → get_or targets k 0 ≡ target_in all (part_at all k) → (old new whole : List ℕ) → new ≡ old ++ words_of (part_at all k) (get_or places k 0) (get_or places (get_or targets k 0) 0) → old ++ text_of (labels_by all places) (get_or places k 0) (drop k all) ≡ whole →
      new ++ text_of (labels_by all places) (get_or places (k + 1) 0) (drop (k + 1) all) ≡ whole
  emit_more k low targets target old new whole is before =
      let labels = labels_by all places in
      let at = get_or places k 0 in
      let part = part_at all k in
      let rest = text_of labels (get_or places (k + 1) 0) (drop (k + 1) all) in
      let same : words_of part at (get_or places (get_or targets k 0) 0) ≡ words_of part at (goal_of labels part) =
      ap (λ (t : ℕ). words_of part at (get_or places t 0)) target ∙ sym (ap (map word_of) (code_same all places at part)) in
      let more : text_of labels at (drop k all) ≡ words_of part at (goal_of labels part) ++ rest =
      ap (text_of labels at) (drop_more all k (Plain (Lui 0 0)) low) ∙ ap (λ (m : ℕ). words_of part at (goal_of labels part) ++ text_of labels m (drop (k + 1) all)) (place_next k part low refl) in
      ap (λ (xs : List ℕ). xs ++ rest) (is ∙ ap (λ (ws : List ℕ). old ++ ws) same)
      ∙ append_assoc old (words_of part at (goal_of labels part)) rest
      ∙ ap (λ (xs : List ℕ). old ++ xs) (sym more)
      ∙ before

  -- the text of these places is resolved
  pub resolved : InstructionDone → (text : List ℕ) → text ≡ text_of (labels_by all places) 4096 all → All IsWord text → IsResolved all text
  resolved done text is words =
      let labels = labels_by all places in
      let whole = all_settled all 0 (omega arith) (λ j h. ap (part_at all) (omega arith)) in
      let settled : AreSettled all labels 4096 all = subst (λ (m : ℕ). AreSettled all labels m all) fixed.first whole.0 in
      let size : 4096 + 4 * length (text_of labels 4096 all) ≡ get_or places (length all) 0 = subst (λ (m : ℕ). m + 4 * length (text_of labels m all) ≡ get_or places (length all) 0) fixed.first whole.1 in
      let long : length text ≡ length (text_of labels 4096 all) = ap length is in
      record {
        labels = labels;
        words = is;
        runs = parts_stand done text all labels all 4096 (4096 + 4 * length text) settled (record { low = omega arith; high = omega arith; aligned = refl }) (omega (arith, long)) (omega (arith, long, size, fixed.last, ok.size)) (λ memory h. subst (Stand memory 4096) is h);
        size = omega (arith, long, size, fixed.last);
        each = words;
      }
