-- Lists of parts that are put together, and steps that are taken one after another.
use Rattle.std.proofs.Common.{◌≡◌, ℕ, zero, suc, ◌+◌, ◌-◌, ◌<◌, ◌≤◌, List, [], ◌∷◌, ◌++◌, length, length-drop, get_or, take, drop, map, Option, Some, None, refl, sym, ap, ◌∙◌, arith, append_assoc}
use Rattle.std.proofs.lemmas.List.{at_drop_more, drop_all, take_all, map-append, append-nil}
use Rattle.flat_code.specs.declared.code.FlatFunction.{FlatFunction}
use Rattle.flat_code.specs.declared.code.FlatStep.{FlatStep}
use Rattle.flat_code.specs.Code.{FStep, FSteps}
use Rattle.flat_code.specs.CodeViews.{step_of, steps_of, function_of}
use Rattle.flat_code.specs.Recognized.{Sequence, sequence_at, further}
use Rattle.flat_discipline.specs.Items.{Items, item_or, item_of, items_from}
use Rattle.rv_asm.specs.declared.parts.Part.{Part}
use Rattle.rv_asm.specs.declared.parts.Part.TheVariants.{Plain, Label, Branch, Jump}
use Rattle.rv_code.specs.declared.instr.Instr.{Instr}
use Rattle.rv_code.specs.declared.instr.Instr.TheVariants.{Lbu}
use Rattle.rv_asm.specs.declared.parts.BranchOp.TheVariants as branch
use Rattle.bb_words.specs.declared.kinds.ReportKind.TheVariants.{Bounds}
use Rattle.std.proofs.Math.Dec.{eqb-suc-zero}
use Rattle.std.specs.Prelude.{nat_eq, Bool}
use Rattle.rv_selected.specs.Registers.{store}
use Rattle.rv_selected.specs.Steps.{plains, fetch, held_after}
use Rattle.rv_selected.specs.Checks.{unless_parts, find_block, find_offset, widen, mark_code, move_end, move_parts, count_code, touch_code, last_distance, span_parts, sequence_parts, sequence_labels}
use Rattle.rv_selected.specs.Selection.{choice_parts, is_end, loop_parts, item_labels, items_labels, held_behind, item_parts, items_parts, zeros, parameters, functions_parts, function_parts, function_labels}

-- ---- Parts

pub more : (p0 p1 p2 a b : List Part) → p1 ≡ p0 ++ a → p2 ≡ p1 ++ b → p2 ≡ p0 ++ (a ++ b)
more p0 p1 p2 a b e f = f ∙ ap (λ p. p ++ b) e ∙ append_assoc p0 a b

pub more_code : (p0 p1 p2 : List Part) (a b : List Instr) → p1 ≡ p0 ++ plains a → p2 ≡ p1 ++ plains b → p2 ≡ p0 ++ plains (a ++ b)
more_code p0 p1 p2 a b e f = more p0 p1 p2 (plains a) (plains b) e f ∙ ap (λ p. p0 ++ p) (sym (map-append Plain a b))

pub ruleset emitted = (more, more_code, append_assoc, map-append)

-- ---- Items

-- where a sequence begins
pub checked_front : (g back : ℕ) (known : Option ℕ) (exits : List ℕ) (n : ℕ) (s : FStep) (rest : FSteps) (q : Sequence) → sequence_at g (FSteps.more s rest) ≡ Some q
    → items_parts g back known exits n (items_from g 0 (FSteps.more s rest)) ≡ sequence_parts g n q ++ items_parts g back None exits (n + sequence_labels q) (items_from g (further g (Some q)) rest)
checked_front g back known exits n s rest q e = ap (λ found. items_parts g back known exits n (Items.next (item_or found (item_of g s)) (items_from g (further g found) rest))) e

pub checked_labels : (g : ℕ) (s : FStep) (rest : FSteps) (q : Sequence) → sequence_at g (FSteps.more s rest) ≡ Some q
    → items_labels (items_from g 0 (FSteps.more s rest)) ≡ sequence_labels q + items_labels (items_from g (further g (Some q)) rest)
checked_labels g s rest q e = ap (λ found. items_labels (Items.next (item_or found (item_of g s)) (items_from g (further g found) rest))) e

-- where none begins
pub held_same : (g : ℕ) (known : Option ℕ) (s : FStep) → held_behind known (item_of g s) ≡ held_after known s
held_same g known (FStep.If c a b) = refl
held_same g known (FStep.Block a) = refl
held_same g known (FStep.Loop a) = refl
held_same g known (FStep.Inner a) = refl
held_same g known s = refl

pub plain_front : (g back : ℕ) (known : Option ℕ) (exits : List ℕ) (n : ℕ) (s : FStep) (rest : FSteps) → sequence_at g (FSteps.more s rest) ≡ None
    → items_parts g back known exits n (items_from g 0 (FSteps.more s rest)) ≡ item_parts g back known exits n (item_of g s) ++ items_parts g back (held_after known s) exits (n + item_labels (item_of g s)) (items_from g 0 rest)
plain_front g back known exits n s rest e =
    ap (λ found. items_parts g back known exits n (Items.next (item_or found (item_of g s)) (items_from g (further g found) rest))) e
    ∙ ap (λ k. item_parts g back known exits n (item_of g s) ++ items_parts g back k exits (n + item_labels (item_of g s)) (items_from g 0 rest)) (held_same g known s)

pub plain_labels : (g : ℕ) (s : FStep) (rest : FSteps) → sequence_at g (FSteps.more s rest) ≡ None
    → items_labels (items_from g 0 (FSteps.more s rest)) ≡ item_labels (item_of g s) + items_labels (items_from g 0 rest)
plain_labels g s rest e = ap (λ found. items_labels (Items.next (item_or found (item_of g s)) (items_from g (further g found) rest))) e

-- a step that belongs to the sequence before it
pub skipped : (g k : ℕ) (s : FStep) (rest : FSteps) → 0 < k → items_from g k (FSteps.more s rest) ≡ items_from g (k - 1) rest
skipped g zero s rest lt = absurd (let q : ⊥ = omega (arith, lt) in q)
skipped g (suc k) s rest lt = ap (λ n. items_from g n rest) (let e : k ≡ suc k - 1 = omega arith in e)

pub nothing_left : (g skip : ℕ) → items_from g skip FSteps.none ≡ Items.end
nothing_left g zero = refl
nothing_left g (suc skip) = refl

-- ---- Loops over slices

pub next_in : {X Y : Type 0} (G : List X → Y) (xs : List X) (i : ℕ) (x : X) → i < length xs → x ≡ get_or xs i x → G (drop i xs) ≡ G (x ∷ drop (i + 1) xs)
next_in G xs i x lt is = at_drop_more G xs i x lt ∙ ap (λ z. G (z ∷ drop (i + 1) xs)) (sym is)

pub end_in : {X Y : Type 0} (G : List X → Y) (xs : List X) (i : ℕ) → length xs ≤ i → G (drop i xs) ≡ G []
end_in G xs i le = ap G (drop_all i xs le)

-- ---- Words that are stored one after another

count_on : (count v : ℕ) → v < count → count - v ≡ suc (count - (v + 1))
count_on count v lt = omega (arith, lt)

pub zeros_in : (p0 p1 p : List Part) (count v : ℕ) (x : Instr) → v < count → x ≡ store 0 v → p1 ≡ p0 ++ (Plain x ∷ []) → p0 ++ plains (zeros (count - v) v) ≡ p → p1 ++ plains (zeros (count - (v + 1)) (v + 1)) ≡ p
zeros_in p0 p1 p count v x lt is e h =
    let rest = plains (zeros (count - (v + 1)) (v + 1)) in
    ap (λ q. q ++ rest) (e ∙ ap (λ i. p0 ++ (Plain i ∷ [])) is) ∙ append_assoc p0 (Plain (store 0 v) ∷ []) rest ∙ ap (λ n. p0 ++ plains (zeros n v)) (sym (count_on count v lt)) ∙ h

pub zeros_end : (p0 p : List Part) (count v : ℕ) → count ≤ v → p0 ++ plains (zeros (count - v) v) ≡ p → p0 ≡ p
zeros_end p0 p count v le h = sym (append-nil p0) ∙ ap (λ n. p0 ++ plains (zeros n v)) (let e : 0 ≡ count - v = omega (arith, le) in e) ∙ h

pub parameters_in : (p0 p1 p : List Part) (count v : ℕ) (x : Instr) → v < count → x ≡ store (18 + v) v → p1 ≡ p0 ++ (Plain x ∷ []) → p0 ++ plains (parameters (count - v) v) ≡ p → p1 ++ plains (parameters (count - (v + 1)) (v + 1)) ≡ p
parameters_in p0 p1 p count v x lt is e h =
    let rest = plains (parameters (count - (v + 1)) (v + 1)) in
    ap (λ q. q ++ rest) (e ∙ ap (λ i. p0 ++ (Plain i ∷ [])) is) ∙ append_assoc p0 (Plain (store (18 + v) v) ∷ []) rest ∙ ap (λ n. p0 ++ plains (parameters n v)) (sym (count_on count v lt)) ∙ h

pub parameters_end : (p0 p : List Part) (count v : ℕ) → count ≤ v → p0 ++ plains (parameters (count - v) v) ≡ p → p0 ≡ p
parameters_end p0 p count v le h = sym (append-nil p0) ∙ ap (λ n. p0 ++ plains (parameters n v)) (let e : 0 ≡ count - v = omega (arith, le) in e) ∙ h

-- ---- Sequences

pub move_made : (g n near end p q line : ℕ) (distance : List Instr) (p0 p1 p2 p3 p4 p5 p6 p7 p8 p9 : List Part) → near ≡ n + 1 → end ≡ near + 1
    → p1 ≡ p0 ++ plains (find_block g p) → p2 ≡ p1 ++ unless_parts branch.Bne 13 0 n Bounds line → p3 ≡ p2 ++ plains (find_offset g p distance)
    → p4 ≡ p3 ++ (Branch branch.Bltu 15 14 end ∷ []) → p5 ≡ p4 ++ plains (widen g) → p6 ≡ p5 ++ unless_parts branch.Bltu 15 14 near Bounds line
    → p7 ≡ p6 ++ plains mark_code → p8 ≡ p7 ++ (Label end ∷ []) → p9 ≡ p8 ++ plains (move_end p q) → p9 ≡ p0 ++ move_parts g n p distance q line
unfolding move_parts
move_made g n near end p q line distance p0 p1 p2 p3 p4 p5 p6 p7 p8 p9 en ee e1 e2 e3 e4 e5 e6 e7 e8 e9 =
    let ends : end ≡ n + 2 = omega (arith, en, ee) in
    let f4 = e4 ∙ ap (λ z. p3 ++ (Branch branch.Bltu 15 14 z ∷ [])) ends in
    let f6 = e6 ∙ ap (λ z. p5 ++ unless_parts branch.Bltu 15 14 z Bounds line) en in
    let f8 = e8 ∙ ap (λ z. p7 ++ (Label z ∷ [])) ends in
    more p0 p8 p9 _ _ (more p0 p7 p8 _ _ (more p0 p6 p7 _ _ (more p0 p5 p6 _ _ (more p0 p4 p5 _ _ (more p0 p3 p4 _ _ (more p0 p2 p3 _ _ (more p0 p1 p2 _ _ e1 e2) e3) f4) e5) f6) e7) f8) e9

pub span_made : (g n end third p count q line : ℕ) (x y z : Instr) (a b : List Instr) (p0 p1 p2 p3 p4 p5 p6 p7 : List Part) → end ≡ n + 1 → third ≡ end + 1
    → a ≡ touch_code p → b ≡ last_distance count → z ≡ Lbu 5 16 0
    → p1 ≡ p0 ++ plains (count_code count) → p2 ≡ p1 ++ unless_parts branch.Bltu 6 7 n Bounds line → p3 ≡ p2 ++ (Branch branch.Beq 6 0 end ∷ [])
    → p4 ≡ p3 ++ plains a → p5 ≡ p4 ++ move_parts g third p b q line → p6 ≡ p5 ++ (Plain z ∷ []) → p7 ≡ p6 ++ (Label end ∷ [])
    → p7 ≡ p0 ++ span_parts g n p count q line
unfolding span_parts
span_made g n end third p count q line x y z a b p0 p1 p2 p3 p4 p5 p6 p7 en et ea eb ez e1 e2 e3 e4 e5 e6 e7 =
    let thirds : third ≡ n + 2 = omega (arith, en, et) in
    let f3 = e3 ∙ ap (λ m. p2 ++ (Branch branch.Beq 6 0 m ∷ [])) en in
    let f4 = e4 ∙ ap (λ c. p3 ++ plains c) ea in
    let f5 = e5 ∙ ap (λ m. p4 ++ move_parts g m p b q line) thirds ∙ ap (λ c. p4 ++ move_parts g (n + 2) p c q line) eb in
    let f6 = e6 ∙ ap (λ i. p5 ++ (Plain i ∷ [])) ez in
    let f7 = e7 ∙ ap (λ m. p6 ++ (Label m ∷ [])) en in
    more p0 p6 p7 _ _ (more p0 p5 p6 _ _ (more p0 p4 p5 _ _ (more p0 p3 p4 _ _ (more p0 p2 p3 _ _ (more p0 p1 p2 _ _ e1 e2) f3) f4) f5) f6) f7

-- ---- Constructs

pub ends_as : (g : ℕ) (xs : List FlatStep) → is_end (items_from g 0 (steps_of xs)) ≡ nat_eq (length xs) 0
ends_as g [] = refl
ends_as g (x ∷ xs) = sym (eqb-suc-zero (length xs))

pub choice_made : (g back : ℕ) (known : Option ℕ) (exits : List ℕ) (n end inside middle cond : ℕ) (yes no : FSteps) (s : FStep) (a b : Bool) (p0 p1 p2 e1 e2 first second : List Part)
    → s ≡ FStep.If cond yes no → end ≡ n + 1 → inside ≡ end + 1 → p1 ≡ p0 ++ plains (fetch known cond)
    → e1 ≡ [] → first ≡ e1 ++ items_parts g back None exits inside (items_from g 0 yes) → middle ≡ inside + items_labels (items_from g 0 yes)
    → e2 ≡ [] → second ≡ e2 ++ items_parts g back None exits middle (items_from g 0 no)
    → a ≡ is_end (items_from g 0 yes) → b ≡ is_end (items_from g 0 no) → p2 ≡ p1 ++ choice_parts a b n first second
    → p2 ≡ p0 ++ item_parts g back known exits n (item_of g s)
choice_made g back known exits n end inside middle cond first_steps second_steps s a b p0 p1 p2 e1 e2 first second is ee ei h1 n1 f1 em n2 f2 ea eb h2 =
    let y = items_from g 0 first_steps in
    let z = items_from g 0 second_steps in
    let insides : inside ≡ n + 2 = omega (arith, ee, ei) in
    let middles : middle ≡ n + 2 + items_labels y = omega (arith, em, insides) in
    let g1 = f1 ∙ ap (λ p. p ++ items_parts g back None exits inside y) n1 ∙ ap (λ m. items_parts g back None exits m y) insides in
    let g2 = f2 ∙ ap (λ p. p ++ items_parts g back None exits middle z) n2 ∙ ap (λ m. items_parts g back None exits m z) middles in
    let h3 = h2 ∙ ap (λ p. p1 ++ choice_parts a b n p second) g1 ∙ ap (λ p. p1 ++ choice_parts a b n (items_parts g back None exits (n + 2) y) p) g2
    ∙ ap (λ t. p1 ++ choice_parts t b n (items_parts g back None exits (n + 2) y) (items_parts g back None exits (n + 2 + items_labels y) z)) ea
    ∙ ap (λ t. p1 ++ choice_parts (is_end y) t n (items_parts g back None exits (n + 2) y) (items_parts g back None exits (n + 2 + items_labels y) z)) eb in
    more p0 p1 p2 _ _ h1 h3 ∙ ap (λ i. p0 ++ item_parts g back known exits n (item_of g i)) (sym is)

pub block_made : (g back : ℕ) (known : Option ℕ) (exits around : List ℕ) (n inside : ℕ) (body : FSteps) (s : FStep) (p0 p1 p2 : List Part)
    → s ≡ FStep.Block body → inside ≡ n + 1 → around ≡ n ∷ exits → p1 ≡ p0 ++ items_parts g back known around inside (items_from g 0 body) → p2 ≡ p1 ++ (Label n ∷ [])
    → p2 ≡ p0 ++ item_parts g back known exits n (item_of g s)
block_made g back known exits around n inside body s p0 p1 p2 is ei ea h1 h2 =
    let h = h1 ∙ ap (λ e. p0 ++ items_parts g back known e inside (items_from g 0 body)) ea ∙ ap (λ m. p0 ++ items_parts g back known (n ∷ exits) m (items_from g 0 body)) ei in
    more p0 p1 p2 _ _ h h2 ∙ ap (λ i. p0 ++ item_parts g back known exits n (item_of g i)) (sym is)

looped : (g back : ℕ) (exits around : List ℕ) (n end inside : ℕ) (body : FSteps) (p0 p1 p2 p3 : List Part)
    → end ≡ n + 1 → inside ≡ end + 1 → around ≡ end ∷ exits → p1 ≡ p0 ++ (Label n ∷ []) → p2 ≡ p1 ++ items_parts g back None around inside (items_from g 0 body) → p3 ≡ p2 ++ (Jump 0 n ∷ Label end ∷ [])
    → p3 ≡ p0 ++ loop_parts n (items_parts g back None ((n + 1) ∷ exits) (n + 2) (items_from g 0 body))
looped g back exits around n end inside body p0 p1 p2 p3 ee ei ea h1 h2 h3 =
    let insides : inside ≡ n + 2 = omega (arith, ee, ei) in
    let f2 = h2 ∙ ap (λ e. p1 ++ items_parts g back None e inside (items_from g 0 body)) (ea ∙ ap (λ m. m ∷ exits) ee) ∙ ap (λ m. p1 ++ items_parts g back None ((n + 1) ∷ exits) m (items_from g 0 body)) insides in
    let f3 = h3 ∙ ap (λ m. p2 ++ (Jump 0 n ∷ Label m ∷ [])) ee in
    more p0 p2 p3 _ _ (more p0 p1 p2 _ _ h1 f2) f3

pub loop_made : (g back : ℕ) (known : Option ℕ) (exits around : List ℕ) (n end inside : ℕ) (body : FSteps) (s : FStep) (p0 p1 p2 p3 : List Part)
    → s ≡ FStep.Loop body → end ≡ n + 1 → inside ≡ end + 1 → around ≡ end ∷ exits → p1 ≡ p0 ++ (Label n ∷ []) → p2 ≡ p1 ++ items_parts g back None around inside (items_from g 0 body) → p3 ≡ p2 ++ (Jump 0 n ∷ Label end ∷ [])
    → p3 ≡ p0 ++ item_parts g back known exits n (item_of g s)
loop_made g back known exits around n end inside body s p0 p1 p2 p3 is ee ei ea h1 h2 h3 =
    looped g back exits around n end inside body p0 p1 p2 p3 ee ei ea h1 h2 h3 ∙ ap (λ i. p0 ++ item_parts g back known exits n (item_of g i)) (sym is)

pub inner_made : (g back : ℕ) (known : Option ℕ) (exits around : List ℕ) (n end inside : ℕ) (body : FSteps) (s : FStep) (p0 p1 p2 p3 : List Part)
    → s ≡ FStep.Inner body → end ≡ n + 1 → inside ≡ end + 1 → around ≡ end ∷ exits → p1 ≡ p0 ++ (Label n ∷ []) → p2 ≡ p1 ++ items_parts g back None around inside (items_from g 0 body) → p3 ≡ p2 ++ (Jump 0 n ∷ Label end ∷ [])
    → p3 ≡ p0 ++ item_parts g back known exits n (item_of g s)
inner_made g back known exits around n end inside body s p0 p1 p2 p3 is ee ei ea h1 h2 h3 =
    looped g back exits around n end inside body p0 p1 p2 p3 ee ei ea h1 h2 h3 ∙ ap (λ i. p0 ++ item_parts g back known exits n (item_of g i)) (sym is)

-- ---- The loop over steps

pub whole_rest : (xs : List FlatStep) (i : ℕ) → take (length xs - i) (drop i xs) ≡ drop i xs
whole_rest xs i = take_all (length xs - i) (drop i xs) (omega (arith, length-drop i xs))

-- what the loop keeps: the parts so far with those of the steps that are left, and the labels likewise
pub record Left (g back : ℕ) (held : Option ℕ) (exits : List ℕ) (next skip : ℕ) (steps : List FlatStep) (parts all : List Part) (total : ℕ) : Type 0 where
  pub parts_left : parts ++ items_parts g back held exits next (items_from g skip (steps_of steps)) ≡ all
  pub labels_left : next + items_labels (items_from g skip (steps_of steps)) ≡ total

pub skip_in : (g back : ℕ) (held : Option ℕ) (exits : List ℕ) (next skip : ℕ) (xs : List FlatStep) (i : ℕ) (x : FlatStep) (parts all : List Part) (total : ℕ)
    → i < length xs → x ≡ get_or xs i x → 0 < skip → Left g back held exits next skip (drop i xs) parts all total → Left g back held exits next (skip - 1) (drop (i + 1) xs) parts all total
skip_in g back held exits next skip xs i x parts all total lt is pos left =
    let front = sym (next_in (λ z. items_from g skip (steps_of z)) xs i x lt is ∙ skipped g skip (step_of x) (steps_of (drop (i + 1) xs)) pos) in
    record {
      parts_left = ap (λ z. parts ++ items_parts g back held exits next z) front ∙ left.parts_left;
      labels_left = ap (λ z. next + items_labels z) front ∙ left.labels_left;
    }

pub checked_in : (g back : ℕ) (held : Option ℕ) (exits : List ℕ) (next after skip further_on : ℕ) (xs : List FlatStep) (i : ℕ) (x : FlatStep) (q : Sequence) (parts new all : List Part) (total : ℕ)
    → i < length xs → x ≡ get_or xs i x → skip ≡ 0 → sequence_at g (steps_of (drop i xs)) ≡ Some q → new ≡ parts ++ sequence_parts g next q → after ≡ next + sequence_labels q → further_on ≡ further g (Some q)
    → Left g back held exits next skip (drop i xs) parts all total → Left g back None exits after further_on (drop (i + 1) xs) new all total
checked_in g back held exits next after skip further_on xs i x q parts new all total lt is none_left found made more_labels on left =
    let rest = steps_of (drop (i + 1) xs) in
    let here = sym (next_in (λ z. sequence_at g (steps_of z)) xs i x lt is) ∙ found in
    let front = next_in (λ z. items_from g 0 (steps_of z)) xs i x lt is in
    let begun = ap (λ k. items_from g k (steps_of (drop i xs))) none_left ∙ front in
    let tail = items_parts g back None exits (next + sequence_labels q) (items_from g (further g (Some q)) rest) in
    record {
      parts_left =
          ap (λ a. new ++ items_parts g back None exits a (items_from g further_on rest)) more_labels
          ∙ ap (λ k. new ++ items_parts g back None exits (next + sequence_labels q) (items_from g k rest)) on
          ∙ ap (λ p. p ++ tail) made ∙ append_assoc parts (sequence_parts g next q) tail
          ∙ ap (λ p. parts ++ p) (sym (checked_front g back held exits next (step_of x) rest q here))
          ∙ ap (λ z. parts ++ items_parts g back held exits next z) (sym begun) ∙ left.parts_left;
      labels_left =
          ap (λ a. a + items_labels (items_from g further_on rest)) more_labels
          ∙ ap (λ k. next + sequence_labels q + items_labels (items_from g k rest)) on
          ∙ let e : next + sequence_labels q + items_labels (items_from g (further g (Some q)) rest) ≡ next + (sequence_labels q + items_labels (items_from g (further g (Some q)) rest)) = omega arith in e
          ∙ ap (λ k. next + k) (sym (checked_labels g (step_of x) rest q here))
          ∙ ap (λ z. next + items_labels z) (sym begun) ∙ left.labels_left;
    }

pub plain_in : (g back : ℕ) (held after_held : Option ℕ) (exits : List ℕ) (next after skip : ℕ) (xs : List FlatStep) (i : ℕ) (x : FlatStep) (parts new all : List Part) (total : ℕ)
    → i < length xs → x ≡ get_or xs i x → skip ≡ 0 → sequence_at g (steps_of (drop i xs)) ≡ None → new ≡ parts ++ item_parts g back held exits next (item_of g (step_of x)) → after ≡ next + item_labels (item_of g (step_of x)) → after_held ≡ held_after held (step_of x)
    → Left g back held exits next skip (drop i xs) parts all total → Left g back after_held exits after skip (drop (i + 1) xs) new all total
plain_in g back held after_held exits next after skip xs i x parts new all total lt is none_left found made more_labels holds left =
    let rest = steps_of (drop (i + 1) xs) in
    let here = sym (next_in (λ z. sequence_at g (steps_of z)) xs i x lt is) ∙ found in
    let front = next_in (λ z. items_from g 0 (steps_of z)) xs i x lt is in
    let begun = ap (λ k. items_from g k (steps_of (drop i xs))) none_left ∙ front in
    let n = item_labels (item_of g (step_of x)) in
    let tail = items_parts g back (held_after held (step_of x)) exits (next + n) (items_from g 0 rest) in
    record {
      parts_left =
          ap (λ a. new ++ items_parts g back after_held exits a (items_from g skip rest)) more_labels
          ∙ ap (λ k. new ++ items_parts g back after_held exits (next + n) (items_from g k rest)) none_left
          ∙ ap (λ h. new ++ items_parts g back h exits (next + n) (items_from g 0 rest)) holds
          ∙ ap (λ p. p ++ tail) made ∙ append_assoc parts (item_parts g back held exits next (item_of g (step_of x))) tail
          ∙ ap (λ p. parts ++ p) (sym (plain_front g back held exits next (step_of x) rest here))
          ∙ ap (λ z. parts ++ items_parts g back held exits next z) (sym begun) ∙ left.parts_left;
      labels_left =
          ap (λ a. a + items_labels (items_from g skip rest)) more_labels
          ∙ ap (λ k. next + n + items_labels (items_from g k rest)) none_left
          ∙ let e : next + n + items_labels (items_from g 0 rest) ≡ next + (n + items_labels (items_from g 0 rest)) = omega arith in e
          ∙ ap (λ k. next + k) (sym (plain_labels g (step_of x) rest here))
          ∙ ap (λ z. next + items_labels z) (sym begun) ∙ left.labels_left;
    }

pub parts_end : (g back : ℕ) (held : Option ℕ) (exits : List ℕ) (next skip : ℕ) (xs : List FlatStep) (i : ℕ) (parts all : List Part) (total : ℕ)
    → length xs ≤ i → Left g back held exits next skip (drop i xs) parts all total → parts ≡ all
parts_end g back held exits next skip xs i parts all total le left =
    sym (append-nil parts) ∙ ap (λ z. parts ++ items_parts g back held exits next z) (sym (end_in (λ z. items_from g skip (steps_of z)) xs i le ∙ nothing_left g skip)) ∙ left.parts_left

pub labels_end : (g back : ℕ) (held : Option ℕ) (exits : List ℕ) (next skip : ℕ) (xs : List FlatStep) (i : ℕ) (parts all : List Part) (total : ℕ)
    → length xs ≤ i → Left g back held exits next skip (drop i xs) parts all total → next ≡ total
labels_end g back held exits next skip xs i parts all total le left =
    let e : next ≡ next + 0 = omega arith in
    e ∙ ap (λ z. next + items_labels z) (sym (end_in (λ z. items_from g skip (steps_of z)) xs i le ∙ nothing_left g skip)) ∙ left.labels_left

-- ---- The loop over functions

pub functions_in : (g k k1 next after : ℕ) (fs : List FlatFunction) (i : ℕ) (f : FlatFunction) (parts new all : List Part) → i < length fs → f ≡ get_or fs i f
    → new ≡ parts ++ function_parts g k next (function_of f) → after ≡ next + function_labels g (function_of f) → k1 ≡ k + 1
    → parts ++ functions_parts g k next (map function_of (drop i fs)) ≡ all → new ++ functions_parts g k1 after (map function_of (drop (i + 1) fs)) ≡ all
functions_in g k k1 next after fs i f parts new all lt is made labels number left =
    let rest = map function_of (drop (i + 1) fs) in
    let one = function_parts g k next (function_of f) in
    let tail = functions_parts g (k + 1) (next + function_labels g (function_of f)) rest in
    ap (λ m. new ++ functions_parts g m after rest) number ∙ ap (λ m. new ++ functions_parts g (k + 1) m rest) labels
    ∙ ap (λ p. p ++ tail) made ∙ append_assoc parts one tail
    ∙ ap (λ p. parts ++ p) (sym (next_in (λ z. functions_parts g k next (map function_of z)) fs i f lt is)) ∙ left

pub functions_end : (g k next : ℕ) (fs : List FlatFunction) (i : ℕ) (parts all : List Part) → length fs ≤ i → parts ++ functions_parts g k next (map function_of (drop i fs)) ≡ all → parts ≡ all
functions_end g k next fs i parts all le left =
    sym (append-nil parts) ∙ ap (λ p. parts ++ p) (sym (end_in (λ z. functions_parts g k next (map function_of z)) fs i le)) ∙ left
