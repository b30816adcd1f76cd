-- The items of steps are these steps, and a sequence is found where it stands.
use Rattle.std.proofs.Common.{◌≡◌, ℕ, zero, suc, ◌-◌, Option, Some, None, Bool, true, false, List, [], ◌∷◌, cond, refl, sym, ap, ◌∙◌, true≢false, arith}
use Rattle.std.specs.Prelude.{◌==◌, ◌&&◌}
use Rattle.std.proofs.lemmas.Bool.{eqb-true}
use Rattle.bb_words.specs.declared.kinds.ReportKind.{ReportKind}
use Rattle.bb_words.specs.declared.kinds.ReportKind.TheVariants as report
use Rattle.bb_words.specs.declared.steps.ArithOp.{ArithOp}
use Rattle.bb_words.specs.declared.steps.ArithOp.TheVariants as op
use Rattle.bb_words.specs.declared.steps.Width.{Width}
use Rattle.bb_words.specs.declared.steps.Width.TheVariants as width
use Rattle.flat_code.specs.Code.{FStep, FSteps, ◌+++◌}
use Rattle.flat_code.specs.Recognized.{number_of_op, number_of_width, number_of_kind, same_numbers, same_step, same_steps, starts, Sequence, sequence_steps, is_apart, move_of, load_of, span_of, if_begins, sequence_at, count, further}
use Rattle.flat_discipline.specs.Items.{Item, Items, item_steps, all_steps, item_or, item_of, items_from}
use Rattle.flat_code_laws.specs.Laws.{SequencesAreFound as Finds}
use Rattle.flat_discipline.specs.Laws.{ItemsAreSteps, SequencesAreItems}

both : (a b : Bool) → (a && b) ≡ true → (a ≡ true) × (b ≡ true)
both true b h = (refl, h)
both false b h = absurd (true≢false (sym h))

wrong : {A : Type 0} → false ≡ true → A
wrong h = absurd (true≢false (sym h))

-- ---- Numbers of operations, widths and kinds

nth : {A : Type 0} → A → List A → ℕ → A
nth a [] n = a
nth a (x ∷ xs) zero = x
nth a (x ∷ xs) (suc n) = nth a xs n

op_at : ℕ → ArithOp
op_at n = nth op.Add (op.Add ∷ op.Sub ∷ op.Mul ∷ op.Mulh ∷ op.Mulhsu ∷ op.Mulhu ∷ op.Div ∷ op.Divu ∷ op.Rem ∷ op.Remu ∷ op.Shl ∷ op.Shr ∷ op.Sar ∷ op.Lts ∷ op.Ltu ∷ op.And ∷ op.Or ∷ op.Xor ∷ op.Equal ∷ op.Unequal ∷ op.AtMostSigned ∷ op.AtMostUnsigned ∷ []) n

op_back : (f : ArithOp) → op_at (number_of_op f) ≡ f
unfolding nth op_at
op_back op.Add = refl
op_back op.Sub = refl
op_back op.Mul = refl
op_back op.Mulh = refl
op_back op.Mulhsu = refl
op_back op.Mulhu = refl
op_back op.Div = refl
op_back op.Divu = refl
op_back op.Rem = refl
op_back op.Remu = refl
op_back op.Shl = refl
op_back op.Shr = refl
op_back op.Sar = refl
op_back op.Lts = refl
op_back op.Ltu = refl
op_back op.And = refl
op_back op.Or = refl
op_back op.Xor = refl
op_back op.Equal = refl
op_back op.Unequal = refl
op_back op.AtMostSigned = refl
op_back op.AtMostUnsigned = refl

op_same : (f g : ArithOp) → (number_of_op f == number_of_op g) ≡ true → f ≡ g
op_same f g h = sym (op_back f) ∙ ap op_at (eqb-true (number_of_op f) (number_of_op g) h) ∙ op_back g

width_at : ℕ → Width
width_at n = nth width.Byte (width.Byte ∷ width.Half ∷ width.SignedHalf ∷ width.Word ∷ width.Pointer ∷ []) n

width_back : (w : Width) → width_at (number_of_width w) ≡ w
unfolding nth width_at
width_back width.Byte = refl
width_back width.Half = refl
width_back width.SignedHalf = refl
width_back width.Word = refl
width_back width.Pointer = refl

width_same : (w v : Width) → (number_of_width w == number_of_width v) ≡ true → w ≡ v
width_same w v h = sym (width_back w) ∙ ap width_at (eqb-true (number_of_width w) (number_of_width v) h) ∙ width_back v

kind_at : ℕ → ReportKind
kind_at n = nth report.Bounds (report.Bounds ∷ report.Pointer ∷ report.DivZero ∷ report.BadFree ∷ report.Depth ∷ report.Stack ∷ []) n

kind_back : (k : ReportKind) → kind_at (number_of_kind k) ≡ k
unfolding nth kind_at
kind_back report.Bounds = refl
kind_back report.Pointer = refl
kind_back report.DivZero = refl
kind_back report.BadFree = refl
kind_back report.Depth = refl
kind_back report.Stack = refl

kind_same : (k j : ReportKind) → (number_of_kind k == number_of_kind j) ≡ true → k ≡ j
kind_same k j h = sym (kind_back k) ∙ ap kind_at (eqb-true (number_of_kind k) (number_of_kind j) h) ∙ kind_back j

-- ---- Equal steps are one

numbers_same : (xs ys : List ℕ) → same_numbers xs ys ≡ true → xs ≡ ys
numbers_same [] [] h = refl
numbers_same (x ∷ xs) (y ∷ ys) h = let r = both (x == y) (same_numbers xs ys) h in ap (λ z. z ∷ xs) (eqb-true x y r.0) ∙ ap (λ z. y ∷ z) (numbers_same xs ys r.1)
numbers_same [] (y ∷ ys) h = wrong h
numbers_same (x ∷ xs) [] h = wrong h

two : {A : Type 0} (f : ℕ → ℕ → A) (a b x y : ℕ) → ((a == b) && (x == y)) ≡ true → f a x ≡ f b y
two f a b x y h = let r = both (a == b) (x == y) h in ap (λ z. f z x) (eqb-true a b r.0) ∙ ap (λ z. f b z) (eqb-true x y r.1)

mutual
  step_same : (a b : FStep) → same_step a b ≡ true → a ≡ b
  step_same (FStep.Number a x) (FStep.Number b y) h = two FStep.Number a b x y h
  step_same (FStep.Same a x) (FStep.Same b y) h = two FStep.Same a b x y h
  step_same (FStep.Arith a f x y) (FStep.Arith b g z u) h =
      let r = both (a == b) ((number_of_op f == number_of_op g) && ((x == z) && (y == u))) h in
      let t = both (number_of_op f == number_of_op g) ((x == z) && (y == u)) r.1 in
      ap (λ k. FStep.Arith k f x y) (eqb-true a b r.0) ∙ ap (λ k. FStep.Arith b k x y) (op_same f g t.0) ∙ two (FStep.Arith b g) x z y u t.1
  step_same (FStep.If a x y) (FStep.If b z u) h =
      let r = both (a == b) (same_steps x z && same_steps y u) h in
      let t = both (same_steps x z) (same_steps y u) r.1 in
      ap (λ k. FStep.If k x y) (eqb-true a b r.0) ∙ ap (λ k. FStep.If b k y) (steps_same x z t.0) ∙ ap (λ k. FStep.If b z k) (steps_same y u t.1)
  step_same (FStep.Block a) (FStep.Block b) h = ap FStep.Block (steps_same a b h)
  step_same (FStep.Loop a) (FStep.Loop b) h = ap FStep.Loop (steps_same a b h)
  step_same (FStep.Inner a) (FStep.Inner b) h = ap FStep.Inner (steps_same a b h)
  step_same (FStep.Exit a) (FStep.Exit b) h = ap FStep.Exit (eqb-true a b h)
  step_same (FStep.Call a f x) (FStep.Call b g y) h =
      let r = both (a == b) ((f == g) && same_numbers x y) h in
      let t = both (f == g) (same_numbers x y) r.1 in
      ap (λ k. FStep.Call k f x) (eqb-true a b r.0) ∙ ap (λ k. FStep.Call b k x) (eqb-true f g t.0) ∙ ap (λ k. FStep.Call b g k) (numbers_same x y t.1)
  step_same (FStep.Return a) (FStep.Return b) h = ap FStep.Return (eqb-true a b h)
  step_same (FStep.Slot a x) (FStep.Slot b y) h = two FStep.Slot a b x y h
  step_same (FStep.Look a x) (FStep.Look b y) h = two FStep.Look a b x y h
  step_same (FStep.FrameAt a x) (FStep.FrameAt b y) h = two FStep.FrameAt a b x y h
  step_same (FStep.Load a x w) (FStep.Load b y v) h =
      let r = both (a == b) ((x == y) && (number_of_width w == number_of_width v)) h in
      let t = both (x == y) (number_of_width w == number_of_width v) r.1 in
      ap (λ k. FStep.Load k x w) (eqb-true a b r.0) ∙ ap (λ k. FStep.Load b k w) (eqb-true x y t.0) ∙ ap (λ k. FStep.Load b y k) (width_same w v t.1)
  step_same (FStep.Store a x w) (FStep.Store b y v) h =
      let r = both (a == b) ((x == y) && (number_of_width w == number_of_width v)) h in
      let t = both (x == y) (number_of_width w == number_of_width v) r.1 in
      ap (λ k. FStep.Store k x w) (eqb-true a b r.0) ∙ ap (λ k. FStep.Store b k w) (eqb-true x y t.0) ∙ ap (λ k. FStep.Store b y k) (width_same w v t.1)
  step_same (FStep.Checked a x) (FStep.Checked b y) h = two FStep.Checked a b x y h
  step_same (FStep.LineMark a) (FStep.LineMark b) h = ap FStep.LineMark (eqb-true a b h)
  step_same (FStep.Report k a) (FStep.Report j b) h =
      let r = both (number_of_kind k == number_of_kind j) (a == b) h in
      ap (λ z. FStep.Report z a) (kind_same k j r.0) ∙ ap (λ z. FStep.Report j z) (eqb-true a b r.1)
  step_same (FStep.Env a n x y) (FStep.Env b m z u) h =
      let r = both (a == b) ((n == m) && ((x == z) && (y == u))) h in
      let t = both (n == m) ((x == z) && (y == u)) r.1 in
      ap (λ k. FStep.Env k n x y) (eqb-true a b r.0) ∙ ap (λ k. FStep.Env b k x y) (eqb-true n m t.0) ∙ two (FStep.Env b m) x z y u t.1
  step_same _ _ h = wrong h

  steps_same : (a b : FSteps) → same_steps a b ≡ true → a ≡ b
  steps_same FSteps.none FSteps.none h = refl
  steps_same (FSteps.more s a) (FSteps.more t b) h = let r = both (same_step s t) (same_steps a b) h in ap (λ k. FSteps.more k a) (step_same s t r.0) ∙ ap (λ k. FSteps.more t k) (steps_same a b r.1)
  steps_same _ _ h = wrong h

-- ---- What begins a list

abbrev pub drop_steps : ℕ → FSteps → FSteps
drop_steps zero a = a
drop_steps (suc n) FSteps.none = FSteps.none
drop_steps (suc n) (FSteps.more s a) = drop_steps n a

pub began : (a b : FSteps) → starts a b ≡ true → b ≡ a +++ drop_steps (count a) b
began FSteps.none b h = refl
began (FSteps.more s a) FSteps.none h = wrong h
began (FSteps.more s a) (FSteps.more t b) h =
    let r = both (same_step s t) (starts a b) h in
    ap (λ k. FSteps.more k b) (sym (step_same s t r.0)) ∙ ap (λ k. FSteps.more s k) (began a b r.1)

module _ (g : ℕ) where
  -- what is recognized begins the list, and its values are apart
  abbrev pub IsAt : Option Sequence → FSteps → Type 0
  IsAt None a = Unit {0}
  IsAt (Some q) a = (starts (sequence_steps g q) a ≡ true) × (is_apart q ≡ true)

  if_is_at : (q : Sequence) (a : FSteps) (other : Option Sequence) → IsAt other a → IsAt (if_begins g q a other) a
  if_is_at q a other h = which (starts (sequence_steps g q) a && is_apart q) refl
    where
      which : (t : Bool) → (starts (sequence_steps g q) a && is_apart q) ≡ t → IsAt (cond t (Some q) other) a
      which true e = both (starts (sequence_steps g q) a) (is_apart q) e
      which false e = h

  pub sequence_is_at : (a : FSteps) → IsAt (sequence_at g a) a
  sequence_is_at a = if_is_at (move_of a) a (if_begins g (load_of a) a (if_begins g (span_of a) a None)) (if_is_at (load_of a) a (if_begins g (span_of a) a None) (if_is_at (span_of a) a None tt))

  -- a sequence has a first step
  pub long : (q : Sequence) → count (sequence_steps g q) ≡ suc (count (sequence_steps g q) - 1)
  long (Sequence.Move p d q line s e) = refl
  long (Sequence.Load w at line s e) = refl
  long (Sequence.Span p n q line d s e) = refl

  front : (found : Option Sequence) (s : FStep) (rest : FSteps) (i : Item) → item_steps g i ≡ FSteps.more s FSteps.none → IsAt found (FSteps.more s rest) → item_steps g (item_or found i) +++ drop_steps (further g found) rest ≡ FSteps.more s rest
  front None s rest i h at = ap (λ x. x +++ rest) h
  front (Some q) s rest i h at = ap (λ n. sequence_steps g q +++ drop_steps n (FSteps.more s rest)) (sym (long q)) ∙ sym (began (sequence_steps g q) (FSteps.more s rest) at.0)

  mutual
    item_is : (s : FStep) → item_steps g (item_of g s) ≡ FSteps.more s FSteps.none
    item_is (FStep.If c a b) = ap (λ x. FSteps.more (FStep.If c x (all_steps g (items_from g 0 b))) FSteps.none) (items_are 0 a) ∙ ap (λ x. FSteps.more (FStep.If c a x) FSteps.none) (items_are 0 b)
    item_is (FStep.Block a) = ap (λ x. FSteps.more (FStep.Block x) FSteps.none) (items_are 0 a)
    item_is (FStep.Loop a) = ap (λ x. FSteps.more (FStep.Loop x) FSteps.none) (items_are 0 a)
    item_is (FStep.Inner a) = ap (λ x. FSteps.more (FStep.Inner x) FSteps.none) (items_are 0 a)
    item_is (FStep.Number a x) = refl
    item_is (FStep.Same a x) = refl
    item_is (FStep.Arith a f x y) = refl
    item_is (FStep.Exit a) = refl
    item_is (FStep.Call a f x) = refl
    item_is (FStep.Return a) = refl
    item_is (FStep.Slot a x) = refl
    item_is (FStep.Look a x) = refl
    item_is (FStep.FrameAt a x) = refl
    item_is (FStep.Load a x n) = refl
    item_is (FStep.Store a x n) = refl
    item_is (FStep.Checked a x) = refl
    item_is (FStep.LineMark a) = refl
    item_is (FStep.Report a x) = refl
    item_is (FStep.Env a x y z) = refl

    items_are : (k : ℕ) (a : FSteps) → all_steps g (items_from g k a) ≡ drop_steps k a
    items_are zero FSteps.none = refl
    items_are (suc k) FSteps.none = refl
    items_are (suc k) (FSteps.more s rest) = items_are k rest
    items_are zero (FSteps.more s rest) =
        let found = sequence_at g (FSteps.more s rest) in
        ap (λ x. item_steps g (item_or found (item_of g s)) +++ x) (items_are (further g found) rest) ∙ front found s rest (item_of g s) (item_is s) (sequence_is_at (FSteps.more s rest))

pub items_are_steps : ItemsAreSteps
items_are_steps g a = items_are g 0 a

-- ---- Sequences are items

module _ (finds : Finds) (g : ℕ) where
  skipped : (a b : FSteps) → items_from g (count a) (a +++ b) ≡ items_from g 0 b
  skipped FSteps.none b = refl
  skipped (FSteps.more s a) b = skipped a b

  one_less : (n : ℕ) → suc n - 1 ≡ n
  one_less n = omega arith

  found : (q : Sequence) (s : FStep) (rest b : FSteps) (i : Item) → sequence_steps g q ≡ FSteps.more s rest → (o : Option Sequence) → o ≡ Some q → Items.next (item_or o i) (items_from g (further g o) (rest +++ b)) ≡ Items.next (Item.Checks q) (items_from g 0 b)
  found q s rest b i is o h =
      ap (λ x. Items.next (item_or x i) (items_from g (further g x) (rest +++ b))) h
      ∙ ap (λ x. Items.next (Item.Checks q) (items_from g (count x - 1) (rest +++ b))) is
      ∙ ap (λ n. Items.next (Item.Checks q) (items_from g n (rest +++ b))) (one_less (count rest))
      ∙ ap (λ x. Items.next (Item.Checks q) x) (skipped rest b)

  abbrev tail : FSteps → FSteps
  tail a = drop_steps 1 a

  pub sequence_items : (q : Sequence) (b : FSteps) → is_apart q ≡ true → items_from g 0 (sequence_steps g q +++ b) ≡ Items.next (Item.Checks q) (items_from g 0 b)
  sequence_items (Sequence.Move p d q line s e) b apart =
      let x = Sequence.Move p d q line s e in
      found x (FStep.Slot s p) (tail (sequence_steps g x)) b (Item.Plain (FStep.Slot s p)) refl (sequence_at g (sequence_steps g x +++ b)) (finds g x b apart)
  sequence_items (Sequence.Load w at line s e) b apart =
      let x = Sequence.Load w at line s e in
      found x (FStep.Load w at width.Pointer) (tail (sequence_steps g x)) b (Item.Plain (FStep.Load w at width.Pointer)) refl (sequence_at g (sequence_steps g x +++ b)) (finds g x b apart)
  sequence_items (Sequence.Span p n q line d s e) b apart =
      let x = Sequence.Span p n q line d s e in
      found x (FStep.Number d 0x0100_0001) (tail (sequence_steps g x)) b (Item.Plain (FStep.Number d 0x0100_0001)) refl (sequence_at g (sequence_steps g x +++ b)) (finds g x b apart)

pub sequences_are_items : Finds → SequencesAreItems
sequences_are_items finds g q rest apart = sequence_items finds g q rest apart
