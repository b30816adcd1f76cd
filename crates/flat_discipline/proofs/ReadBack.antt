-- Items that stand plainly are read back from their steps.
use Rattle.std.proofs.Common.{◌≡◌, ℕ, zero, suc, ◌-◌, ◌^◌, Option, Some, None, Bool, true, false, cond, refl, sym, ap, ◌∙◌, true≢false}
use Rattle.std.specs.Prelude.{◌==◌, ◌&&◌, not}
use Rattle.bb_words.specs.declared.kinds.ReportKind.TheVariants.{Bounds}
use Rattle.bb_words.specs.declared.steps.ArithOp.TheVariants as op
use Rattle.bb_words.specs.declared.steps.Width.TheVariants as width
use Rattle.flat_code.specs.Code.{FStep, FSteps, ◌+++◌}
use Rattle.flat_code.specs.Sequences.{report, load_sequence, span_sequence, owned_steps}
use Rattle.flat_code.specs.Recognized.{number_of_op, number_of_width, number_of_kind, same_steps, starts, Sequence, sequence_steps, is_apart, step_at, target, source, line_value, first_of, second_of, load_of, span_of, if_begins, sequence_at, further}
use Rattle.flat_discipline.specs.Items.{Item, Items, item_steps, all_steps, item_or, item_of, items_from}
use Rattle.flat_discipline.specs.Breaks.{is_plain}
use Rattle.flat_code_laws.specs.Laws.{SequencesAreFound as Finds}
use Rattle.flat_discipline.specs.Laws.{IsPlainly, ArePlainly, PlainItemsAreRead}
use Rattle.flat_discipline.proofs.Recognized.{sequence_items}

wrong : {A : Type 0} → false ≡ true → A
wrong h = absurd (true≢false (sym h))

and_false : (x : Bool) → (x && false) ≡ false
and_false true = refl
and_false false = refl

not_true : (b : Bool) → not b ≡ true → b ≡ false
not_true true h = wrong h
not_true false h = refl

abbrev dropped : ℕ → FSteps → FSteps
dropped zero a = a
dropped (suc n) FSteps.none = FSteps.none
dropped (suc n) (FSteps.more s a) = dropped n a

module _ (finds : Finds) (g : ℕ) where
  -- no items begin as the list of a load sequence does
  not_slot : (a : Items) → ArePlainly a → (s t c v : ℕ) (X : FSteps) → same_steps (FSteps.more (FStep.Slot s t) (FSteps.more (FStep.Number c v) X)) (all_steps g a) ≡ false
  not_slot Items.end h s t c v X = refl
  not_slot (Items.next (Item.Plain (FStep.Number a1 a2)) r) h s t c v X = refl
  not_slot (Items.next (Item.Plain (FStep.Same a1 a2)) r) h s t c v X = refl
  not_slot (Items.next (Item.Plain (FStep.Arith a1 a2 a3 a4)) r) h s t c v X = refl
  not_slot (Items.next (Item.Plain (FStep.If a1 a2 a3)) r) h s t c v X = refl
  not_slot (Items.next (Item.Plain (FStep.Block a1)) r) h s t c v X = refl
  not_slot (Items.next (Item.Plain (FStep.Loop a1)) r) h s t c v X = refl
  not_slot (Items.next (Item.Plain (FStep.Inner a1)) r) h s t c v X = refl
  not_slot (Items.next (Item.Plain (FStep.Exit a1)) r) h s t c v X = refl
  not_slot (Items.next (Item.Plain (FStep.Call a1 a2 a3)) r) h s t c v X = refl
  not_slot (Items.next (Item.Plain (FStep.Return a1)) r) h s t c v X = refl
  not_slot (Items.next (Item.Plain (FStep.Slot a1 a2)) r) h s t c v X = wrong h.0.0
  not_slot (Items.next (Item.Plain (FStep.Look a1 a2)) r) h s t c v X = refl
  not_slot (Items.next (Item.Plain (FStep.FrameAt a1 a2)) r) h s t c v X = refl
  not_slot (Items.next (Item.Plain (FStep.Load a1 a2 a3)) r) h s t c v X = refl
  not_slot (Items.next (Item.Plain (FStep.Store a1 a2 a3)) r) h s t c v X = refl
  not_slot (Items.next (Item.Plain (FStep.Checked a1 a2)) r) h s t c v X = refl
  not_slot (Items.next (Item.Plain (FStep.LineMark a1)) r) h s t c v X = refl
  not_slot (Items.next (Item.Plain (FStep.Report a1 a2)) r) h s t c v X = refl
  not_slot (Items.next (Item.Plain (FStep.Env a1 a2 a3 a4)) r) h s t c v X = refl
  not_slot (Items.next (Item.Checks (Sequence.Move bp bd bq bl bs be)) r) h s t c v X = and_false ((s == bs) && (t == bp))
  not_slot (Items.next (Item.Checks (Sequence.Load bw bat bl bs be)) r) h s t c v X = refl
  not_slot (Items.next (Item.Checks (Sequence.Span bp bn bq bl bd bs be)) r) h s t c v X = refl
  not_slot (Items.next (Item.If k x y) r) h s t c v X = refl
  not_slot (Items.next (Item.Block x) r) h s t c v X = refl
  not_slot (Items.next (Item.Loop x) r) h s t c v X = refl
  not_slot (Items.next (Item.Inner x) r) h s t c v X = refl

  not_load : (a : Items) → ArePlainly a → (w s t c v : ℕ) (X Y Z : FSteps) → starts (FSteps.more (FStep.If w (FSteps.more (FStep.Slot s t) (FSteps.more (FStep.Number c v) X)) Y) Z) (all_steps g a) ≡ false
  not_load Items.end h w s t c v X Y Z = refl
  not_load (Items.next (Item.Plain (FStep.Number a1 a2)) r) h w s t c v X Y Z = refl
  not_load (Items.next (Item.Plain (FStep.Same a1 a2)) r) h w s t c v X Y Z = refl
  not_load (Items.next (Item.Plain (FStep.Arith a1 a2 a3 a4)) r) h w s t c v X Y Z = refl
  not_load (Items.next (Item.Plain (FStep.If a1 a2 a3)) r) h w s t c v X Y Z = wrong h.0.0
  not_load (Items.next (Item.Plain (FStep.Block a1)) r) h w s t c v X Y Z = refl
  not_load (Items.next (Item.Plain (FStep.Loop a1)) r) h w s t c v X Y Z = refl
  not_load (Items.next (Item.Plain (FStep.Inner a1)) r) h w s t c v X Y Z = refl
  not_load (Items.next (Item.Plain (FStep.Exit a1)) r) h w s t c v X Y Z = refl
  not_load (Items.next (Item.Plain (FStep.Call a1 a2 a3)) r) h w s t c v X Y Z = refl
  not_load (Items.next (Item.Plain (FStep.Return a1)) r) h w s t c v X Y Z = refl
  not_load (Items.next (Item.Plain (FStep.Slot a1 a2)) r) h w s t c v X Y Z = refl
  not_load (Items.next (Item.Plain (FStep.Look a1 a2)) r) h w s t c v X Y Z = refl
  not_load (Items.next (Item.Plain (FStep.FrameAt a1 a2)) r) h w s t c v X Y Z = refl
  not_load (Items.next (Item.Plain (FStep.Load a1 a2 a3)) r) h w s t c v X Y Z = refl
  not_load (Items.next (Item.Plain (FStep.Store a1 a2 a3)) r) h w s t c v X Y Z = refl
  not_load (Items.next (Item.Plain (FStep.Checked a1 a2)) r) h w s t c v X Y Z = refl
  not_load (Items.next (Item.Plain (FStep.LineMark a1)) r) h w s t c v X Y Z = refl
  not_load (Items.next (Item.Plain (FStep.Report a1 a2)) r) h w s t c v X Y Z = refl
  not_load (Items.next (Item.Plain (FStep.Env a1 a2 a3 a4)) r) h w s t c v X Y Z = refl
  not_load (Items.next (Item.Checks (Sequence.Move bp bd bq bl bs be)) r) h w s t c v X Y Z = refl
  not_load (Items.next (Item.Checks (Sequence.Load bw bat bl bs be)) r) h w s t c v X Y Z = refl
  not_load (Items.next (Item.Checks (Sequence.Span bp bn bq bl bd bs be)) r) h w s t c v X Y Z = refl
  not_load (Items.next (Item.If k x y) r) h w s t c v X Y Z = ap (λ z. ((w == k) && (z && same_steps Y (all_steps g y))) && starts Z (all_steps g r)) (not_slot x h.0.0 s t c v X) ∙ ap (λ z. z && starts Z (all_steps g r)) (and_false (w == k))
  not_load (Items.next (Item.Block x) r) h w s t c v X Y Z = refl
  not_load (Items.next (Item.Loop x) r) h w s t c v X Y Z = refl
  not_load (Items.next (Item.Inner x) r) h w s t c v X Y Z = refl

  -- no items are the report of a sequence
  not_bounds : (a : Items) → ArePlainly a → (l : ℕ) → same_steps (report Bounds l) (all_steps g a) ≡ false
  not_bounds Items.end h l = refl
  not_bounds (Items.next (Item.Plain (FStep.Number a1 a2)) r) h l = refl
  not_bounds (Items.next (Item.Plain (FStep.Same a1 a2)) r) h l = refl
  not_bounds (Items.next (Item.Plain (FStep.Arith a1 a2 a3 a4)) r) h l = refl
  not_bounds (Items.next (Item.Plain (FStep.If a1 a2 a3)) r) h l = refl
  not_bounds (Items.next (Item.Plain (FStep.Block a1)) r) h l = refl
  not_bounds (Items.next (Item.Plain (FStep.Loop a1)) r) h l = refl
  not_bounds (Items.next (Item.Plain (FStep.Inner a1)) r) h l = refl
  not_bounds (Items.next (Item.Plain (FStep.Exit a1)) r) h l = refl
  not_bounds (Items.next (Item.Plain (FStep.Call a1 a2 a3)) r) h l = refl
  not_bounds (Items.next (Item.Plain (FStep.Return a1)) r) h l = refl
  not_bounds (Items.next (Item.Plain (FStep.Slot a1 a2)) r) h l = refl
  not_bounds (Items.next (Item.Plain (FStep.Look a1 a2)) r) h l = refl
  not_bounds (Items.next (Item.Plain (FStep.FrameAt a1 a2)) r) h l = refl
  not_bounds (Items.next (Item.Plain (FStep.Load a1 a2 a3)) r) h l = refl
  not_bounds (Items.next (Item.Plain (FStep.Store a1 a2 a3)) r) h l = refl
  not_bounds (Items.next (Item.Plain (FStep.Checked a1 a2)) r) h l = refl
  not_bounds (Items.next (Item.Plain (FStep.LineMark a1)) r) h l = refl
  not_bounds (Items.next (Item.Plain (FStep.Report a1 a2)) r) h l = ap (λ z. (z && (l == a2)) && same_steps FSteps.none (all_steps g r)) (not_true (number_of_kind Bounds == number_of_kind a1) h.0.1)
  not_bounds (Items.next (Item.Plain (FStep.Env a1 a2 a3 a4)) r) h l = refl
  not_bounds (Items.next (Item.Checks (Sequence.Move bp bd bq bl bs be)) r) h l = refl
  not_bounds (Items.next (Item.Checks (Sequence.Load bw bat bl bs be)) r) h l = refl
  not_bounds (Items.next (Item.Checks (Sequence.Span bp bn bq bl bd bs be)) r) h l = refl
  not_bounds (Items.next (Item.If k x y) r) h l = refl
  not_bounds (Items.next (Item.Block x) r) h l = refl
  not_bounds (Items.next (Item.Loop x) r) h l = refl
  not_bounds (Items.next (Item.Inner x) r) h l = refl

  not_report : (a : Items) → ArePlainly a → (c l : ℕ) (Z : FSteps) → starts (FSteps.more (FStep.If c FSteps.none (report Bounds l)) Z) (all_steps g a) ≡ false
  not_report Items.end h c l Z = refl
  not_report (Items.next (Item.Plain (FStep.Number a1 a2)) r) h c l Z = refl
  not_report (Items.next (Item.Plain (FStep.Same a1 a2)) r) h c l Z = refl
  not_report (Items.next (Item.Plain (FStep.Arith a1 a2 a3 a4)) r) h c l Z = refl
  not_report (Items.next (Item.Plain (FStep.If a1 a2 a3)) r) h c l Z = wrong h.0.0
  not_report (Items.next (Item.Plain (FStep.Block a1)) r) h c l Z = refl
  not_report (Items.next (Item.Plain (FStep.Loop a1)) r) h c l Z = refl
  not_report (Items.next (Item.Plain (FStep.Inner a1)) r) h c l Z = refl
  not_report (Items.next (Item.Plain (FStep.Exit a1)) r) h c l Z = refl
  not_report (Items.next (Item.Plain (FStep.Call a1 a2 a3)) r) h c l Z = refl
  not_report (Items.next (Item.Plain (FStep.Return a1)) r) h c l Z = refl
  not_report (Items.next (Item.Plain (FStep.Slot a1 a2)) r) h c l Z = refl
  not_report (Items.next (Item.Plain (FStep.Look a1 a2)) r) h c l Z = refl
  not_report (Items.next (Item.Plain (FStep.FrameAt a1 a2)) r) h c l Z = refl
  not_report (Items.next (Item.Plain (FStep.Load a1 a2 a3)) r) h c l Z = refl
  not_report (Items.next (Item.Plain (FStep.Store a1 a2 a3)) r) h c l Z = refl
  not_report (Items.next (Item.Plain (FStep.Checked a1 a2)) r) h c l Z = refl
  not_report (Items.next (Item.Plain (FStep.LineMark a1)) r) h c l Z = refl
  not_report (Items.next (Item.Plain (FStep.Report a1 a2)) r) h c l Z = refl
  not_report (Items.next (Item.Plain (FStep.Env a1 a2 a3 a4)) r) h c l Z = refl
  not_report (Items.next (Item.Checks (Sequence.Move bp bd bq bl bs be)) r) h c l Z = refl
  not_report (Items.next (Item.Checks (Sequence.Load bw bat bl bs be)) r) h c l Z = refl
  not_report (Items.next (Item.Checks (Sequence.Span bp bn bq bl bd bs be)) r) h c l Z = refl
  not_report (Items.next (Item.If k x y) r) h c l Z = ap (λ z. ((c == k) && (same_steps FSteps.none (all_steps g x) && z)) && starts Z (all_steps g r)) (not_bounds y h.0.1 l) ∙ (ap (λ z. ((c == k) && z) && starts Z (all_steps g r)) (and_false (same_steps FSteps.none (all_steps g x))) ∙ ap (λ z. z && starts Z (all_steps g r)) (and_false (c == k)))
  not_report (Items.next (Item.Block x) r) h c l Z = refl
  not_report (Items.next (Item.Loop x) r) h c l Z = refl
  not_report (Items.next (Item.Inner x) r) h c l Z = refl

  not_span : (a : Items) → ArePlainly a → (c n d e l : ℕ) (Z : FSteps) → starts (FSteps.more (FStep.Arith c op.Ltu n d) (FSteps.more (FStep.If e FSteps.none (report Bounds l)) Z)) (all_steps g a) ≡ false
  not_span Items.end h c n d e l Z = refl
  not_span (Items.next (Item.Plain (FStep.Number a1 a2)) r) h c n d e l Z = refl
  not_span (Items.next (Item.Plain (FStep.Same a1 a2)) r) h c n d e l Z = refl
  not_span (Items.next (Item.Plain (FStep.Arith a1 a2 a3 a4)) r) h c n d e l Z = ap (λ z. ((c == a1) && ((number_of_op op.Ltu == number_of_op a2) && ((n == a3) && (d == a4)))) && z) (not_report r h.1 e l Z) ∙ and_false ((c == a1) && ((number_of_op op.Ltu == number_of_op a2) && ((n == a3) && (d == a4))))
  not_span (Items.next (Item.Plain (FStep.If a1 a2 a3)) r) h c n d e l Z = refl
  not_span (Items.next (Item.Plain (FStep.Block a1)) r) h c n d e l Z = refl
  not_span (Items.next (Item.Plain (FStep.Loop a1)) r) h c n d e l Z = refl
  not_span (Items.next (Item.Plain (FStep.Inner a1)) r) h c n d e l Z = refl
  not_span (Items.next (Item.Plain (FStep.Exit a1)) r) h c n d e l Z = refl
  not_span (Items.next (Item.Plain (FStep.Call a1 a2 a3)) r) h c n d e l Z = refl
  not_span (Items.next (Item.Plain (FStep.Return a1)) r) h c n d e l Z = refl
  not_span (Items.next (Item.Plain (FStep.Slot a1 a2)) r) h c n d e l Z = refl
  not_span (Items.next (Item.Plain (FStep.Look a1 a2)) r) h c n d e l Z = refl
  not_span (Items.next (Item.Plain (FStep.FrameAt a1 a2)) r) h c n d e l Z = refl
  not_span (Items.next (Item.Plain (FStep.Load a1 a2 a3)) r) h c n d e l Z = refl
  not_span (Items.next (Item.Plain (FStep.Store a1 a2 a3)) r) h c n d e l Z = refl
  not_span (Items.next (Item.Plain (FStep.Checked a1 a2)) r) h c n d e l Z = refl
  not_span (Items.next (Item.Plain (FStep.LineMark a1)) r) h c n d e l Z = refl
  not_span (Items.next (Item.Plain (FStep.Report a1 a2)) r) h c n d e l Z = refl
  not_span (Items.next (Item.Plain (FStep.Env a1 a2 a3 a4)) r) h c n d e l Z = refl
  not_span (Items.next (Item.Checks (Sequence.Move bp bd bq bl bs be)) r) h c n d e l Z = refl
  not_span (Items.next (Item.Checks (Sequence.Load bw bat bl bs be)) r) h c n d e l Z = refl
  not_span (Items.next (Item.Checks (Sequence.Span bp bn bq bl bd bs be)) r) h c n d e l Z = refl
  not_span (Items.next (Item.If k x y) r) h c n d e l Z = refl
  not_span (Items.next (Item.Block x) r) h c n d e l Z = refl
  not_span (Items.next (Item.Loop x) r) h c n d e l Z = refl
  not_span (Items.next (Item.Inner x) r) h c n d e l Z = refl

  off : (q : Sequence) (a : FSteps) (other : Option Sequence) → starts (sequence_steps g q) a ≡ false → if_begins g q a other ≡ other
  off q a other e = ap (λ t. cond (t && is_apart q) (Some q) other) e

  load_off : (a : FSteps) (other : Option Sequence) → ((w at l s e : ℕ) → starts (load_sequence g w at l s e) a ≡ false) → if_begins g (load_of a) a other ≡ other
  load_off a other h = let owned : FSteps = first_of (step_at 1 a) in off (load_of a) a other (h (target (step_at 0 a)) (source (step_at 0 a)) (line_value (step_at 0 (second_of (step_at 3 owned)))) (target (step_at 0 owned)) (target (step_at 1 owned)))

  span_off : (a : FSteps) (other : Option Sequence) → ((p n q l d s e : ℕ) → starts (span_sequence g p n q l d s e) a ≡ false) → if_begins g (span_of a) a other ≡ other
  span_off a other h = let touch : FSteps = first_of (step_at 3 a) in off (span_of a) a other (h (source (step_at 0 touch)) (source (step_at 1 a)) (target (step_at 6 touch)) (line_value (step_at 0 (second_of (step_at 2 a)))) (target (step_at 0 a)) (target (step_at 3 touch)) (target (step_at 4 touch)))

  -- a plain step is no beginning of a sequence
  none_at : (s : FStep) (r : Items) → is_plain s ≡ true → ArePlainly r → sequence_at g (FSteps.more s (all_steps g r)) ≡ None
  none_at (FStep.Number a1 a2) r h hr = span_off (FSteps.more (FStep.Number a1 a2) (all_steps g r)) None (λ p n q l d s e. ap (λ z. ((d == a1) && (0x0100_0001 == a2)) && z) (not_span r hr d n d d l (dropped 3 (span_sequence g p n q l d s e))) ∙ and_false ((d == a1) && (0x0100_0001 == a2)))
  none_at (FStep.Same a1 a2) r h hr = refl
  none_at (FStep.Arith a1 a2 a3 a4) r h hr = refl
  none_at (FStep.If a1 a2 a3) r h hr = wrong h
  none_at (FStep.Block a1) r h hr = wrong h
  none_at (FStep.Loop a1) r h hr = wrong h
  none_at (FStep.Inner a1) r h hr = wrong h
  none_at (FStep.Exit a1) r h hr = refl
  none_at (FStep.Call a1 a2 a3) r h hr = refl
  none_at (FStep.Return a1) r h hr = refl
  none_at (FStep.Slot a1 a2) r h hr = wrong h
  none_at (FStep.Look a1 a2) r h hr = wrong h
  none_at (FStep.FrameAt a1 a2) r h hr = refl
  none_at (FStep.Load a1 a2 a3) r h hr = load_off (FSteps.more (FStep.Load a1 a2 a3) (all_steps g r)) None (λ w at l s e. ap (λ z. ((w == a1) && ((at == a2) && (number_of_width width.Pointer == number_of_width a3))) && z) (not_load r hr w s w e (2 ^ (25 - g)) (dropped 2 (owned_steps g w l s e)) FSteps.none FSteps.none) ∙ and_false ((w == a1) && ((at == a2) && (number_of_width width.Pointer == number_of_width a3))))
  none_at (FStep.Store a1 a2 a3) r h hr = refl
  none_at (FStep.Checked a1 a2) r h hr = wrong h
  none_at (FStep.LineMark a1) r h hr = refl
  none_at (FStep.Report a1 a2) r h hr = refl
  none_at (FStep.Env a1 a2 a3 a4) r h hr = refl

  plain_item : (s : FStep) → is_plain s ≡ true → item_of g s ≡ Item.Plain s
  plain_item (FStep.Number a1 a2) h = refl
  plain_item (FStep.Same a1 a2) h = refl
  plain_item (FStep.Arith a1 a2 a3 a4) h = refl
  plain_item (FStep.If a1 a2 a3) h = wrong h
  plain_item (FStep.Block a1) h = wrong h
  plain_item (FStep.Loop a1) h = wrong h
  plain_item (FStep.Inner a1) h = wrong h
  plain_item (FStep.Exit a1) h = refl
  plain_item (FStep.Call a1 a2 a3) h = refl
  plain_item (FStep.Return a1) h = refl
  plain_item (FStep.Slot a1 a2) h = wrong h
  plain_item (FStep.Look a1 a2) h = wrong h
  plain_item (FStep.FrameAt a1 a2) h = refl
  plain_item (FStep.Load a1 a2 a3) h = refl
  plain_item (FStep.Store a1 a2 a3) h = refl
  plain_item (FStep.Checked a1 a2) h = wrong h
  plain_item (FStep.LineMark a1) h = refl
  plain_item (FStep.Report a1 a2) h = refl
  plain_item (FStep.Env a1 a2 a3 a4) h = refl

  mutual
    read_item : (i : Item) (r : Items) → IsPlainly i → ArePlainly r → items_from g 0 (item_steps g i +++ all_steps g r) ≡ Items.next i (items_from g 0 (all_steps g r))
    read_item (Item.Plain s) r h hr = ap (λ o. Items.next (item_or o (item_of g s)) (items_from g (further g o) (all_steps g r))) (none_at s r h.0 hr) ∙ ap (λ i. Items.next i (items_from g 0 (all_steps g r))) (plain_item s h.0)
    read_item (Item.Checks q) r h hr = sequence_items finds g q (all_steps g r) h
    read_item (Item.If c a b) r h hr = ap (λ x. Items.next (Item.If c x (items_from g 0 (all_steps g b))) (items_from g 0 (all_steps g r))) (read_back a h.0) ∙ ap (λ x. Items.next (Item.If c a x) (items_from g 0 (all_steps g r))) (read_back b h.1)
    read_item (Item.Block a) r h hr = ap (λ x. Items.next (Item.Block x) (items_from g 0 (all_steps g r))) (read_back a h)
    read_item (Item.Loop a) r h hr = ap (λ x. Items.next (Item.Loop x) (items_from g 0 (all_steps g r))) (read_back a h)
    read_item (Item.Inner a) r h hr = ap (λ x. Items.next (Item.Inner x) (items_from g 0 (all_steps g r))) (read_back a h)

    read_back : (is : Items) → ArePlainly is → items_from g 0 (all_steps g is) ≡ is
    read_back Items.end h = refl
    read_back (Items.next i r) h = read_item i r h.0 h.1 ∙ ap (λ x. Items.next i x) (read_back r h.1)

pub plain_items_are_read : Finds → PlainItemsAreRead
plain_items_are_read finds g is h = read_back finds g is h
