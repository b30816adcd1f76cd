-- Calls that are entered one under the other, and their blocks.
use Rattle.std.proofs.Common.{◌≡◌, ℕ, ◌+◌, ◌-◌, ◌/◌, ◌^◌, ◌≤◌, List, [], ◌∷◌, ◌++◌, length, take, append-nil, Some, refl, sym, ap, subst, ◌∙◌, arith, append_assoc}
use Rattle.std.specs.Prelude.{All, slice_get}
use Rattle.std.proofs.lemmas.List.{take_all, take_more}
use Rattle.std.proofs.lemmas.List.Elements.{All-nil, All-append}
use Rattle.std.proofs.lemmas.Nat.{shr_split}
use Rattle.std.proofs.lemmas.Option.{slice_get_within, get_or_from_slice_get}
use Rattle.rv_image.specs.Rules.{Decline, AreFrames, total_size}
use Rattle.rv_machine.specs.declared.frames.Entered.{Entered}
use Rattle.size_table.specs.Made.{blocks_from}
use Rattle.rv_machine.specs.Frames.{alignment, stack_under, IsCall, AreCalls}
use Rattle.rv_machine.specs.Live.{frame_blocks, call_blocks}
use Rattle.rv_machine.proofs.BlockLists.{LieBetween, between_append, between_wider, disjoint_down, from_between, from_disjoint, from_aligned, multiple}
use Rattle.rv_machine.proofs.Layouts.{frame_at}
use Rattle.size_table.specs.Blocks.{Block, IsBlock, AreDisjoint}

-- ---- A frame

-- a frame that is entered on the data stack
pub record IsPlaced (top base : ℕ) (es : List ℕ) : Type 0 where
  pub below : base + total_size es ≤ top
  pub blocks : All (IsBlock 4) (blocks_from base es)

under_below : (top : ℕ) (es : List ℕ) → 12582912 ≤ stack_under top es → stack_under top es + total_size es ≤ top
under_below top es h = let split = shr_split (top - total_size es) (alignment es) in omega (arith, split, h)

under_aligned : (top : ℕ) (es : List ℕ) → Decline 20 es → stack_under top es + total_size es ≤ 33554432 → All (IsBlock 4) (blocks_from (stack_under top es) es)
under_aligned top [] d h = All-nil (IsBlock 4)
under_aligned top (e ∷ es) d h =
    from_aligned e (stack_under top (e ∷ es)) (e ∷ es) (omega (arith, d.1)) (multiple ((top - total_size (e ∷ es)) / 2 ^ e) e) (d.0, omega arith, d.2) h

pub placed : (top base : ℕ) (es : List ℕ) → Decline 20 es → top ≤ 16777216 → base ≡ stack_under top es → 12582912 ≤ base → IsPlaced top base es
placed top base es d small is room =
    let below = under_below top es (omega (arith, is, room)) in
    rw is (record { below = below; blocks = under_aligned top es d (omega (arith, below, small)) })

-- ---- The blocks of a call

pub blocks_of_call : (layouts : List (List ℕ)) (top base : ℕ) (call : Entered) (c : IsCall layouts top base call) → frame_blocks call.back (slice_get layouts call.frame) ≡ blocks_from base c.exponents
blocks_of_call layouts top base call c =
    ap (frame_blocks call.back) c.layout
    ∙ ap (λ (n : ℕ). blocks_from (stack_under n c.exponents) c.exponents) c.back
    ∙ ap (λ (n : ℕ). blocks_from n c.exponents) (sym c.under)

pub call_placed : (layouts : List (List ℕ)) → AreFrames layouts → (top base : ℕ) (call : Entered) → top ≤ 16777216 → (c : IsCall layouts top base call) → IsPlaced top base c.exponents
call_placed layouts fit top base call small c = placed top base c.exponents (frame_at layouts fit call.frame c.exponents c.layout).0 small c.under c.room

-- ---- Calls after one another

-- what is known of the blocks of calls that were entered from one stack number to another
pub record AreStacked (low high : ℕ) (blocks : List Block) : Type 0 where
  pub ordered : low ≤ high
  pub between : LieBetween low high blocks
  pub disjoint : AreDisjoint blocks
  pub each : All (IsBlock 4) blocks

pub one_call : (top base : ℕ) (es : List ℕ) → IsPlaced top base es → AreStacked base top (blocks_from base es)
one_call top base es p = record {
  ordered = omega (arith, p.below);
  between = between_wider base (base + total_size es) base top (blocks_from base es) (omega arith) p.below (from_between base es);
  disjoint = from_disjoint base es;
  each = p.blocks;
}

pub one_under_other : (low mid high : ℕ) (xs ys : List Block) → AreStacked mid high xs → AreStacked low mid ys → AreStacked low high (xs ++ ys)
one_under_other low mid high xs ys p q = record {
  ordered = omega (arith, p.ordered, q.ordered);
  between = between_append low high xs ys (between_wider mid high low high xs q.ordered (omega arith) p.between) (between_wider low mid low high ys (omega arith) p.ordered q.between);
  disjoint = disjoint_down low mid high xs ys p.between q.between p.disjoint q.disjoint;
  each = All-append (IsBlock 4) xs ys p.each q.each;
}

pub calls_stacked : (layouts : List (List ℕ)) → AreFrames layouts → (calls : List Entered) (top stack : ℕ) → top ≤ 16777216 → AreCalls layouts top calls stack → AreStacked stack top (call_blocks layouts calls)
calls_stacked layouts fit [] top stack small h = record { ordered = omega (arith, h); between = tt; disjoint = tt; each = All-nil (IsBlock 4) }
calls_stacked layouts fit (call ∷ calls) top stack small h =
    let c = h.1 in
    let first = one_call top h.0 c.exponents (call_placed layouts fit top h.0 call small c) in
    let others = calls_stacked layouts fit calls h.0 stack (omega (arith, first.ordered, small)) h.2 in
    let same = ap (λ (bs : List Block). bs ++ call_blocks layouts calls) (blocks_of_call layouts top h.0 call c) in
    subst (AreStacked stack top) (sym same) (one_under_other stack h.0 top (blocks_from h.0 c.exponents) (call_blocks layouts calls) first others)

-- ---- A call more, and a call less

pub call_entered : (layouts : List (List ℕ)) (calls : List Entered) (top stack base : ℕ) (call : Entered) → AreCalls layouts top calls stack → IsCall layouts stack base call → AreCalls layouts top (calls ++ call ∷ []) base
call_entered layouts [] top stack base call h c = (base, subst (λ (n : ℕ). IsCall layouts n base call) (sym h) c, refl)
call_entered layouts (first ∷ calls) top stack base call h c = (h.0, h.1, call_entered layouts calls h.0 stack base call h.2 c)

pub call_left : (layouts : List (List ℕ)) (calls : List Entered) (top base : ℕ) (call : Entered) → AreCalls layouts top (calls ++ call ∷ []) base → (stack : ℕ) × AreCalls layouts top calls stack × IsCall layouts stack base call
call_left layouts [] top base call h = (top, refl, subst (λ (n : ℕ). IsCall layouts top n call) h.2 h.1)
call_left layouts (first ∷ calls) top base call h =
    let rest = call_left layouts calls h.0 base call h.2 in
    (rest.0, (h.0, h.1, rest.1), rest.2)

pub blocks_append : (layouts : List (List ℕ)) (calls : List Entered) (call : Entered) → call_blocks layouts (calls ++ call ∷ []) ≡ call_blocks layouts calls ++ frame_blocks call.back (slice_get layouts call.frame)
blocks_append layouts [] call = append-nil (frame_blocks call.back (slice_get layouts call.frame))
blocks_append layouts (first ∷ calls) call =
    let bs = frame_blocks first.back (slice_get layouts first.frame) in
    ap (λ (l : List Block). bs ++ l) (blocks_append layouts calls call) ∙ sym (append_assoc bs (call_blocks layouts calls) (frame_blocks call.back (slice_get layouts call.frame)))

-- the last call of some
pub last_split : (calls : List Entered) (call : Entered) → slice_get calls (length calls - 1) ≡ Some call → calls ≡ take (length calls - 1) calls ++ call ∷ []
last_split calls call h =
    let k = length calls - 1 in
    let within = slice_get_within calls k call h in
    let whole : k + 1 ≡ length calls = omega (arith, within) in
    sym (take_all (k + 1) calls (omega (arith, whole)))
    ∙ take_more calls k call within
    ∙ ap (λ (c : Entered). take k calls ++ c ∷ []) (get_or_from_slice_get calls k call call h)

-- what is known of the last call and of those before it, from the upper end of the data stack on
pub record IsLast (layouts : List (List ℕ)) (calls : List Entered) (stack : ℕ) (call : Entered) (es : List ℕ) : Type 0 where
  pub others : AreCalls layouts 16777216 (take (length calls - 1) calls) call.back
  pub placed : IsPlaced call.back stack es
  pub small : call.back ≤ 16777216
  pub blocks : call_blocks layouts calls ≡ call_blocks layouts (take (length calls - 1) calls) ++ blocks_from stack es

pub is_last : (layouts : List (List ℕ)) (calls : List Entered) (stack : ℕ) (call : Entered) (es : List ℕ) → AreFrames layouts → AreCalls layouts 16777216 calls stack → slice_get calls (length calls - 1) ≡ Some call → slice_get layouts call.frame ≡ Some es → IsLast layouts calls stack call es
is_last layouts calls stack call es fit chain last layout =
    let others = take (length calls - 1) calls in
    let split : calls ≡ others ++ call ∷ [] = last_split calls call last in
    let parts = call_left layouts others 16777216 stack call (subst (λ (l : List Entered). AreCalls layouts 16777216 l stack) split chain) in
    let entry = parts.2 in
    let same : Some entry.exponents ≡ Some es = sym entry.layout ∙ layout in
    let exponents : entry.exponents ≡ es = cc in
    let stacked = calls_stacked layouts fit others 16777216 parts.0 (omega arith) parts.1 in
    let place = call_placed layouts fit parts.0 stack call stacked.ordered entry in
    let bs = blocks_from stack es in
    let frame_is : frame_blocks call.back (slice_get layouts call.frame) ≡ bs = blocks_of_call layouts parts.0 stack call entry ∙ ap (blocks_from stack) exponents in
    record {
      others = subst (λ (n : ℕ). AreCalls layouts 16777216 others n) (sym entry.back) parts.1;
      placed = subst (λ (n : ℕ). IsPlaced n stack es) (sym entry.back) (subst (IsPlaced parts.0 stack) exponents place);
      small = (let ordered = stacked.ordered in let back = entry.back in omega (arith, ordered, back));
      blocks = ap (call_blocks layouts) split ∙ blocks_append layouts others call ∙ ap (λ (l : List Block). call_blocks layouts others ++ l) frame_is;
    }
